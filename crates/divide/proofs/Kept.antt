-- What is kept of a line tells what it asks for, or what is wrong with it. Assumes nothing.
use Rattle.std.proofs.Common.{◌≡◌, ℕ, zero, suc, ◌+◌, ◌-◌, ◌<◌, ◌≤◌, min, cond, not, Bool, true, false, ltb, List, [], ◌∷◌, length, take, drop, Some, None, Ok, Err, Option, Result, sym, refl, ap, ◌∙◌, inl, inr, arith}
use Rattle.std.proofs.lemmas.List.{take_all, take_rest, take-take, drop-take, length-drop, length-take-le}
use Rattle.std.proofs.lemmas.Bool.{cases_lt, cases_Bool, cond-true, cond-false, lt-ltb, le-ltb}
use Rattle.std.proofs.lemmas.Bool.Decides.{nat_tests}
use Rattle.std.specs.List.{position, position_or_len}
use Rattle.text.specs.Numerals.{number_in}
use Rattle.text.specs.Texts.{word_in}
use Rattle.text.proofs.Digits.{too_long}
use Rattle.divide.specs.declared.request.Request.{Request}
use Rattle.divide.specs.declared.request.Defect.{Defect}
use Rattle.divide.specs.declared.request.Defect.TheVariants.{Mode, Dividend, Divisor}
use Rattle.divide.specs.declared.answer.Quotient.{Quotient}
use Rattle.divide.specs.declared.answer.Problem.{Problem}
use Rattle.divide.specs.Answers.{answered, request_answer}
use Rattle.divide.specs.Requests.{is_blank, field_in, and_then, with_field, request_in}

-- the place of the first blank, or the length where there is none
abbrev blank : List ℕ → ℕ
blank bs = position_or_len is_blank bs

-- a line is split at its first blank
pub split : (bs : List ℕ) (i : ℕ) → position is_blank bs ≡ Some i → Some (take i bs, take (length bs - (i + 1)) (drop (i + 1) bs)) ≡ field_in bs
split bs i e =
    elim (cases_Bool (ltb (blank bs) (length bs))) [
      | inl t ↦
          let same : Some (blank bs) ≡ Some i = sym (cond-true (ltb (blank bs) (length bs)) _ _ t) ∙ e in
          let at : i ≡ blank bs = cc in
          ap (λ r. Some (take i bs, r)) (take_rest bs (i + 1)) ∙ ap (λ k. Some (take k bs, drop (k + 1) bs)) at ∙ sym (cond-true (ltb (blank bs) (length bs)) _ _ t)
      | inr t ↦ let none : None ≡ Some i = sym (cond-false (ltb (blank bs) (length bs)) _ _ t) ∙ e in absurd cc
    ]

pub unsplit : (bs : List ℕ) → position is_blank bs ≡ None → None ≡ field_in bs
unsplit bs e =
    elim (cases_Bool (ltb (blank bs) (length bs))) [
      | inl t ↦ let some : Some (blank bs) ≡ None = sym (cond-true (ltb (blank bs) (length bs)) _ _ t) ∙ e in absurd cc
      | inr t ↦ sym (cond-false (ltb (blank bs) (length bs)) _ _ t)
    ]

-- the first blank among the first k bytes
one_more : (d : Bool) (k m n : ℕ) → m ≡ min k n → cond (not d) (1 + m) 0 ≡ min (suc k) (cond (not d) (1 + n) 0)
one_more true k m n e = omega arith
one_more false k m n e = omega arith

blank_kept : (bs : List ℕ) (k : ℕ) → blank (take k bs) ≡ min k (blank bs)
blank_kept bs zero = omega arith
blank_kept [] (suc k) = omega arith
blank_kept (b ∷ bs) (suc k) = one_more (is_blank b) k _ _ (blank_kept bs k)

here : (bs : List ℕ) → blank bs < length bs → field_in bs ≡ Some (take (blank bs) bs, drop (blank bs + 1) bs)
here bs h = cond-true (ltb (blank bs) (length bs)) _ _ (lt-ltb (blank bs) (length bs) h)

nowhere : (bs : List ℕ) → length bs ≤ blank bs → field_in bs ≡ None
nowhere bs h = cond-false (ltb (blank bs) (length bs)) _ _ (le-ltb (blank bs) (length bs) h)

same_then : {R : Type 0} (d : R) (o : Option ℕ) (f g : ℕ → R) → ((v : ℕ) → f v ≡ g v) → and_then d o f ≡ and_then d o g
same_then d None f g e = refl
same_then d (Some v) f g e = e v

-- a field of few bytes
module _ {R : Type 0} (d : R) (read : List ℕ → Option ℕ) (most : ℕ) (long : (xs : List ℕ) → most < length xs → read xs ≡ None) (f : ℕ → List ℕ → R) where
  abbrev from_field : Option (List ℕ × List ℕ) → R
  from_field o = and_then d o (λ p. and_then d (read p.0) (λ v. f v p.1))

  -- one that is too long leads nowhere
  far : (bs : List ℕ) → most < blank bs → with_field d read f bs ≡ d
  far bs h =
      elim (cases_lt (blank bs) (length bs)) [
        | inl l ↦
            let n : length (take (blank bs) bs) ≡ blank bs = length-take-le (blank bs) bs (omega arith) in
            ap from_field (here bs l) ∙ ap (λ o. and_then d o (λ v. f v (drop (blank bs + 1) bs))) (long (take (blank bs) bs) (omega arith))
        | inr l ↦ ap from_field (nowhere bs l)
      ]

  -- what follows from it is the same where the first k bytes are kept
  module _ (bs : List ℕ) (k : ℕ) (room : most < k) (more : k < length bs) (same : (i v : ℕ) → i ≤ most → f v (take (k - (i + 1)) (drop (i + 1) bs)) ≡ f v (drop (i + 1) bs)) where
    cut : (i : ℕ) → blank bs ≡ i → i < k → field_in (take k bs) ≡ Some (take i bs, take (k - (i + 1)) (drop (i + 1) bs))
    cut i e h =
        let n : length (take k bs) ≡ k = length-take-le k bs (omega arith) in
        let b : blank (take k bs) ≡ i = blank_kept bs k ∙ omega arith in
        let s : (i + 1) + (k - (i + 1)) ≡ k = omega arith in
        here (take k bs) (omega arith)
        ∙ ap (λ j. Some (take j (take k bs), drop (j + 1) (take k bs))) b
        ∙ ap (λ t. Some (t, drop (i + 1) (take k bs))) (take-take i k bs (omega arith))
        ∙ ap (λ t. Some (take i bs, t)) (ap (λ j. drop (i + 1) (take j bs)) (sym s) ∙ drop-take (i + 1) (k - (i + 1)) bs)

    field_kept : with_field d read f (take k bs) ≡ with_field d read f bs
    field_kept =
        elim (cases_lt most (blank bs)) [
          | inl h ↦ far (take k bs) (omega (arith, blank_kept bs k)) ∙ sym (far bs h)
          | inr h ↦
              let l : blank bs < length bs = omega arith in
              ap from_field (cut (blank bs) refl (omega arith)) ∙ same_then d (read (take (blank bs) bs)) _ _ (λ v. same (blank bs) v h) ∙ sym (ap from_field (here bs l))
        ]

-- more than nine bytes are no number
too_many : (xs : List ℕ) → 9 < length xs → number_in xs ≡ None
too_many xs h = grind (arith, nat_tests)

-- what the divisor makes of the request
abbrev with_divisor : ℕ → ℕ → List ℕ → Result Request Defect
with_divisor m v rest = and_then (Err Divisor) (word_in rest) (λ w. Ok (record { mode = m; pair = record { dividend = v; divisor = w } }))

divisor_kept : (m v k : ℕ) (bs : List ℕ) → 8 < k → k < length bs → with_divisor m v (take k bs) ≡ with_divisor m v bs
divisor_kept m v k bs h l =
    let n : length (take k bs) ≡ k = length-take-le k bs (omega arith) in
    ap (λ o. and_then (Err Divisor) o (λ w. Ok (record { mode = m; pair = record { dividend = v; divisor = w } }))) (too_long (take k bs) (omega arith) ∙ sym (too_long bs (omega arith)))

abbrev with_words : ℕ → List ℕ → Result Request Defect
with_words m words = with_field (Err Dividend) word_in (with_divisor m) words

words_kept : (m k : ℕ) (bs : List ℕ) → 17 < k → k < length bs → with_words m (take k bs) ≡ with_words m bs
words_kept m k bs h l =
    field_kept (Err Dividend) word_in 8 too_long (with_divisor m) bs k (omega arith) l
    (λ i v e. divisor_kept m v (k - (i + 1)) (drop (i + 1) bs) (omega arith) (omega (arith, length-drop (i + 1) bs)))

pub request_kept : (bs : List ℕ) → request_in (take 33 bs) ≡ request_in bs
request_kept bs =
    elim (cases_lt 33 (length bs)) [
      | inl h ↦
          field_kept (Err Mode) number_in 9 too_many with_words bs 33 (omega arith) h (λ i m e. words_kept m (33 - (i + 1)) (drop (i + 1) bs) (omega arith) (omega (arith, length-drop (i + 1) bs)))
      | inr h ↦ ap request_in (take_all 33 bs h)
    ]

-- so what is kept of a line tells the answer
pub answer_kept : (claim n : ℕ) (a : Result Quotient Problem) (kept : List ℕ) → a ≡ answered claim n kept → (text : List ℕ) → kept ≡ take 33 text → a ≡ answered claim n text
answer_kept claim n a kept e text k = e ∙ ap (answered claim n) k ∙ ap (request_answer claim n) (request_kept text)
