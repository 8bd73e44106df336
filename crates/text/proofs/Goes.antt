-- What is known of a line, as a text goes on. Assumes nothing.
use Rattle.std.proofs.Common.{◌≡◌, ℕ, ◌+◌, ◌-◌, ◌^◌, ◌<◌, ◌≤◌, min, eqb, List, [], ◌∷◌, ◌++◌, length, take, drop, set, replicate, sym, ap, ◌∙◌, inl, inr, arith, length-append}
use Rattle.std.proofs.lemmas.List.{take_all, length-take-le, take-append-le, take_more_set, drop-set-lt, drop-drop, drop-replicate}
use Rattle.std.proofs.lemmas.List.Sums.{fold_push}
use Rattle.std.proofs.lemmas.Bool.{cases_lt, cases_Bool, cond-true, cond-false}
use Rattle.text.specs.Lines.{Split, and_byte, lines_of, Known, next_known, known_with, known_after, known_in}

-- a byte behind the first 33 does not matter
pub kept : (xs : List ℕ) (b : ℕ) → take 33 (take 33 xs ++ (b ∷ [])) ≡ take 33 (xs ++ (b ∷ []))
kept xs b =
    elim (cases_lt (length xs) 33) [
      | inl h ↦ ap (λ ys. take 33 (ys ++ (b ∷ []))) (take_all 33 xs (omega arith))
      | inr h ↦
          let l : length (take 33 xs) ≡ 33 = length-take-le 33 xs h in
          take-append-le 33 (take 33 xs) (b ∷ []) (omega arith) ∙ take_all 33 (take 33 xs) (omega arith) ∙ sym (take-append-le 33 xs (b ∷ []) h)
    ]

-- a line that has room, and one that has none
pub grown : (xs : List ℕ) (n b : ℕ) → n < 33 → length xs ≡ 33 → take (n + 1) (set xs n b) ≡ take 33 (take n xs ++ (b ∷ []))
grown xs n b h l =
    let room : n < length xs = omega arith in
    let some : n ≤ length xs = omega arith in
    let e : length (take n xs ++ (b ∷ [])) ≡ n + 1 = length-append (take n xs) (b ∷ []) ∙ ap (λ k. k + 1) (length-take-le n xs some) in
    take_more_set xs n b room ∙ sym (take_all 33 (take n xs ++ (b ∷ [])) (omega arith))

pub full : (xs : List ℕ) (n b : ℕ) → n ≡ 33 → length xs ≡ 33 → take n xs ≡ take 33 (take n xs ++ (b ∷ []))
full xs n b e l =
    let some : n ≤ length xs = omega arith in
    let k : length (take n xs) ≡ n = length-take-le n xs some in
    sym (take-append-le 33 (take n xs) (b ∷ []) (omega arith) ∙ take_all 33 (take n xs) (omega arith))

-- the zeros behind a line that has grown
pub zeros_behind : (xs : List ℕ) (n b : ℕ) → drop n xs ≡ replicate (33 - n) 0 → drop (n + 1) (set xs n b) ≡ replicate (33 - (n + 1)) 0
zeros_behind xs n b z =
    drop-set-lt (n + 1) xs n b (omega arith) ∙ sym (drop-drop 1 n xs) ∙ ap (drop 1) z ∙ drop-replicate 1 (33 - n) 0 ∙ ap (λ k. replicate k 0) (omega arith)

same_step : (s : Split) (b : ℕ) → known_after (known_in s) b ≡ known_in (and_byte s b)
same_step s b =
    elim (cases_Bool (eqb b 10)) [
      | inl e ↦
          cond-true (eqb b 10) (next_known (known_in s)) (known_with (known_in s) b) e
          ∙ (λ i. record { number = number i; text = [] })
          ∙ ap known_in (sym (cond-true (eqb b 10) _ _ e))
      | inr e ↦
          cond-false (eqb b 10) (next_known (known_in s)) (known_with (known_in s) b) e
          ∙ (λ i. record { number = min (length s.ended + 1) (2 ^ 64 - 1); text = kept s.rest b i })
          ∙ ap known_in (sym (cond-false (eqb b 10) _ _ e))
    ]
  where
    number : min (min (length s.ended + 1) (2 ^ 64 - 1) + 1) (2 ^ 64 - 1) ≡ min (length (s.ended ++ (s.rest ∷ [])) + 1) (2 ^ 64 - 1)
    number = rw (length-append s.ended (s.rest ∷ [])) (omega arith)

-- so whatever text came before, what is known is of the text so far
pub goes_on : (k l : Known) (b : ℕ) → l ≡ known_after k b → (text : List ℕ) → k ≡ known_in (lines_of text) → l ≡ known_in (lines_of (text ++ (b ∷ [])))
goes_on k l b e text h =
    e ∙ ap (λ m. known_after m b) h ∙ same_step (lines_of text) b
    ∙ ap known_in (sym (fold_push and_byte (record { ended = []; rest = [] }) text b))
