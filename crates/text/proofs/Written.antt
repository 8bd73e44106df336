-- What is written of the lines of a text, line by line. Assumes nothing.
use Rattle.std.proofs.Common.{◌≡◌, ℕ, ◌+◌, ◌-◌, ◌^◌, ◌<◌, min, eqb, cond, List, [], ◌∷◌, ◌++◌, length, take, Some, None, Ok, Err, IfSome, OnOk, Option, Result, sym, ap, ◌∙◌, subst, inl, inr, arith, append_assoc, append-nil, length-take}
use Rattle.std.proofs.lemmas.List.Sums.{fold_push}
use Rattle.std.proofs.lemmas.Bool.{cond-true, cond-false, cases_lt, cases_Bool, eq-eqb, ne_eqb}
use Rattle.std.proofs.KnownBytes.{Appends-trans, Consumes-trans, Consumes-whole}
use Rattle.std.specs.Io.KnownBytes.{Appends, Consumes, IsAtEnd}
use Rattle.text.specs.Lines.{and_byte, lines_of, lines_in, Known, known_in}
use Rattle.text.specs.Answers.{answers_from, rest_text}

module _ (answer : Known → List ℕ) where
  abbrev written : List (List ℕ) → List ℕ
  written ls = answers_from answer 1 ls

  -- one more line
  more : (n m : ℕ) (ls : List (List ℕ)) (l : List ℕ) → m ≡ n + length ls → answers_from answer n (ls ++ (l ∷ [])) ≡ answers_from answer n ls ++ (answer (record { number = min m (2 ^ 64 - 1); text = take 33 l }) ++ (10 ∷ []))
  more n m [] l e = let k : n ≡ m = omega arith in ap (λ i. answer (record { number = min i (2 ^ 64 - 1); text = take 33 l }) ++ (10 ∷ [])) k
  more n m (k ∷ ls) l e =
      let a = answer (record { number = min n (2 ^ 64 - 1); text = take 33 k }) in
      ap (λ t. a ++ (10 ∷ t)) (more (n + 1) m ls l (omega arith)) ∙ sym (append_assoc a (10 ∷ answers_from answer (n + 1) ls) _)

  -- a byte more
  after : (bs : List ℕ) (b : ℕ) → lines_of (bs ++ (b ∷ [])) ≡ and_byte (lines_of bs) b
  after bs b = fold_push and_byte (record { ended = []; rest = [] }) bs b

  -- a line feed ends a line, whose answer is written
  pub line_ended : (bs : List ℕ) (b : ℕ) (k e : Known) (old mid new : Option (List ℕ)) → Some e ≡ cond (eqb b 10) (Some k) None → k ≡ known_in (lines_of bs)
      → Appends old mid (written (lines_of bs).ended) → Appends mid new (answer e ++ (10 ∷ [])) → Appends old new (written (lines_of (bs ++ (b ∷ []))).ended)
  line_ended bs b k e old mid new t h p q =
      elim (cases_Bool (eqb b 10)) [
        | inl d ↦
            let s = lines_of bs in
            let n : length s.ended + 1 ≡ 1 + length s.ended = omega arith in
            let same : Some e ≡ Some k = t ∙ cond-true (eqb b 10) (Some k) None d in
            let ls : (lines_of (bs ++ (b ∷ []))).ended ≡ s.ended ++ (s.rest ∷ []) = ap (λ u. u.ended) (after bs b ∙ cond-true (eqb b 10) _ _ d) in
            let ks : known_in s ≡ e = cc in
            subst (Appends old new)
            (sym (ap written ls ∙ more 1 (length s.ended + 1) s.ended s.rest n ∙ ap (λ i. written s.ended ++ (answer i ++ (10 ∷ []))) ks))
            (Appends-trans old mid new _ _ p q)
        | inr d ↦ let none : Some e ≡ None = t ∙ cond-false (eqb b 10) (Some k) None d in absurd cc
      ]

  -- any other byte writes nothing
  pub line_goes_on : (bs : List ℕ) (b : ℕ) (k : Known) → None ≡ cond (eqb b 10) (Some k) None → written (lines_of (bs ++ (b ∷ []))).ended ≡ written (lines_of bs).ended
  line_goes_on bs b k t =
      elim (cases_Bool (eqb b 10)) [
        | inl d ↦ let some : None ≡ Some k = t ∙ cond-true (eqb b 10) (Some k) None d in absurd cc
        | inr d ↦ ap (λ u. written u.ended) (after bs b ∙ cond-false (eqb b 10) _ _ d)
      ]

  -- what stands behind the last line feed is a line where it has a byte
  one_left : (bs : List ℕ) (k : Known) → k ≡ known_in (lines_of bs) → 0 < length k.text → written (lines_in bs) ≡ written (lines_of bs).ended ++ (answer k ++ (10 ∷ []))
  one_left bs k e h =
      let s = lines_of bs in
      let n : length s.ended + 1 ≡ 1 + length s.ended = omega arith in
      let l : length (take 33 s.rest) ≡ length k.text = ap (λ i. length i.text) (sym e) in
      let some : length s.rest ≡ 0 → ⊥ = λ z. omega (arith, length-take 33 s.rest) in
      ap (λ ls. written (s.ended ++ ls)) (cond-false (eqb (length s.rest) 0) _ _ (ne_eqb (length s.rest) 0 some))
      ∙ more 1 (length s.ended + 1) s.ended s.rest n
      ∙ ap (λ i. written s.ended ++ (answer i ++ (10 ∷ []))) (sym e)

  rest_left : (bs : List ℕ) (k : Known) → k ≡ known_in (lines_of bs) → written (lines_in bs) ≡ written (lines_of bs).ended ++ rest_text answer k
  rest_left bs k e =
      let s = lines_of bs in
      let l : length (take 33 s.rest) ≡ length k.text = ap (λ i. length i.text) (sym e) in
      elim (cases_lt 0 (length k.text)) [
        | inl h ↦
            let some : length k.text ≡ 0 → ⊥ = λ z. omega arith in
            one_left bs k e h ∙ ap (λ t. written s.ended ++ t) (sym (cond-false (eqb (length k.text) 0) [] (answer k ++ (10 ∷ [])) (ne_eqb (length k.text) 0 some)))
        | inr h ↦
            let none : length s.rest ≡ 0 = omega (arith, length-take 33 s.rest) in
            ap (λ ls. written (s.ended ++ ls)) (cond-true (eqb (length s.rest) 0) _ _ (eq-eqb (length s.rest) 0 none))
            ∙ ap written (append-nil s.ended)
            ∙ sym (append-nil (written s.ended))
            ∙ ap (λ t. written s.ended ++ t) (sym (cond-true (eqb (length k.text) 0) [] (answer k ++ (10 ∷ [])) (eq-eqb (length k.text) 0 (omega arith))))
      ]

  -- at the end of the input every line is answered
  pub finished : {U E : Type 0} (r : Result U E) (there mid left : Option (List ℕ)) (bs last : List ℕ) (k : Known) (old held new : Option (List ℕ)) → Consumes there mid bs → Consumes mid left last → last ≡ []
      → IsAtEnd left → k ≡ known_in (lines_of bs) → Appends old held (written (lines_of bs).ended) → OnOk r (Appends held new (rest_text answer k)) → OnOk r (IfSome there (λ text. Appends old new (written (lines_in text))))
  finished (Ok u) there mid left bs last k old held new c d n z e p q =
      let all : Consumes there left bs = subst (Consumes there left) (ap (λ t. bs ++ t) n ∙ append-nil bs) (Consumes-trans there mid left bs last c d) in
      Consumes-whole there left bs (λ text. Appends old new (written (lines_in text))) all z (subst (Appends old new) (sym (rest_left bs k e)) (Appends-trans old held new _ _ p q))
  finished (Err u) there mid left bs last k old held new c d n z e p q = tt
