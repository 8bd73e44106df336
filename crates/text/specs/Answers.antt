-- What is written of a text that is answered line by line. Assumes nothing.
use Rattle.std.specs.Prelude.{ℕ, ◌+◌, ◌-◌, ◌^◌, min, cond, ◌==◌, length, List, [], ◌∷◌, ◌++◌, take, Ok, Err, Option, Result}
use Rattle.text.specs.Lines.{Known}

-- what is shown of an answer, or of what stands in its place
abbrev pub outcome_text : {A E : Type 0} → (A → Option (List ℕ)) → (E → Option (List ℕ)) → Result A E → Option (List ℕ)
outcome_text answer problem (Ok a) = answer a
outcome_text answer problem (Err e) = problem e

-- the answer to each line, by its number, from n on, and its first 33 bytes, with a line feed behind it
abbrev pub answers_from : (Known → List ℕ) → ℕ → List (List ℕ) → List ℕ
answers_from answer n [] = []
answers_from answer n (l ∷ ls) = answer (record { number = min n (2 ^ 64 - 1); text = take 33 l }) ++ (10 ∷ answers_from answer (n + 1) ls)

-- the same of a last line that no line feed ends, if it has a byte
abbrev pub rest_text : (Known → List ℕ) → Known → List ℕ
rest_text answer k = cond (length k.text == 0) [] (answer k ++ (10 ∷ []))
