-- Text in lines: byte 10 ends a line, and what stands behind the last end is a line too if it has a byte. Assumes nothing.
use Rattle.std.specs.Prelude.{ℕ, ◌+◌, ◌-◌, ◌^◌, min, cond, List, [], ◌∷◌, ◌++◌, length, take, fold, ◌==◌}

-- a text in its lines that are ended and what follows the last end
pub record Split : Type 0 where
  pub ended : List (List ℕ)
  pub rest : List ℕ

abbrev pub and_byte : Split → ℕ → Split
and_byte s b = cond (b == 10) (record { ended = s.ended ++ (s.rest ∷ []); rest = [] }) (record { ended = s.ended; rest = s.rest ++ (b ∷ []) })

abbrev pub lines_of : List ℕ → Split
lines_of bs = fold and_byte (record { ended = []; rest = [] }) bs

-- the lines of a text
abbrev pub lines_in : List ℕ → List (List ℕ)
lines_in bs = (lines_of bs).ended ++ cond (length (lines_of bs).rest == 0) [] ((lines_of bs).rest ∷ [])

-- what is known of a line: its number, which stays at the greatest of 64 bits once it is there, and its first 33 bytes
pub record Known : Type 0 where
  pub number : ℕ
  pub text : List ℕ

abbrev pub first_known : Known
first_known = record { number = 1; text = [] }

abbrev pub next_known : Known → Known
next_known k = record { number = min (k.number + 1) (2 ^ 64 - 1); text = [] }

abbrev pub known_with : Known → ℕ → Known
known_with k b = record { number = k.number; text = take 33 (k.text ++ (b ∷ [])) }

abbrev pub known_after : Known → ℕ → Known
known_after k b = cond (b == 10) (next_known k) (known_with k b)

-- what is known of the line that a text has come to
abbrev pub known_in : Split → Known
known_in s = record { number = min (length s.ended + 1) (2 ^ 64 - 1); text = take 33 s.rest }
