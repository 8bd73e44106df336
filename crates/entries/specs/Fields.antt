-- A field of an entry line, and the number that it says. Assumes nothing.
use Rattle.std.specs.Prelude.{ℕ, Bool, true, false, cond, List, [], ◌∷◌, length, drop, slice_index, Option, Ok, Err, Result, ◌==◌}
use Rattle.std.specs.Option.{option_map, ok_or}
use Rattle.refusals.specs.declared.Fault.{Fault}
use Rattle.refusals.specs.declared.Refusal.{Refusal}
use Rattle.refusals.specs.declared.Refusal.TheVariants.{NotANumber}
use Rattle.text.specs.Numerals.{number_in}
use Rattle.entries.specs.declared.field.Numeral.{Numeral}

-- a refusal at a column
abbrev pub at_column : ℕ → Refusal → Fault
at_column c r = record { refusal = r; place = c }

abbrev pub is_blank : ℕ → Bool
is_blank b = b == 32

-- a text without the blanks in front
abbrev pub behind_blanks : List ℕ → List ℕ
behind_blanks [] = []
behind_blanks (b ∷ bs) = cond (is_blank b) (behind_blanks bs) (b ∷ bs)

-- digits, with or without a minus directly in front
abbrev pub numeral_in : List ℕ → Option Numeral
numeral_in bs =
    cond (slice_index bs 0 == 45) (option_map (λ n. record { negative = true; magnitude = n }) (number_in (drop 1 bs)))
    (option_map (λ n. record { negative = false; magnitude = n }) (number_in bs))

-- what a field says: a number to the right of blanks
abbrev pub said : ℕ → List ℕ → Result Numeral Fault
said c bs = ok_or (numeral_in (behind_blanks bs)) (at_column c NotANumber)

-- a field that is not used is blank
abbrev pub unused : ℕ → List ℕ → Result (Unit {0}) Fault
unused c bs = cond (length (behind_blanks bs) == 0) (Ok tt) (Err (at_column c NotANumber))
