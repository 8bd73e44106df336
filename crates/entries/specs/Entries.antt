-- An entry line of a sheet in its fields. Assumes nothing.
use Rattle.std.specs.Prelude.{ℕ, ◌+◌, ◌-◌, cond, List, length, take, drop, slice_index, Ok, Err, Result, ◌==◌}
use Rattle.std.specs.Result.{result_map_both}
use Rattle.refusals.specs.declared.Fault.{Fault}
use Rattle.refusals.specs.declared.Refusal.TheVariants.{LineLength, UnknownLetter}
use Rattle.entries.specs.declared.field.Field.{Field}
use Rattle.entries.specs.declared.entry.Entry.{Entry}
use Rattle.entries.specs.declared.entry.Entry.TheVariants.{Mode, Divide, Post, Totals, Clear, Lower}
use Rattle.entries.specs.declared.entry.Operands.{Operands}
use Rattle.entries.specs.Fields.{at_column}

-- the bytes of a field, and the first of its columns
pub record Part : Type 0 where
  pub text : List ℕ
  pub column : ℕ

-- the coefficients and exponents of two numbers
pub record Parts : Type 0 where
  pub dividend : Part
  pub dividend_exponent : Part
  pub divisor : Part
  pub divisor_exponent : Part

-- an entry of each letter, in the fields that it uses, and what it leaves unused
pub data Seen : Type 0 where
  mode : Part → Part → Seen
  divide : Parts → Seen
  post : Parts → Seen
  totals : Part → Seen
  clear : Part → Seen
  lower : Part → Seen

abbrev pub part : Field → Part
part f = record { text = f.text.now; column = f.column }

abbrev pub parts : Operands → Parts
parts o =
    record {
      dividend = part o.dividend;
      dividend_exponent = part o.dividend_exponent;
      divisor = part o.divisor;
      divisor_exponent = part o.divisor_exponent;
    }

abbrev pub seen : Entry → Seen
seen (Mode f g) = mode (part f) (part g)
seen (Divide o) = divide (parts o)
seen (Post o) = post (parts o)
seen (Totals f) = totals (part f)
seen (Clear f) = clear (part f)
seen (Lower f) = lower (part f)

-- the columns from `first` to `last`
abbrev pub columns : ℕ → ℕ → List ℕ → Part
columns first last line = record { text = take (last + 1 - first) (drop (first - 1) line); column = first }

abbrev pub operands_in : List ℕ → Parts
operands_in line =
    record {
      dividend = columns 2 10 line;
      dividend_exponent = columns 11 15 line;
      divisor = columns 16 24 line;
      divisor_exponent = columns 25 29 line;
    }

-- M, D, P, T, C, F
abbrev pub by_letter : ℕ → List ℕ → Result Seen Fault
by_letter b line =
    cond (b == 77) (Ok (mode (columns 2 10 line) (columns 11 29 line)))
    (cond (b == 68) (Ok (divide (operands_in line)))
    (cond (b == 80) (Ok (post (operands_in line)))
    (cond (b == 84) (Ok (totals (columns 2 29 line)))
    (cond (b == 67) (Ok (clear (columns 2 29 line)))
    (cond (b == 70) (Ok (lower (columns 2 29 line)))
    (Err (at_column 1 UnknownLetter)))))))

-- the entry on a line of 29 characters
abbrev pub entry_in : List ℕ → Result Seen Fault
entry_in line = cond (length line == 29) (by_letter (slice_index line 0) line) (Err (at_column 1 LineLength))

abbrev pub seen_result : Result Entry Fault → Result Seen Fault
seen_result r = result_map_both seen (λ f. f) r
