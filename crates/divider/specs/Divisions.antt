-- The quotient of two numbers and of two words, by IEEE 754-2008: the exact quotient, rounded once. No source of reciprocals has a part in
-- it. Assumes nothing.
use Rattle.std.specs.Prelude.{ℕ, ◌+◌, ◌-◌, Bool, true, false, cond, pos, negsuc, ◌-ℤ◌, Ok, Err, Result, ◌==◌, nat_lt}
use Rattle.refusals.specs.declared.Fault.{Fault}
use Rattle.refusals.specs.declared.Refusal.TheVariants.{ClaimUnderNine}
use Rattle.refusals.specs.Refusals.{at_no_place}
use Rattle.rounding.specs.declared.sign.Sign.{Sign}
use Rattle.rounding.specs.declared.sign.Sign.TheVariants.{Plus}
use Rattle.rounding.specs.declared.mode.Mode.{Mode}
use Rattle.rounding.specs.declared.flags.Flags.{Flags}
use Rattle.rounding.specs.Flags.{no_flags}
use Rattle.decimal.specs.Numbers.{Datum, finite, infinite, quiet, signalling, datum}
use Rattle.decimal.specs.Words.{number_of, word_of}
use Rattle.decimal.specs.Words.{decimal32 as decimal32_words}
use Rattle.quotient.specs.declared.types.Magnitude.{Magnitude}
use Rattle.quotient.specs.declared.types.Magnitude.TheVariants.{Finite, Infinite}
use Rattle.quotient.specs.declared.types.Rounded.{Rounded}
use Rattle.quotient.specs.Quotients.{decimal32, quotient_top, quotient_bottom, divided}
use Rattle.divider.specs.declared.outcome.Quotient.{Quotient}
use Rattle.divider.specs.declared.outcome.QuotientWord.{QuotientWord}
use Rattle.divider.specs.Drafts.{product_sign, counted}

-- a number and the exceptions that were raised
pub record Outcome : Type 0 where
  pub number : Datum
  pub flags : Flags

abbrev pub outcome : Quotient → Outcome
outcome q = record { number = datum q.number; flags = q.flags }

-- a magnitude under its sign; exponents are counted from -101
abbrev pub signed_magnitude : Sign → Magnitude → Datum
signed_magnitude s (Finite c k) = finite s c (pos k -ℤ pos 101)
signed_magnitude s Infinite = infinite s

abbrev pub under_sign : Sign → Rounded → Outcome
under_sign s r = record { number = signed_magnitude s r.magnitude; flags = r.flags }

abbrev pub invalid_flag : Flags
invalid_flag = record { inexact = false; underflow = false; overflow = false; division_by_zero = false; invalid = true }

abbrev pub zero_divisor_flag : Flags
zero_divisor_flag = record { inexact = false; underflow = false; overflow = false; division_by_zero = true; invalid = false }

-- no number: a quiet NaN, plus, with payload 0; invalid for a signalling operand and where the quotient has no meaning
abbrev pub not_a_number : Flags → Outcome
not_a_number flags = record { number = quiet Plus 0; flags = flags }

abbrev pub exactly : Datum → Outcome
exactly n = record { number = n; flags = no_flags }

-- cy * 10^(ey - 101) over cx * 10^(ex - 101), the divisor not zero: the exact quotient, rounded once
abbrev pub rounded_quotient : Mode → Sign → ℕ → ℕ → ℕ → ℕ → Outcome
rounded_quotient mode s cy ey cx ex = under_sign s (divided decimal32 mode s (quotient_top decimal32 cy ey) (quotient_bottom cx ex) (ey + 101 - ex))

abbrev pub over_zero : Sign → ℕ → Outcome
over_zero s cy = cond (cy == 0) (not_a_number invalid_flag) (record { number = infinite s; flags = zero_divisor_flag })

abbrev pub finite_quotient : Mode → Sign → ℕ → ℕ → ℕ → ℕ → Outcome
finite_quotient mode s cy ey cx ex = cond (cx == 0) (over_zero s cy) (rounded_quotient mode s cy ey cx ex)

-- the quotient of two numbers in a mode
abbrev pub number_quotient : Mode → Datum → Datum → Outcome
number_quotient mode (signalling s p) x = not_a_number invalid_flag
number_quotient mode (quiet s p) (signalling t q) = not_a_number invalid_flag
number_quotient mode (quiet s p) (quiet t q) = not_a_number no_flags
number_quotient mode (quiet s p) (infinite t) = not_a_number no_flags
number_quotient mode (quiet s p) (finite t cx ex) = not_a_number no_flags
number_quotient mode (infinite s) (signalling t q) = not_a_number invalid_flag
number_quotient mode (infinite s) (quiet t q) = not_a_number no_flags
number_quotient mode (infinite s) (infinite t) = not_a_number invalid_flag
number_quotient mode (infinite s) (finite t cx ex) = exactly (infinite (product_sign s t))
number_quotient mode (finite s cy ey) (signalling t q) = not_a_number invalid_flag
number_quotient mode (finite s cy ey) (quiet t q) = not_a_number no_flags
number_quotient mode (finite s cy ey) (infinite t) = exactly (finite (product_sign s t) 0 (negsuc 100))
number_quotient mode (finite s cy ey) (finite t cx ex) = finite_quotient mode (product_sign s t) cy (counted ey) cx (counted ex)

-- the word of an outcome
abbrev pub word_outcome : Outcome → QuotientWord
word_outcome o = record { word = word_of decimal32_words o.number; flags = o.flags }

-- the quotient of two words in a mode
abbrev pub word_quotient : Mode → ℕ → ℕ → QuotientWord
word_quotient mode v w = word_outcome (number_quotient mode (number_of decimal32_words v) (number_of decimal32_words w))

-- refused before the words are looked at, where the source claims under nine
abbrev pub word_division : ℕ → Mode → ℕ → ℕ → Result QuotientWord Fault
word_division claim mode v w = cond (nat_lt claim 9) (Err (at_no_place ClaimUnderNine)) (Ok (word_quotient mode v w))

-- whether two sources give the same word and flags: each claim is judged in turn, and then they do
abbrev pub agreement : ℕ → ℕ → Result Bool Fault
agreement first second =
    cond (nat_lt first 9) (Err (at_no_place ClaimUnderNine)) (cond (nat_lt second 9) (Err (at_no_place ClaimUnderNine)) (Ok true))
