-- The two numbers of a record, or why it has none. Assumes nothing.
use Rattle.std.specs.Prelude.{ℕ, ◌*◌, Bool, cond, ◌&&◌, ℤ, pos, negsuc, ◌-ℤ◌, ◌*ℤ◌, Ok, Err, Result, int_le, int_lt, nat_le, unsigned_abs}
use Rattle.std.specs.Result.{result_map_both}
use Rattle.refusals.specs.declared.Fault.{Fault}
use Rattle.refusals.specs.declared.Refusal.TheVariants.{RoundOutOfRange}
use Rattle.refusals.specs.Refusals.{at_no_place}
use Rattle.rounding.specs.declared.sign.Sign.TheVariants.{Plus, Minus}
use Rattle.decimal.specs.declared.number.Number.{Number}
use Rattle.decimal.specs.Numbers.{Datum, finite, datum}
use Rattle.decimal.specs.Words.{number_of}
use Rattle.decimal.specs.Words.{decimal32 as decimal32_words}
use Rattle.divider.specs.Exact.{Exact, begun_quotient}
use Rattle.divider.specs.declared.pair.Pair.{Pair}
use Rattle.runs.specs.declared.records.Round.{Round}

-- a dividend and a divisor
abbrev pub Operands : Type 0
Operands = Datum × Datum

-- a pair of words stands for the two numbers that they are read as
abbrev pub pair_operands : Pair → Operands
pair_operands p = (number_of decimal32_words p.dividend, number_of decimal32_words p.divisor)

-- a golf round's limits, each inclusive
abbrev pub round_in_range : Round → Bool
round_in_range r =
    (nat_le 18 r.gross && nat_le r.gross 399)
    && ((nat_le 300 r.rating && nat_le r.rating 999)
    && ((int_le (negsuc 0) r.adjustment && int_le r.adjustment (pos 3)) && (nat_le 55 r.slope && nat_le r.slope 155)))

-- 113 times the score above the rating, both less the adjustment: a whole number of tenths
abbrev pub round_tenths : ℕ → ℕ → ℤ → ℤ
round_tenths gross rating adjustment = pos 113 *ℤ (pos (10 * gross) -ℤ pos rating -ℤ pos 10 *ℤ adjustment)

-- z * 10^e; a zero is plus
abbrev pub whole_datum : ℤ → ℤ → Datum
whole_datum z e = finite (cond (int_lt z (pos 0)) Minus Plus) (unsigned_abs z) e

-- a round stands for its tenths over its slope
abbrev pub round_operands : Round → Operands
round_operands r = (whole_datum (round_tenths r.gross r.rating r.adjustment) (negsuc 0), whole_datum (pos r.slope) (pos 0))

abbrev pub round_judged : Round → Result Operands Fault
round_judged r = cond (round_in_range r) (Ok (round_operands r)) (Err (at_no_place RoundOutOfRange))

-- the numbers of the program, as they are meant
abbrev pub meant : Result (Number × Number) Fault → Result Operands Fault
meant r = result_map_both (λ p. (datum p.0, datum p.1)) (λ f. f) r

-- the exact quotient that a record asks to post: the record is judged first, then the source's claim, then the operands
abbrev pub record_quotient : ℕ → Result Operands Fault → Result Exact Fault
record_quotient claim (Err f) = Err f
record_quotient claim (Ok p) = begun_quotient claim p.0 p.1
