-- What an entry asks for, or what is wrong with it. Every field is judged to be a number, from the left, before a coefficient is judged,
-- and every coefficient before an exponent. Assumes nothing.
use Rattle.std.specs.Prelude.{ℕ, cond, ◌||◌, Ok, Err, Result, nat_lt, ℤ, pos, negsuc, neg_ℤ, int_lt}
use Rattle.std.specs.Result.{result_map_both}
use Rattle.refusals.specs.declared.Fault.{Fault}
use Rattle.refusals.specs.declared.Refusal.TheVariants.{CoefficientTooLarge, ExponentOutOfRange, UnknownMode}
use Rattle.rounding.specs.declared.sign.Sign.{Sign}
use Rattle.rounding.specs.declared.sign.Sign.TheVariants.{Plus, Minus}
use Rattle.rounding.specs.declared.mode.Mode.{Mode}
use Rattle.rounding.specs.Modes.{mode_numbered}
use Rattle.decimal.specs.Numbers.{Datum, finite, finite_datum}
use Rattle.entries.specs.declared.field.Numeral.{Numeral}
use Rattle.entries.specs.declared.request.Request.{Request}
use Rattle.entries.specs.declared.request.Request.TheVariants.{SetMode, Divide, Post, Totals, Clear, Lower}
use Rattle.entries.specs.Fields.{at_column, said, unused}
use Rattle.entries.specs.Entries.{Part, Parts, Seen, mode, divide, post, totals, clear, lower}

-- what a line asks for
pub data Asked : Type 0 where
  set_mode : Mode → Asked
  quotient : Datum → Datum → Asked
  posting : Datum → Datum → Asked
  sums : Asked
  clearing : Asked
  lowering : Asked

abbrev pub asked : Request → Asked
asked (SetMode m) = set_mode m
asked (Divide y x) = quotient (finite_datum y) (finite_datum x)
asked (Post y x) = posting (finite_datum y) (finite_datum x)
asked Totals = sums
asked Clear = clearing
asked Lower = lowering

-- what follows from an answer, unless it is a refusal
abbrev pub and_then : {A B : Type 0} → Result A Fault → (A → Result B Fault) → Result B Fault
and_then (Ok a) f = f a
and_then (Err e) f = Err e

abbrev pub number_of : Part → Result Numeral Fault
number_of p = said p.column p.text

abbrev pub blank : Part → Result (Unit {0}) Fault
blank p = unused p.column p.text

abbrev pub coefficient_of : Part → Numeral → Result ℕ Fault
coefficient_of p n = cond (nat_lt 9999999 n.magnitude) (Err (at_column p.column CoefficientTooLarge)) (Ok n.magnitude)

abbrev pub value_of : Numeral → ℤ
value_of n = cond n.negative (neg_ℤ (pos n.magnitude)) (pos n.magnitude)

abbrev pub exponent_of : Part → Numeral → Result ℤ Fault
exponent_of p n =
    cond (int_lt (value_of n) (negsuc 100) || int_lt (pos 90) (value_of n)) (Err (at_column p.column ExponentOutOfRange)) (Ok (value_of n))

abbrev pub sign_of : Numeral → Sign
sign_of n = cond n.negative Minus Plus

-- the two numbers of a line, and what is asked of them
abbrev pub numbers_of : Parts → (Datum → Datum → Asked) → Result Asked Fault
numbers_of p f =
    and_then (number_of p.dividend) (λ yc.
    and_then (number_of p.dividend_exponent) (λ ye.
    and_then (number_of p.divisor) (λ xc.
    and_then (number_of p.divisor_exponent) (λ xe.
    and_then (coefficient_of p.dividend yc) (λ cy.
    and_then (coefficient_of p.divisor xc) (λ cx.
    and_then (exponent_of p.dividend_exponent ye) (λ ey.
    and_then (exponent_of p.divisor_exponent xe) (λ ex.
    Ok (f (finite (sign_of yc) cy ey) (finite (sign_of xc) cx ex))))))))))

-- the mode of a number at a column; a minus makes none
abbrev pub mode_at : ℕ → Numeral → Result Asked Fault
mode_at c n = result_map_both set_mode (λ f. at_column c UnknownMode) (mode_numbered (cond n.negative 0 n.magnitude))

-- what an entry asks for
abbrev pub asked_by : Seen → Result Asked Fault
asked_by (mode p q) = and_then (number_of p) (λ n. and_then (blank q) (λ _. mode_at p.column n))
asked_by (divide p) = numbers_of p quotient
asked_by (post p) = numbers_of p posting
asked_by (totals p) = and_then (blank p) (λ _. Ok sums)
asked_by (clear p) = and_then (blank p) (λ _. Ok clearing)
asked_by (lower p) = and_then (blank p) (λ _. Ok lowering)

abbrev pub asked_result : Result Request Fault → Result Asked Fault
asked_result r = result_map_both asked (λ f. f) r
