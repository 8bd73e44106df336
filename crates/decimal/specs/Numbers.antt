-- What a number says, and the making of one from its parts. Assumes nothing.
use Rattle.std.specs.Prelude.{ℕ, cond, ◌||◌, ℤ, pos, negsuc, Ok, Err, Result, int_lt, nat_lt}
use Rattle.std.specs.Result.{result_map_both}
use Rattle.rounding.specs.declared.sign.Sign.{Sign}
use Rattle.decimal.specs.declared.number.Finite.{Finite}
use Rattle.decimal.specs.declared.number.Nan.{Nan}
use Rattle.decimal.specs.declared.number.Number.{Number}
use Rattle.decimal.specs.declared.number.Number.TheVariants.{Finite as FiniteNumber, Infinite, QuietNan, SignallingNan}
use Rattle.refusals.specs.declared.Fault.{Fault}
use Rattle.refusals.specs.declared.Refusal.TheVariants.{CoefficientTooLarge, ExponentOutOfRange}
use Rattle.refusals.specs.Refusals.{at_no_place}

-- a number of any decimal format: sign, coefficient and exponent; an infinity; a NaN with its payload
pub data Datum : Type 0 where
  finite : Sign → ℕ → ℤ → Datum
  infinite : Sign → Datum
  quiet : Sign → ℕ → Datum
  signalling : Sign → ℕ → Datum

-- what a number of the program says
abbrev pub finite_datum : Finite → Datum
finite_datum f = finite f.sign f.coefficient f.exponent

abbrev pub datum : Number → Datum
datum (FiniteNumber f) = finite_datum f
datum (Infinite s) = infinite s
datum (QuietNan n) = quiet n.sign n.payload
datum (SignallingNan n) = signalling n.sign n.payload

-- a finite number from its parts: the coefficient is judged first
abbrev pub finite_made : Sign → ℕ → ℤ → Result Datum Fault
finite_made s c e =
    cond (nat_lt 9999999 c) (Err (at_no_place CoefficientTooLarge))
    (cond (int_lt e (negsuc 100) || int_lt (pos 90) e) (Err (at_no_place ExponentOutOfRange)) (Ok (finite s c e)))

-- what a NaN carries, from its parts
abbrev pub nan_made : Sign → ℕ → Result (Sign × ℕ) Fault
nan_made s p = cond (nat_lt 999999 p) (Err (at_no_place CoefficientTooLarge)) (Ok (s, p))

-- what came of the making
abbrev pub finite_seen : Result Finite Fault → Result Datum Fault
finite_seen r = result_map_both finite_datum (λ e. e) r

abbrev pub nan_seen : Result Nan Fault → Result (Sign × ℕ) Fault
nan_seen r = result_map_both (λ n. (n.sign, n.payload)) (λ e. e) r
