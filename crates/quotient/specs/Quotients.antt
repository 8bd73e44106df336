-- What a quotient is in a decimal format: the exact fraction, rounded once. Assumes nothing.
use Rattle.std.specs.Prelude.{ℕ, suc, ◌+◌, ◌-◌, ◌*◌, ◌/◌, ◌%◌, ◌^◌, min, Bool, true, false, cond, ◌&&◌, ◌||◌, ◌==◌, nat_le, nat_lt}
use Rattle.rounding.specs.declared.sign.Sign.{Sign}
use Rattle.rounding.specs.declared.mode.Mode.{Mode}
use Rattle.rounding.specs.declared.mode.Mode.TheVariants.{NearestEven, NearestZero, NearestAway, Ceiling, Floor, TowardZero, AwayFromZero}
use Rattle.rounding.specs.declared.flags.Flags.{Flags}
use Rattle.rounding.specs.Flags.{no_flags}
use Rattle.rounding.specs.Rounding.{rounded, position, is_whole, by_sign}
use Rattle.decimal.specs.Words.{Format}
use Rattle.decimal.specs.Words.{decimal32 as decimal32_words}
use Rattle.quotient.specs.declared.types.Magnitude.TheVariants.{Finite, Infinite}
use Rattle.quotient.specs.declared.types.Rounded.{Rounded}
use Rattle.quotient.specs.Search.{least}

-- A precision and a range of exponents: coefficients of at most `digits` digits, and exponents from -bias to span - bias. An exponent e
-- is written e + bias, from 0 to span.
pub record Range : Type 0 where
  pub digits : ℕ
  pub bias : ℕ
  pub span : ℕ

-- the range of an interchange format
abbrev pub range_of : Format → Range
range_of f = record { digits = 3 * f.declets + 1; bias = f.bias; span = 3 * 2 ^ f.continuation - 1 }

abbrev pub decimal32 : Range
decimal32 = range_of decimal32_words

-- A magnitude is n / d, in units of the least exponent. This is cy * 10^(ey - bias) over cx * 10^(ex - bias):
abbrev pub quotient_top : Range → ℕ → ℕ → ℕ
quotient_top f cy ey = cy * 10 ^ ey * 10 ^ f.bias

abbrev pub quotient_bottom : ℕ → ℕ → ℕ
quotient_bottom cx ex = cx * 10 ^ ex

-- n / d < 10^k
abbrev pub under : ℕ → ℕ → ℕ → Bool
under n d k = nat_lt n (d * 10 ^ k)

-- the least exponent at which n / d has no more than the format's digits before the point; span + 1 where there is none
unfoldable pub exponent_of : Range → ℕ → ℕ → ℕ
exponent_of f n d = least (suc f.span) (λ k. under n d (k + f.digits))

-- n / d is c * 10^k for a whole c of the format, and k is an exponent of it
abbrev pub fits : Range → ℕ → ℕ → ℕ → Bool
fits f n d k = nat_le k f.span && (n % (d * 10 ^ k) == 0 && nat_lt (n / (d * 10 ^ k)) (10 ^ f.digits))

-- of these exponents the nearest to the ideal one: the least distance at which one lies
unfoldable pub distance : Range → ℕ → ℕ → ℕ → ℕ
distance f n d ideal = least (suc (f.span + ideal)) (λ t. fits f n d (ideal + t) || (nat_le t ideal && fits f n d (ideal - t)))

abbrev pub preferred : Range → ℕ → ℕ → ℕ → ℕ
preferred f n d ideal = cond (fits f n d (ideal + distance f n d ideal)) (ideal + distance f n d ideal) (ideal - distance f n d ideal)

-- past the greatest number: to infinity or to that number
abbrev pub to_infinity : Mode → Sign → Bool
to_infinity NearestEven s = true
to_infinity NearestZero s = true
to_infinity NearestAway s = true
to_infinity Ceiling s = by_sign s true false
to_infinity Floor s = by_sign s false true
to_infinity TowardZero s = false
to_infinity AwayFromZero s = true

abbrev pub overflow_flags : Flags
overflow_flags = record { inexact = true; underflow = false; overflow = true; division_by_zero = false; invalid = false }

abbrev pub inexact_flags : Bool → Flags
inexact_flags tiny = record { inexact = true; underflow = tiny; overflow = false; division_by_zero = false; invalid = false }

abbrev pub finite : ℕ → ℕ → Flags → Rounded
finite c k flags = record { magnitude = Finite c k; flags = flags }

abbrev pub overflow : Range → Mode → Sign → Rounded
overflow f mode s = record { magnitude = cond (to_infinity mode s) Infinite (Finite (10 ^ f.digits - 1) f.span); flags = overflow_flags }

-- n / d is no number of the format: rounded at the exponent e, with underflow below the least number of all digits
abbrev pub inexact : Range → Mode → Sign → ℕ → ℕ → ℕ → Rounded
inexact f mode s n d e = finite (rounded mode s n (d * 10 ^ e)) e (inexact_flags (under n d (f.digits - 1)))

abbrev pub exact : Range → ℕ → ℕ → ℕ → Rounded
exact f n d k = finite (n / (d * 10 ^ k)) k no_flags

abbrev pub nonzero : Range → Mode → Sign → ℕ → ℕ → ℕ → ℕ → Rounded
nonzero f mode s n d ideal e =
    cond (nat_lt f.span e) (overflow f mode s)
    (cond (is_whole (position n (d * 10 ^ e))) (exact f n d (preferred f n d ideal)) (inexact f mode s n d e))

-- the quotient of magnitude n / d under the sign. An ideal exponent below the least is written 0
unfoldable pub divided : Range → Mode → Sign → ℕ → ℕ → ℕ → Rounded
divided f mode s n d ideal =
    cond (n == 0) (finite 0 (min f.span ideal) no_flags) (nonzero f mode s n d ideal (exponent_of f n d))
