-- A quotient by its leading digits: what they stand for, and what rounding them needs. Assumes nothing.
use Rattle.std.specs.Prelude.{◌≡◌, ℕ, ◌+◌, ◌*◌, ◌%◌, ◌^◌, ◌<◌, ◌≤◌, Bool, cond, not, ◌&&◌, ◌==◌, ◌≢◌, nat_lt}
use Rattle.quotient.specs.declared.types.Magnitude.{Magnitude}
use Rattle.quotient.specs.declared.types.Magnitude.TheVariants.{Finite, Infinite}
use Rattle.rounding.specs.declared.mode.Position.{Position}
use Rattle.rounding.specs.declared.mode.Position.TheVariants.{Whole, Below, Middle, Above}

-- The digits q, with something left or not, at this place stand for n / d, in units of the least exponent: with a fraction f = rest / (d * 10^place),
-- n / d * 10^shift = (q + f) * 10^place, where 0 <= f < 1, and f is 0 just where nothing is left.
-- So its exponent is place - shift, counted from the format's least one.
pub record Drafted (shift q : ℕ) (left : Bool) (place n d : ℕ) : Type 0 where
  pub rest : ℕ
  pub divisor : 0 < d
  pub is : n * 10 ^ shift ≡ q * (d * 10 ^ place) + rest
  pub small : rest < d * 10 ^ place
  pub flag : left ≡ nat_lt 0 rest
  pub none : q ≡ 0 → n ≡ 0

-- where (m + f) / p lies between 0 and 1, told by m and whether f is more than 0
abbrev pub sticky : ℕ → ℕ → Bool → Position
sticky m p left = cond (nat_lt (2 * m) p) (cond (m == 0 && not left) Whole Below) (cond (2 * m == p && not left) Middle Above)

-- where the digits are cut: `digits` of q's digits go, at least one, so that the exponent is not below 0
pub record Cut (shift place k digits : ℕ) : Type 0 where
  pub sum : k + shift ≡ place + digits
  pub one : 1 ≤ digits
  pub low : 0 < k → digits ≡ 1

-- c and k are of the same value as c0 and k0, with the exponent brought up towards the ideal one as far as it goes
pub record Stripped (span c0 k0 ideal c k : ℕ) : Type 0 where
  pub value : c * 10 ^ k ≡ c0 * 10 ^ k0
  pub up : k0 ≤ k
  pub within : k ≤ span
  pub near : ideal < k → k ≡ k0
  pub stop : k < ideal → k < span → c % 10 ≢ 0
  pub less : c ≤ c0

-- the coefficient has at most seven digits, and the exponent is one of the format
abbrev pub InRange : Magnitude → Type 0
InRange (Finite c k) = (c < 10000000) × (k ≤ 191)
InRange Infinite = Unit {0}
