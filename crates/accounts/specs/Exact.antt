-- Exact values, counted in steps: what the modes make of one, and the sum of several. Assumes nothing.
use Rattle.std.specs.Prelude.{◌≡◌, ℕ, ◌*◌, ◌^◌, ◌<◌, Bool, List, [], ◌∷◌, ℤ, pos, ◌+ℤ◌, ◌*ℤ◌, nat_le}
use Rattle.rounding.specs.declared.mode.Mode.{Mode}
use Rattle.rounding.specs.Rounding.{rounded, position, is_whole}
use Rattle.rounding.specs.Modes.{signed, Rounds}
use Rattle.quotient.specs.Quotients.{decimal32}
use Rattle.quotient.specs.Splits.{unit_in}
use Rattle.divider.specs.Exact.{Exact}

-- a quotient, which counts units of the least exponent, counted in steps of 10^-s
abbrev pub in_steps : ℕ → Exact → Exact
in_steps s q = record { sign = q.sign; top = q.top; bottom = unit_in decimal32 s q.bottom }

-- what a mode makes of an exact value
abbrev pub value : Mode → Exact → ℤ
value m q = signed q.sign (rounded m q.sign q.top q.bottom)

abbrev pub is_whole_number : Exact → Bool
is_whole_number q = is_whole (position q.top q.bottom)

-- 10^7 or more in magnitude
abbrev pub is_large : Exact → Bool
is_large q = nat_le (10 ^ 7 * q.bottom) q.top

-- a whole numerator over a positive whole denominator
pub record Fraction : Type 0 where
  pub num : ℤ
  pub den : ℕ

abbrev pub fraction : Exact → Fraction
fraction q = record { num = signed q.sign q.top; den = q.bottom }

-- two fractions added by cross-multiplying
abbrev pub plus : Fraction → Fraction → Fraction
plus p q = record { num = p.num *ℤ pos q.den +ℤ q.num *ℤ pos p.den; den = p.den * q.den }

abbrev pub sum_of : List Exact → Fraction
sum_of [] = record { num = pos 0; den = 1 }
sum_of (q ∷ qs) = plus (fraction q) (sum_of qs)

-- the value is what the mode means of the exact value, and no other whole number is
pub record ModesMean : Type 0 where
  pub meant : (m : Mode) (q : Exact) → 0 < q.bottom → Rounds m (fraction q).num q.bottom (value m q)
  pub alone : (m : Mode) (q : Exact) → 0 < q.bottom → (c : ℤ) → Rounds m (fraction q).num q.bottom c → c ≡ value m q
