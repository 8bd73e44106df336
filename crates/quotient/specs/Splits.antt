-- A magnitude between two whole numbers, in units of a power of ten. Assumes nothing.
use Rattle.std.specs.Prelude.{ℕ, ◌-◌, ◌*◌, ◌/◌, ◌^◌, cond, Some, None, Option, nat_le}
use Rattle.rounding.specs.declared.mode.Position.{Position}
use Rattle.rounding.specs.Rounding.{position}
use Rattle.quotient.specs.Quotients.{Range}
use Rattle.quotient.specs.declared.types.Split.{Split}

-- a magnitude by the whole number under it, and where it lies above that
pub record Between : Type 0 where
  pub floor : ℕ
  pub position : Position

abbrev pub between : Split → Between
between p = record { floor = p.floor; position = p.position }

-- the whole number under n / m, and where n / m lies above it
abbrev pub split_by : ℕ → ℕ → Between
split_by n m = record { floor = n / m; position = position n m }

-- d in units of 10^-s, where d counts units of the least exponent
abbrev pub unit_in : Range → ℕ → ℕ → ℕ
unit_in f s d = d * 10 ^ (f.bias - s)

-- n / d, in units of the least exponent, split in units of 10^-s; nothing where it is 10^digits of them or more
abbrev pub split_at : Range → ℕ → ℕ → ℕ → Option Between
split_at f s n d = cond (nat_le (10 ^ f.digits * unit_in f s d) n) None (Some (split_by n (unit_in f s d)))
