-- The seven modes: their numbers, and what each means, as a relation between a signed fraction z / m and a whole number c.
-- Assumes nothing.
use Rattle.std.specs.Prelude.{◌≡◌, ℕ, ◌*◌, ◌/◌, ◌%◌, ◌<◌, ◌≤◌, Bool, cond, ℤ, pos, ◌+ℤ◌, ◌-ℤ◌, ◌*ℤ◌, neg_ℤ, ◌≤ℤ◌, ◌<ℤ◌, Ok, Err, MatchBool, Result, ◌==◌, int_lt, unsigned_abs}
use Rattle.rounding.specs.declared.sign.Sign.{Sign}
use Rattle.rounding.specs.declared.mode.Mode.{Mode}
use Rattle.rounding.specs.declared.mode.Mode.TheVariants.{NearestEven, NearestZero, NearestAway, Ceiling, Floor, TowardZero, AwayFromZero}
use Rattle.rounding.specs.declared.mode.Position.{Position}
use Rattle.refusals.specs.declared.Fault.{Fault}
use Rattle.refusals.specs.declared.Refusal.TheVariants.{UnknownMode}
use Rattle.refusals.specs.Refusals.{at_no_place}
use Rattle.rounding.specs.Rounding.{by_sign, position, is_odd, raised}

-- the modes by their numbers
abbrev pub mode_numbered : ℕ → Result Mode Fault
mode_numbered n =
    cond (n == 1) (Ok NearestEven)
    (cond (n == 2) (Ok NearestZero)
    (cond (n == 3) (Ok NearestAway)
    (cond (n == 4) (Ok Ceiling)
    (cond (n == 5) (Ok Floor)
    (cond (n == 6) (Ok TowardZero)
    (cond (n == 7) (Ok AwayFromZero)
    (Err (at_no_place UnknownMode))))))))

-- the whole number of this sign and magnitude
abbrev pub signed : Sign → ℕ → ℤ
signed s n = by_sign s (pos n) (neg_ℤ (pos n))

-- c is not above z / m, and less than one below it
pub record Under (z : ℤ) (m : ℕ) (c : ℤ) : Type 0 where
  pub not_above : (c *ℤ pos m) ≤ℤ z
  pub within : z <ℤ (c *ℤ pos m +ℤ pos m)

-- c is not below z / m, and less than one above it
pub record Over (z : ℤ) (m : ℕ) (c : ℤ) : Type 0 where
  pub not_below : z ≤ℤ (c *ℤ pos m)
  pub within : (c *ℤ pos m) <ℤ (z +ℤ pos m)

-- c is within a half of z / m, and where two are, it is the one for which `tie` holds
pub record Closest (z : ℤ) (m : ℕ) (c : ℤ) (tie : Type 0) : Type 0 where
  pub near : 2 * unsigned_abs (c *ℤ pos m -ℤ z) ≤ m
  pub chosen : 2 * unsigned_abs (c *ℤ pos m -ℤ z) ≡ m → tie

-- c is what the mode makes of z / m
abbrev pub Rounds : Mode → ℤ → ℕ → ℤ → Type 0
Rounds NearestEven z m c = Closest z m c (unsigned_abs c % 2 ≡ 0)
Rounds NearestZero z m c = Closest z m c (unsigned_abs (c *ℤ pos m) ≤ unsigned_abs z)
Rounds NearestAway z m c = Closest z m c (unsigned_abs z ≤ unsigned_abs (c *ℤ pos m))
Rounds Ceiling z m c = Over z m c
Rounds Floor z m c = Under z m c
Rounds TowardZero z m c = MatchBool (int_lt z (pos 0)) (Over z m c) (Under z m c)
Rounds AwayFromZero z m c = MatchBool (int_lt z (pos 0)) (Under z m c) (Over z m c)

-- n / m lies at this position above a whole number that is odd, or is not
pub record Lies (odd : Bool) (p : Position) (n m : ℕ) : Type 0 where
  pub parts : 0 < m
  pub floor : is_odd (n / m) ≡ odd
  pub place : position n m ≡ p

-- Of every magnitude that lies there, the whole number under it, or where `up` says so the next one, is under the sign what
-- the mode makes of the value; and nothing else is.
pub record RoundsSo (mode : Mode) (s : Sign) (odd : Bool) (p : Position) (up : Bool) : Type 0 where
  pub meant : (n m : ℕ) → Lies odd p n m → Rounds mode (signed s n) m (signed s (raised up (n / m)))
  pub alone : (n m : ℕ) → Lies odd p n m → (c : ℤ) → Rounds mode (signed s n) m c → c ≡ signed s (raised up (n / m))
