-- Rounding the magnitude n / m, m not 0, of a signed value to a whole number. Assumes nothing.
use Rattle.std.specs.Prelude.{ℕ, ◌+◌, ◌*◌, ◌/◌, ◌%◌, Bool, true, false, cond, not, ◌==◌, nat_lt}
use Rattle.rounding.specs.declared.sign.Sign.{Sign}
use Rattle.rounding.specs.declared.sign.Sign.TheVariants.{Plus, Minus}
use Rattle.rounding.specs.declared.mode.Mode.{Mode}
use Rattle.rounding.specs.declared.mode.Mode.TheVariants.{NearestEven, NearestZero, NearestAway, Ceiling, Floor, TowardZero, AwayFromZero}
use Rattle.rounding.specs.declared.mode.Position.{Position}
use Rattle.rounding.specs.declared.mode.Position.TheVariants.{Whole, Below, Middle, Above}

-- where a rest r of m parts lies
abbrev pub placed : ℕ → ℕ → Position
placed r m = cond (r == 0) Whole (cond (nat_lt (2 * r) m) Below (cond (nat_lt m (2 * r)) Above Middle))

-- where n / m lies between the whole number under it and the next
abbrev pub position : ℕ → ℕ → Position
position n m = placed (n % m) m

abbrev pub is_whole : Position → Bool
is_whole Whole = true
is_whole Below = false
is_whole Middle = false
is_whole Above = false

-- past the middle; in the middle, as `tie` says
abbrev pub past_middle : Bool → Position → Bool
past_middle tie Whole = false
past_middle tie Below = false
past_middle tie Middle = tie
past_middle tie Above = true

-- one answer for a positive value, the other for a negative one
abbrev pub by_sign : {X : Type 0} → Sign → X → X → X
by_sign Plus x y = x
by_sign Minus x y = y

-- does the magnitude go up to the next whole number?
abbrev pub goes_up : Mode → Sign → Bool → Position → Bool
goes_up NearestEven s odd p = past_middle odd p
goes_up NearestZero s odd p = past_middle false p
goes_up NearestAway s odd p = past_middle true p
goes_up Ceiling s odd p = by_sign s (not (is_whole p)) false
goes_up Floor s odd p = by_sign s false (not (is_whole p))
goes_up TowardZero s odd p = false
goes_up AwayFromZero s odd p = not (is_whole p)

abbrev pub is_odd : ℕ → Bool
is_odd c = c % 2 == 1

-- c, or the next whole number
abbrev pub raised : Bool → ℕ → ℕ
raised up c = cond up (c + 1) c

-- what a magnitude at this position above the whole number c is rounded to
abbrev pub rounded_at : Mode → Sign → ℕ → Position → ℕ
rounded_at mode s c p = raised (goes_up mode s (is_odd c) p) c

-- the magnitude that n / m, under the sign, is rounded to
abbrev pub rounded : Mode → Sign → ℕ → ℕ → ℕ
rounded mode s n m = rounded_at mode s (n / m) (position n m)
