-- What a card holds beside the account of the calls that were made on it. Assumes nothing.
use Rattle.std.specs.Prelude.{◌≡◌, ℕ, ◌+◌, ◌*◌, ◌<◌, ◌≤◌, Bool, cond, not, ◌&&◌, List, [], ◌∷◌, map, length, ℤ, pos, ◌+ℤ◌, ◌-ℤ◌, ◌*ℤ◌, ◌≤ℤ◌, unsigned_abs}
use Rattle.std.specs.List.{AllByRecursion}
use Rattle.rounding.specs.declared.mode.Mode.TheVariants.{Ceiling, Floor}
use Rattle.card.specs.Tallies.{Tally, is_near}
use Rattle.accounts.specs.Exact.{Fraction, value, is_whole_number, sum_of}
use Rattle.accounts.specs.Account.{Item, Standing}

abbrev pub total_of : (Item → ℤ) → List Item → ℤ
total_of f [] = pos 0
total_of f (x ∷ xs) = f x +ℤ total_of f xs

abbrev pub count_of : (Item → Bool) → List Item → ℕ
count_of p [] = 0
count_of p (x ∷ xs) = cond (p x) 1 0 + count_of p xs

abbrev pub floor : Item → ℤ
floor x = value Floor x.quotient

abbrev pub figure : Item → ℤ
figure x = value x.mode x.quotient

abbrev pub ceiling : Item → ℤ
ceiling x = value Ceiling x.quotient

-- no whole number of steps, in one of the modes 1 to 3, or in one of 4 to 7
abbrev pub inexact_near : Item → Bool
inexact_near x = not (is_whole_number x.quotient) && is_near x.mode

abbrev pub inexact_far : Item → Bool
inexact_far x = not (is_whole_number x.quotient) && not (is_near x.mode)

abbrev pub exact_sum : List Item → Fraction
exact_sum items = sum_of (map (λ x. x.quotient) items)

-- the card holds the sums and the counts of the items
pub record Totals (items : List Item) (t : Tally) : Type 0 where
  pub low_is_the_sum_of_floors : t.low ≡ total_of floor items
  pub figure_is_the_sum_of_values : t.figure ≡ total_of figure items
  pub high_is_the_sum_of_ceilings : t.high ≡ total_of ceiling items
  pub posted_is_their_number : t.posted ≡ length items
  pub near_counts_inexact_near : t.near ≡ count_of inexact_near items
  pub far_counts_inexact_far : t.far ≡ count_of inexact_far items

-- what the totals say of the exact sum
pub record Bounds (sum : Fraction) (t : Tally) : Type 0 where
  pub denominator_positive : 0 < sum.den
  pub sum_not_below_low : (t.low *ℤ pos sum.den) ≤ℤ sum.num
  pub sum_not_above_high : sum.num ≤ℤ (t.high *ℤ pos sum.den)
  pub spread_is_near_and_far : t.high -ℤ t.low ≡ pos (t.near + t.far)
  pub figure_close_to_sum : 2 * unsigned_abs (t.figure *ℤ pos sum.den -ℤ sum.num) ≤ (t.near + 2 * t.far) * sum.den

-- a card of step s agrees with what stands in an account
pub record Carries (s : ℕ) (a : Standing) (t : Tally) : Type 0 where
  pub step : t.step ≡ s
  pub flags : t.flags ≡ a.flags
  pub totals : Totals a.items t
  pub divided : AllByRecursion (λ x. 0 < x.quotient.bottom) a.items
