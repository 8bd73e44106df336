-- What a card holds, and what each call makes of it. Assumes nothing.
use Rattle.std.specs.Prelude.{ℕ, ◌+◌, Bool, true, false, cond, not, ◌&&◌, ℤ, pos, ◌+ℤ◌, Some, None, Ok, Err, Option, Result, nat_le, nat_lt}
use Rattle.refusals.specs.declared.Fault.{Fault}
use Rattle.refusals.specs.declared.Refusal.{Refusal}
use Rattle.refusals.specs.declared.Refusal.TheVariants.{UnknownStep, CardFull, QuotientTooLarge}
use Rattle.refusals.specs.Refusals.{at_no_place}
use Rattle.rounding.specs.declared.sign.Sign.{Sign}
use Rattle.rounding.specs.declared.mode.Mode.{Mode}
use Rattle.rounding.specs.declared.mode.Mode.TheVariants.{NearestEven, NearestZero, NearestAway, Ceiling, Floor, TowardZero, AwayFromZero}
use Rattle.rounding.specs.declared.flags.Flags.{Flags}
use Rattle.rounding.specs.Flags.{no_flags, raised_by_either}
use Rattle.rounding.specs.Modes.{signed}
use Rattle.rounding.specs.Rounding.{rounded_at, is_whole}
use Rattle.quotient.specs.Quotients.{decimal32, inexact_flags}
use Rattle.quotient.specs.Splits.{Between, split_at}
use Rattle.divider.specs.declared.outcome.QuotientWord.{QuotientWord}
use Rattle.card.specs.declared.card.Card.{Card}

-- what a card holds
pub record Tally : Type 0 where
  pub step : ℕ
  pub low : ℤ
  pub figure : ℤ
  pub high : ℤ
  pub posted : ℕ
  pub near : ℕ
  pub far : ℕ
  pub flags : Flags

abbrev pub tally : Card → Tally
tally c =
    record { step = c.step; low = c.low; figure = c.figure; high = c.high; posted = c.posted; near = c.near; far = c.far; flags = c.flags }

-- totals and counts at zero
abbrev pub nothing_posted : ℕ → Flags → Tally
nothing_posted s f = record { step = s; low = pos 0; figure = pos 0; high = pos 0; posted = 0; near = 0; far = 0; flags = f }

-- a new card of step s
abbrev pub opened : ℕ → Tally
opened s = nothing_posted s no_flags

abbrev pub open_card : ℕ → Result Tally Fault
open_card s = cond (nat_lt 4 s) (Err (at_no_place UnknownStep)) (Ok (opened s))

abbrev pub cleared : Tally → Tally
cleared t = nothing_posted t.step t.flags

abbrev pub lowered : Tally → Tally
lowered t =
    record { step = t.step; low = t.low; figure = t.figure; high = t.high; posted = t.posted; near = t.near; far = t.far; flags = no_flags }

abbrev pub with_raised : Flags → Tally → Tally
with_raised f t =
    record {
      step = t.step;
      low = t.low;
      figure = t.figure;
      high = t.high;
      posted = t.posted;
      near = t.near;
      far = t.far;
      flags = raised_by_either t.flags f;
    }

-- modes 1 to 3
abbrev pub is_near : Mode → Bool
is_near NearestEven = true
is_near NearestZero = true
is_near NearestAway = true
is_near Ceiling = false
is_near Floor = false
is_near TowardZero = false
is_near AwayFromZero = false

-- a quotient between two whole numbers of steps, under its sign, in whole steps by the mode
abbrev pub whole_steps_of : Mode → Sign → Between → ℤ
whole_steps_of mode s p = signed s (rounded_at mode s p.floor p.position)

abbrev pub is_exact : Between → Bool
is_exact p = is_whole p.position

-- one posting more
abbrev pub added : Mode → Sign → Between → Tally → Tally
added mode s p t =
    record {
      step = t.step;
      low = t.low +ℤ whole_steps_of Floor s p;
      figure = t.figure +ℤ whole_steps_of mode s p;
      high = t.high +ℤ whole_steps_of Ceiling s p;
      posted = t.posted + 1;
      near = t.near + cond (not (is_exact p) && is_near mode) 1 0;
      far = t.far + cond (not (is_exact p) && not (is_near mode)) 1 0;
      flags = cond (is_exact p) t.flags (raised_by_either t.flags (inexact_flags false));
    }

-- what a call answers, and the card after it
pub record After (X : Type 0) : Type 0 where
  pub answer : Result X Fault
  pub card : Tally

abbrev pub refused : {X : Type 0} → Refusal → Tally → After X
refused r t = record { answer = Err (at_no_place r); card = t }

-- a quotient of 10^7 steps or more is refused
abbrev pub posted_steps : Mode → Sign → Option Between → Tally → After (Unit {0})
posted_steps mode s None t = refused QuotientTooLarge t
posted_steps mode s (Some p) t = record { answer = Ok tt; card = added mode s p t }

-- the posting of the fraction n / d, in units of the least exponent; a full card refuses first
abbrev pub posted_quotient : Mode → Sign → ℕ → ℕ → Tally → After (Unit {0})
posted_quotient mode s n d t = cond (nat_le 10000 t.posted) (refused CardFull t) (posted_steps mode s (split_at decimal32 t.step n d) t)

-- the flags of a quotient stay up on the card; a refusal changes nothing
abbrev pub after_division : Result QuotientWord Fault → Tally → Tally
after_division (Ok q) t = with_raised q.flags t
after_division (Err f) t = t
