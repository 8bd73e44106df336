-- What a call answers and what it leaves, over any kind of state. Assumes nothing.
use Rattle.std.specs.Prelude.{Ok, Err, Result}
use Rattle.refusals.specs.declared.Fault.{Fault}
use Rattle.rounding.specs.declared.mode.Mode.{Mode}
use Rattle.divider.specs.Exact.{Exact}
use Rattle.card.specs.Tallies.{Tally, After, posted_quotient}

pub record Reply (S X : Type 0) : Type 0 where
  pub answer : Result X Fault
  pub state : S

abbrev pub turned_away : {S X : Type 0} → Fault → S → Reply S X
turned_away f s = record { answer = Err f; state = s }

-- what a call on a card answers, and the card that it leaves
abbrev pub reply : {X : Type 0} → After X → Reply Tally X
reply a = record { answer = a.answer; state = a.card }

-- the posting of an exact quotient, if there is one
abbrev pub posted_exact : Mode → Result Exact Fault → Tally → Reply Tally (Unit {0})
posted_exact mode (Err f) t = turned_away f t
posted_exact mode (Ok q) t = reply (posted_quotient mode q.sign q.top q.bottom t)
