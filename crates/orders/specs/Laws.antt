-- The law over every order of calls. Assumes nothing.
use Rattle.std.specs.Prelude.{◌≡◌, ℕ, min, cond, List, Some, None, vec_capacity, Option, nat_lt}
use Rattle.refusals.specs.declared.Refusal.TheVariants.{UnknownStep}
use Rattle.refusals.specs.Refusals.{at_no_place}
use Rattle.reciprocal.specs.Layers.{LayersApproximate}
use Rattle.card.specs.Tallies.{Tally}
use Rattle.accounts.specs.declared.calls.Call.{Call}
use Rattle.accounts.specs.Exact.{ModesMean}
use Rattle.accounts.specs.Account.{CallOutcome, Item, course}
use Rattle.accounts.specs.Law.{Totals, Bounds, exact_sum}
use Rattle.orders.specs.declared.room.Room.{Room}
use Rattle.orders.specs.declared.replaying.NotReplayed.{NotReplayed}
use Rattle.orders.specs.declared.replaying.NotReplayed.TheVariants.{Step, Room as TooLittleRoom}

-- the calls that there is room for
abbrev pub places : Room → ℕ
places r = min (vec_capacity r.drafts) (vec_capacity r.outcomes)

-- a step above four, and then too little room
abbrev pub not_replayed : ℕ → ℕ → ℕ → Option NotReplayed
not_replayed s calls room = cond (nat_lt 4 s) (Some (Step (at_no_place UnknownStep))) (cond (nat_lt room calls) (Some TooLittleRoom) None)

-- what the account of an order holds since the last clearing
abbrev pub items_of : ℕ → ℕ → List Call → List Item
items_of claim s calls = (course claim s calls).account.standing.items

-- a card t of step s after an order of calls, over a source of this claim
pub record SeasonLaw (claim s : ℕ) (calls : List Call) (outcomes : List CallOutcome) (t : Tally) : Type 0 where
  -- every call answered what the account says
  pub answers : outcomes ≡ (course claim s calls).outcomes
  pub step : t.step ≡ s
  pub flags : t.flags ≡ (course claim s calls).account.standing.flags
  -- the totals are the sums over the items of the account, and lie about their exact sum
  pub totals : Totals (items_of claim s calls) t
  pub bounds : Bounds (exact_sum (items_of claim s calls)) t
  -- the value of an item is what its mode means, and nothing else is
  pub modes : ModesMean
  -- each layer over a source lies below the exact reciprocal by less than five and a half units of its last digit
  pub layers : LayersApproximate
