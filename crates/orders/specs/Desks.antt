-- The desk beside the account of the calls that were made on it. Assumes nothing.
use Rattle.std.specs.Prelude.{◌≡◌, ℕ, ◌+◌, ◌<◌, ◌≤◌, List, [], ◌∷◌, Some, None, vec_items, vec_len, vec_capacity, Option, Result, ok_or, slice_index_or, slice_set}
use Rattle.refusals.specs.declared.Fault.{Fault}
use Rattle.rounding.specs.Modes.{mode_numbered}
use Rattle.divider.specs.declared.draft.Draft.{Draft}
use Rattle.divider.specs.Exact.{DraftOf}
use Rattle.card.specs.Tallies.{tally}
use Rattle.runs.specs.Records.{Operands}
use Rattle.runs.specs.Runs.{run_in}
use Rattle.accounts.specs.declared.calls.Call.{Call}
use Rattle.accounts.specs.declared.calls.NotDone.{NotDone}
use Rattle.accounts.specs.declared.calls.NotDone.TheVariants.{NoDraft}
use Rattle.accounts.specs.Account.{Account, CallOutcome, Next, next, ran, record_posting}
use Rattle.accounts.specs.Law.{Carries}
use Rattle.orders.specs.declared.desk.Desk.{Desk}

-- a place holds a draft of the account's two numbers, or neither has one
abbrev pub Holds : Option Draft → Option Operands → Type 0
Holds None None = Unit {0}
Holds None (Some o) = ⊥
Holds (Some d) None = ⊥
Holds (Some d) (Some o) = DraftOf d o.0 o.1

abbrev pub Hold : List (Option Draft) → List (Option Operands) → Type 0
Hold [] [] = Unit {0}
Hold [] (o ∷ os) = ⊥
Hold (d ∷ ds) [] = ⊥
Hold (d ∷ ds) (o ∷ os) = Holds d o × Hold ds os

pub record Agrees (s : ℕ) (a : Account) (k : Desk) : Type 0 where
  pub mode : k.setting.mode ≡ a.mode
  pub carries : Carries s a.standing (tally k.card)
  pub drafts : Hold (vec_items k.begun) a.drafts

-- the outcome is the account's, and the desk agrees with the account after it
pub record ComesTo (s : ℕ) (n : Next) (o : CallOutcome) (k : Desk) : Type 0 where
  pub outcome : o ≡ n.outcome
  pub agrees : Agrees s n.account k

-- whatever account desk k agreed with, desk l agrees with the next one, and at most one place more is taken up for a draft
pub record Moves (next : ℕ → Account → Next) (k : Desk) (o : CallOutcome) (l : Desk) : Type 0 where
  pub follows : (s : ℕ) (a : Account) → Agrees s a k → ComesTo s (next s a) o l
  pub cap : vec_capacity l.begun ≡ vec_capacity k.begun
  pub len : vec_len l.begun ≤ vec_len k.begun + 1

-- one call
abbrev pub Follows : ℕ → Call → Desk → CallOutcome → Desk → Type 0
Follows claim call k o l = Moves (λ s a. next claim s a call) k o l

-- the same for a run over any records
abbrev pub Runs : {X : Type 0} → ℕ → (X → Result Operands Fault) → ℕ → List X → Desk → CallOutcome → Desk → Type 0
Runs claim operands mode xs k o l = Moves (λ s a. ran (run_in (mode_numbered mode) (record_posting claim s operands) xs a.standing) a) k o l

-- the desk has a place for one draft more
abbrev pub HasPlace : Desk → Type 0
HasPlace k = vec_len k.begun < vec_capacity k.begun

-- the draft of this number, if it is open, is taken off the desk
pub record Taken (number : ℕ) (k : Desk) (d : Result Draft NotDone) (l : Desk) : Type 0 where
  pub draft : d ≡ ok_or (slice_index_or (vec_items k.begun) number None) NoDraft
  pub drafts : vec_items l.begun ≡ slice_set (vec_items k.begun) number None
  pub card : l.card ≡ k.card
  pub setting : l.setting ≡ k.setting
  pub cap : vec_capacity l.begun ≡ vec_capacity k.begun
  pub len : vec_len l.begun ≡ vec_len k.begun
