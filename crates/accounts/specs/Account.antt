-- The account of an order of calls, from their arguments alone: the mode last set without refusal, the two numbers of each open draft, the
-- quotients posted since the last clearing, each in its mode, and the flags raised since the last lowering. Assumes nothing.
use Rattle.std.specs.Prelude.{ℕ, false, cond, List, [], ◌∷◌, ◌++◌, length, Some, None, Ok, Err, fold, Option, Result, nat_le, slice_index_or, slice_set}
use Rattle.std.specs.Result.{result_unwrap_or}
use Rattle.refusals.specs.declared.Fault.{Fault}
use Rattle.refusals.specs.declared.Refusal.TheVariants.{CardFull, QuotientTooLarge}
use Rattle.refusals.specs.Refusals.{at_no_place}
use Rattle.rounding.specs.declared.mode.Mode.{Mode}
use Rattle.rounding.specs.declared.mode.Mode.TheVariants.{NearestEven}
use Rattle.rounding.specs.declared.flags.Flags.{Flags}
use Rattle.rounding.specs.Flags.{no_flags, raised_by_either}
use Rattle.rounding.specs.Modes.{mode_numbered}
use Rattle.quotient.specs.Quotients.{inexact_flags}
use Rattle.divider.specs.declared.outcome.QuotientWord.{QuotientWord}
use Rattle.divider.specs.Divisions.{number_quotient, word_division, word_outcome}
use Rattle.divider.specs.Exact.{Exact, exact_quotient, begun_quotient}
use Rattle.card.specs.Replies.{Reply, turned_away}
use Rattle.runs.specs.Records.{Operands, pair_operands, round_judged, record_quotient}
use Rattle.runs.specs.Runs.{RunEnd, run_in}
use Rattle.accounts.specs.declared.calls.Call.{Call}
use Rattle.accounts.specs.declared.calls.Call.TheVariants.{SetMode, Divide, Begin, Round, Post, StrikeOut, RunPairs, RunRounds, Lower, Clear}
use Rattle.accounts.specs.declared.calls.Answer.{Answer}
use Rattle.accounts.specs.declared.calls.Answer.TheVariants.{Done, Quotient, Run}
use Rattle.accounts.specs.declared.calls.NotDone.{NotDone}
use Rattle.accounts.specs.declared.calls.NotDone.TheVariants.{Refused, NoDraft}
use Rattle.accounts.specs.Exact.{in_steps, is_large, is_whole_number}

-- a quotient in steps, and the mode in which it was posted
pub record Item : Type 0 where
  pub mode : Mode
  pub quotient : Exact

-- the items since the last clearing, the latest first, and the flags since the last lowering
pub record Standing : Type 0 where
  pub items : List Item
  pub flags : Flags

pub record Account : Type 0 where
  pub mode : Mode
  pub standing : Standing
  -- by their numbers; None where a draft was refused or has ended
  pub drafts : List (Option Operands)

abbrev pub fresh : Account
fresh = record { mode = NearestEven; standing = record { items = []; flags = no_flags }; drafts = [] }

-- flags stay up
abbrev pub with_flags : Flags → Standing → Standing
with_flags f t = record { items = t.items; flags = raised_by_either t.flags f }

abbrev pub without_flags : Standing → Standing
without_flags t = record { items = t.items; flags = no_flags }

abbrev pub without_items : Standing → Standing
without_items t = record { items = []; flags = t.flags }

-- one item more; what is no whole number of steps is inexact
abbrev pub with_item : Mode → Exact → Standing → Standing
with_item m q t =
    record {
      items = record { mode = m; quotient = q } ∷ t.items;
      flags = cond (is_whole_number q) t.flags (raised_by_either t.flags (inexact_flags false));
    }

-- refused where 10,000 items stand, and then where the quotient is 10^7 steps or more
abbrev pub item_posted : Mode → Exact → Standing → Reply Standing (Unit {0})
item_posted m q t =
    cond (nat_le 10000 (length t.items)) (turned_away (at_no_place CardFull) t)
    (cond (is_large q) (turned_away (at_no_place QuotientTooLarge) t) (record { answer = Ok tt; state = with_item m q t }))

-- an exact quotient posted in steps of 10^-s, if there is one
abbrev pub posting : ℕ → Mode → Result Exact Fault → Standing → Reply Standing (Unit {0})
posting s m (Err f) t = turned_away f t
posting s m (Ok q) t = item_posted m (in_steps s q) t

-- what a call answers: an `Outcome` of the program
abbrev pub CallOutcome : Type 0
CallOutcome = Result Answer NotDone

-- what a call answers, and the account after it
pub record Next : Type 0 where
  pub outcome : CallOutcome
  pub account : Account

abbrev pub answered : {X : Type 0} → Result X Fault → CallOutcome
answered (Ok x) = Ok Done
answered (Err f) = Err (Refused f)

abbrev pub with_mode : Mode → Account → Account
with_mode m a = record { mode = m; standing = a.standing; drafts = a.drafts }

abbrev pub with_standing : Standing → Account → Account
with_standing t a = record { mode = a.mode; standing = t; drafts = a.drafts }

-- the draft of this number is no longer open
abbrev pub ended : ℕ → Account → Account
ended k a = record { mode = a.mode; standing = a.standing; drafts = slice_set a.drafts k None }

abbrev pub draft_at : ℕ → Account → Option Operands
draft_at k a = slice_index_or a.drafts k None

abbrev pub divided : Result QuotientWord Fault → Account → Next
divided (Ok q) a = record { outcome = Ok (Quotient q); account = with_standing (with_flags q.flags a.standing) a }
divided (Err f) a = record { outcome = Err (Refused f); account = a }

-- a number is taken for every draft, and it is open unless beginning was refused
abbrev pub opened : {X : Type 0} → Result X Fault → Operands → Option Operands
opened (Ok x) o = Some o
opened (Err f) o = None

abbrev pub begun : ℕ → Operands → Account → Next
begun claim o a =
    record {
      outcome = answered (begun_quotient claim o.0 o.1);
      account = record { mode = a.mode; standing = a.standing; drafts = a.drafts ++ (opened (begun_quotient claim o.0 o.1) o ∷ []) };
    }

abbrev pub draft_rounded : Option Operands → Account → Next
draft_rounded None a = record { outcome = Err NoDraft; account = a }
draft_rounded (Some o) a = divided (Ok (word_outcome (number_quotient a.mode o.0 o.1))) a

abbrev pub draft_posted : ℕ → Option Operands → Account → Next
draft_posted s None a = record { outcome = Err NoDraft; account = a }
draft_posted s (Some o) a =
    let p = posting s a.mode (exact_quotient o.0 o.1) a.standing in
    record { outcome = answered p.answer; account = with_standing p.state a }

abbrev pub draft_struck_out : Option Operands → Account → Next
draft_struck_out None a = record { outcome = Err NoDraft; account = a }
draft_struck_out (Some o) a = record { outcome = Ok Done; account = a }

-- A run adds an item in its own mode for each record before a refusal.
abbrev pub ran : RunEnd Standing → Account → Next
ran e a = record { outcome = Ok (Run e.ran); account = with_standing e.state a }

-- each record is judged by itself, then by the source's claim, by its operands and by what stands
abbrev pub record_posting : {X : Type 0} → ℕ → ℕ → (X → Result Operands Fault) → Mode → X → Standing → Reply Standing (Unit {0})
record_posting claim s operands m x t = posting s m (record_quotient claim (operands x)) t

-- one call over a source of this claim, on a card of step s
abbrev pub next : ℕ → ℕ → Account → Call → Next
next claim s a (SetMode n) = record { outcome = answered (mode_numbered n); account = with_mode (result_unwrap_or (mode_numbered n) a.mode) a }
next claim s a (Divide p) = divided (word_division claim a.mode p.dividend p.divisor) a
next claim s a (Begin p) = begun claim (pair_operands p) a
next claim s a (Round k) = draft_rounded (draft_at k a) (ended k a)
next claim s a (Post k) = draft_posted s (draft_at k a) (ended k a)
next claim s a (StrikeOut k) = draft_struck_out (draft_at k a) (ended k a)
next claim s a (RunPairs n ps) = ran (run_in (mode_numbered n) (record_posting claim s (λ p. Ok (pair_operands p))) ps.now a.standing) a
next claim s a (RunRounds n rs) = ran (run_in (mode_numbered n) (record_posting claim s round_judged) rs.now a.standing) a
next claim s a Lower = record { outcome = Ok Done; account = with_standing (without_flags a.standing) a }
next claim s a Clear = record { outcome = Ok Done; account = with_standing (without_items a.standing) a }

-- an order of calls on a new card: the account that it comes to, and what each call answered
pub record Course : Type 0 where
  pub account : Account
  pub outcomes : List CallOutcome

abbrev pub onward : ℕ → ℕ → Course → Call → Course
onward claim s p c =
    record { account = (next claim s p.account c).account; outcomes = p.outcomes ++ ((next claim s p.account c).outcome ∷ []) }

abbrev pub course : ℕ → ℕ → List Call → Course
course claim s calls = fold (onward claim s) (record { account = fresh; outcomes = [] }) calls
