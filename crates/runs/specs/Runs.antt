-- A run over a list of records, from first to last, up to the first refusal. Assumes nothing.
use Rattle.std.specs.Prelude.{ℕ, ◌+◌, List, [], ◌∷◌, Some, None, Ok, Err, Result}
use Rattle.refusals.specs.declared.Fault.{Fault}
use Rattle.rounding.specs.declared.mode.Mode.{Mode}
use Rattle.card.specs.Replies.{Reply, posted_exact}
use Rattle.card.specs.Tallies.{Tally}
use Rattle.runs.specs.declared.running.Ran.{Ran}
use Rattle.runs.specs.Records.{Operands, record_quotient}

-- what a run answers, and what it leaves
pub record RunEnd (S : Type 0) : Type 0 where
  pub ran : Ran
  pub state : S

-- all i records were posted
abbrev pub ran_through : {S : Type 0} → ℕ → S → RunEnd S
ran_through i s = record { ran = record { posted = i; fault = None }; state = s }

-- i records were posted, and the next was refused
abbrev pub stopped_at : {S : Type 0} → ℕ → Fault → S → RunEnd S
stopped_at i f s = record { ran = record { posted = i; fault = Some (record { refusal = f.refusal; place = i }) }; state = s }

abbrev pub by_answer : {S : Type 0} → Result (Unit {0}) Fault → RunEnd S → (Fault → RunEnd S) → RunEnd S
by_answer (Ok u) onward stop = onward
by_answer (Err f) onward stop = stop f

-- from the record of index i on, each posted in turn
abbrev pub run_from : {X S : Type 0} → (X → S → Reply S (Unit {0})) → ℕ → List X → S → RunEnd S
run_from post i [] s = ran_through i s
run_from post i (x ∷ xs) s = by_answer (post x s).answer (run_from post (i + 1) xs (post x s).state) (λ f. stopped_at i f (post x s).state)

-- the run's mode is judged first, also where there is no record
abbrev pub run_in : {X S : Type 0} → Result Mode Fault → (Mode → X → S → Reply S (Unit {0})) → List X → S → RunEnd S
run_in (Err f) post xs s = record { ran = record { posted = 0; fault = Some f }; state = s }
run_in (Ok mode) post xs s = run_from (post mode) 0 xs s

-- a record posted on a card, over a source of this claim
abbrev pub record_posted : {X : Type 0} → ℕ → (X → Result Operands Fault) → Mode → X → Tally → Reply Tally (Unit {0})
record_posted claim operands mode x t = posted_exact mode (record_quotient claim (operands x)) t
