-- What posting a round of a season answers, and what it leaves. Assumes nothing.
use Rattle.std.specs.Prelude.{ℕ, [], ◌∷◌, Some, None, Option, Ok, Err, Result}
use Rattle.refusals.specs.declared.Fault.{Fault}
use Rattle.rounding.specs.declared.mode.Mode.{Mode}
use Rattle.card.specs.Tallies.{Tally, opened}
use Rattle.runs.specs.declared.records.Round.{Round}
use Rattle.runs.specs.Records.{round_judged}
use Rattle.runs.specs.Runs.{RunEnd, record_posted, run_in}
use Rattle.season.specs.declared.answers.Added.{Added}
use Rattle.season.specs.declared.answers.Problem.{Problem}
use Rattle.season.specs.declared.answers.Problem.TheVariants.{Refused, Malformed as MalformedLine}
use Rattle.season.specs.declared.lines.Malformed.{Malformed}

-- the run of one round in this mode, over a source of this claim
abbrev pub round_run : ℕ → Mode → Round → Tally → RunEnd Tally
round_run claim mode r t = run_in (Ok mode) (record_posted claim round_judged) (r ∷ []) t

-- the fault, or what a round adds to a card
abbrev pub told : Option Fault → Tally → Result Added Problem
told None t = Ok (record { floor = t.low; value = t.figure; ceiling = t.high })
told (Some f) t = Err (Refused f.refusal)

-- the answer to a round on the season's card, in tenths
abbrev pub round_answer : ℕ → Mode → Round → Tally → Result Added Problem
round_answer claim mode r t = told (round_run claim mode r t).ran.fault (round_run claim mode r (opened 1)).state

-- the answer to a line, if it has one, and the card after it
abbrev pub typed_answer : ℕ → Mode → Option (Result Round Malformed) → Tally → Option (Result Added Problem)
typed_answer claim mode None t = None
typed_answer claim mode (Some (Ok r)) t = Some (round_answer claim mode r t)
typed_answer claim mode (Some (Err _)) t = Some (Err MalformedLine)

abbrev pub typed_after : ℕ → Mode → Option (Result Round Malformed) → Tally → Tally
typed_after claim mode None t = t
typed_after claim mode (Some (Ok r)) t = (round_run claim mode r t).state
typed_after claim mode (Some (Err _)) t = t
