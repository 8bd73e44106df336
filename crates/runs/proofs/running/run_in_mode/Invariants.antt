use Rattle.std.proofs.Common.{◌≡◌, drop}
use Rattle.card.specs.Tallies.{tally}
use Rattle.runs.specs.Runs.{record_posted, run_from}
use Rattle.runs.proofs.running.run_in_mode.Given as goal

-- what is left to run from the card gives what the whole run gives
abbrev pub invariant-loop-index : goal.invariant-loop-index
invariant-loop-index g l =
    let post = record_posted (g.S.Source.claim l.source) g.R.Record.operands_or_fault l.guard.setting.now.mode in
    run_from post l.index (drop l.index l.records) (tally l.card) ≡ run_from post 0 l.records (tally l.initial.card)
