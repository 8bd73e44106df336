-- The worked lines, by computing. Assumes nothing.
use Rattle.std.proofs.Common.{◌≡◌, [], ◌∷◌, pos, Ok, refl}
use Rattle.decimal.specs.Declets.{declet_value}
use Rattle.decimal.specs.Words.{number_of}
use Rattle.divider.proofs.Computed as division
use Rattle.runs.specs.Records.{pair_operands, round_judged}
use Rattle.accounts.specs.Worked.{WorkedLines, pair_of, totals_of_run, worked_round}

pub computed : WorkedLines
unfolding declet_value number_of
computed = record { divisions = division.computed; three_postings_total = refl; round_totals = refl }

pub postings_computed :
    totals_of_run (λ p. Ok (pair_operands p)) (pair_of 0x22500001 0x22500003 ∷ (pair_of 0xA2500001 0x22500004 ∷ (pair_of 0x22500002 0x22500001 ∷ []))) ≡ pos 20 ∷ (pos 21 ∷ (pos 22 ∷ []))
unfolding declet_value number_of
postings_computed = refl

pub round_computed : totals_of_run round_judged (worked_round ∷ []) ≡ pos 112 ∷ (pos 112 ∷ (pos 113 ∷ []))
round_computed = refl
