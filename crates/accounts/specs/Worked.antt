-- Lines that are worked out by hand: one computed test of the definitions. Assumes nothing.
use Rattle.std.specs.Prelude.{◌≡◌, ℕ, List, [], ◌∷◌, ℤ, pos, Ok, Err, Result}
use Rattle.refusals.specs.declared.Fault.{Fault}
use Rattle.rounding.specs.declared.mode.Mode.TheVariants.{NearestEven}
use Rattle.rounding.specs.Modes.{mode_numbered}
use Rattle.divider.specs.Exact.{Exact}
use Rattle.divider.specs.Worked as division
use Rattle.card.specs.Tallies.{Tally, opened}
use Rattle.divider.specs.declared.pair.Pair.{Pair}
use Rattle.runs.specs.declared.records.Round.{Round}
use Rattle.runs.specs.Records.{Operands, record_quotient, round_judged}
use Rattle.runs.specs.Runs.{record_posted, run_in}
use Rattle.accounts.specs.declared.calls.Call.{Call}
use Rattle.accounts.specs.declared.calls.Call.TheVariants.{Begin, Post}
use Rattle.accounts.specs.Account.{Item, course}
use Rattle.accounts.specs.Exact.{in_steps}
use Rattle.accounts.specs.Law.{total_of, floor, figure, ceiling}

abbrev pub low_figure_high : Tally → List ℤ
low_figure_high t = t.low ∷ (t.figure ∷ (t.high ∷ []))

-- the totals of a new card of step 1 after a run over these records in mode 1, over a source that claims nine
abbrev pub totals_of_run : {X : Type 0} → (X → Result Operands Fault) → List X → List ℤ
totals_of_run operands xs = low_figure_high (run_in (mode_numbered 1) (record_posted 9 operands) xs (opened 1)).state

-- the same from the items of an account
abbrev pub totals_of_items : List Item → List ℤ
totals_of_items items = total_of floor items ∷ (total_of figure items ∷ (total_of ceiling items ∷ []))

abbrev pub pair_of : ℕ → ℕ → Pair
pair_of y x = record { dividend = y; divisor = x }

-- 1 / 3, -1 / 4 and 2 / 1, begun and posted in turn
abbrev pub three_postings : List Call
three_postings =
    Begin (pair_of 0x22500001 0x22500003)
    ∷ (Post 0 ∷ (Begin (pair_of 0xA2500001 0x22500004) ∷ (Begin (pair_of 0x22500002 0x22500001) ∷ (Post 2 ∷ (Post 1 ∷ [])))))

-- gross 85, rating 72.3, adjustment 0, slope 128, at step 1 in mode 1
abbrev pub worked_round : Round
worked_round = record { gross = 85; rating = 723; adjustment = pos 0; slope = 128 }

abbrev one_item : Result Exact Fault → List Item
one_item (Ok q) = record { mode = NearestEven; quotient = in_steps 1 q } ∷ []
one_item (Err f) = []

pub record WorkedLines : Type 0 where
  pub divisions : division.WorkedLines
  -- low 20, figure 21, high 22
  pub three_postings_total : totals_of_items (course 9 1 three_postings).account.standing.items ≡ pos 20 ∷ (pos 21 ∷ (pos 22 ∷ []))
  -- floor 112, ceiling 113
  pub round_totals : totals_of_items (one_item (record_quotient 9 (round_judged worked_round))) ≡ pos 112 ∷ (pos 112 ∷ (pos 113 ∷ []))
