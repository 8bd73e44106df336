-- The look-up's numbers fit, for a divisor that is not refused. Each power in them is a call's result.
-- Assumes nothing.
use Rattle.std.proofs.Common.{ℕ, sym, ◌∙◌, arith}
use Rattle.reciprocal.proofs.Asked.{told}
use Rattle.reciprocal.specs.Leading.{Fitting, fitting}
use Rattle.reciprocal.proofs.table.AnySource.ask.Goals as goal
use Rattle.reciprocal.proofs.table.AnySource.ask.Goals.{After-power_of_ten-scale}

numbers : (g : _) → (c : After-power_of_ten-scale g)
    → Fitting g.T.DigitTable.DIGITS c.in_ok-divisor.divisor c.power_of_ten-unit.result c.power_of_ten.result c.power_of_ten-scale.result
numbers g c =
    let t = told (λ (d : ℕ). d) c.args.divisor c.in_ok-divisor.divisor (sym c.seven_digits.ensures ∙ c.in_ok-divisor.was) in
    rw (t.is, c.power_of_ten-unit.ensures.value, c.power_of_ten.ensures.value, c.power_of_ten-scale.ensures.value, c.DIGITS.ensures, c.DIGITS-2.ensures, c.DIGITS-3.ensures)
    (fitting g.T.DigitTable.DIGITS c.args.divisor g.met.T.DigitTable.width t.least t.most)

pub entry_of-requires : goal.entry_of-requires
entry_of-requires g c = (numbers g c).first

pub overflow_sub-factor-2 : goal.overflow_sub-factor-2
overflow_sub-factor-2 g c = omega (arith, (numbers g c).next)

pub overflow_mul-result : goal.overflow_mul-result
overflow_mul-result g c = rw c.entry_of.ensures (omega (arith, (numbers g (goal.at.overflow_mul-result g c).After-power_of_ten-scale).room))
