-- The step's numbers fit, by the laws of the source below. Each power in them is a call's result.
-- Assumes nothing.
use Rattle.std.proofs.Common.{ℕ, ◌/◌, sym, ◌∙◌, arith}
use Rattle.reciprocal.proofs.Asked.{told}
use Rattle.reciprocal.specs.Sources.{Approximates}
use Rattle.reciprocal.specs.Steps.{Fitting, steps}
use Rattle.reciprocal.proofs.newton.NewtonSource.ask.Goals as goal

numbers : (g : _) → (c : goal.After-power_of_ten-unit g)
    → Fitting c.args.divisor (c.in_ok-answer.answer / c.power_of_ten.result) c.power_of_ten-unit.result c.power_of_ten-one.result
numbers g c =
    let s = c.args.self.now.0 in
    let d : ℕ = c.args.divisor in
    let t = told (g.S.Source.reciprocal s) d c.in_ok-answer.answer (sym c.ask.ensures ∙ c.in_ok-answer.was) in
    let near : Approximates (g.S.Source.claim s) d c.in_ok-answer.answer = rw t.is (g.met.S.Source.approximates s d t.least t.most) in
    rw (c.power_of_ten.ensures.value, c.power_of_ten-unit.ensures.value, c.power_of_ten-one.ensures.value, c.saturating_sub.ensures, c.min-places.ensures, c.min-claim.ensures, c.claimed-claim.ensures)
    (steps _ d _ (g.met.S.Source.claims s).0 t.least t.most near).fitting

pub overflow_mul-product : goal.overflow_mul-product
overflow_mul-product g c = omega (arith, (numbers g c).product)

pub overflow_mul-gap : goal.overflow_mul-gap
overflow_mul-gap g c = omega (arith, (numbers g c).one)

pub overflow_sub-gap-2 : goal.overflow_sub-gap-2
overflow_sub-gap-2 g c = omega (arith, (numbers g c).kept)

pub overflow_mul-result : goal.overflow_mul-result
overflow_mul-result g c = omega (arith, (numbers g c).room)
