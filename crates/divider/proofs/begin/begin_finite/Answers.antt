-- The draft stands for the quotient of the two numbers that were brought to seven digits.
-- Assumes nothing.
use Rattle.std.proofs.Common.{ℕ, sym, subst}
use Rattle.quotient.specs.Quotients.{decimal32, quotient_top, quotient_bottom}
use Rattle.divider.specs.Drafts.{StandsFor, counted}
use Rattle.divider.proofs.Begun.{Numbers, stands}
use Rattle.divider.proofs.begin.begin_finite.Goals as goal

pub returns-clause-stands : goal.returns-clause-stands
returns-clause-stands g c =
    let y = c.of in
    let x = c.of-divisor in
    let cy : ℕ = c.args.y.coefficient in
    let cx : ℕ = c.args.x.coefficient in
    let n : Numbers cy y.result.exponent cx x.result.exponent y.result.digits y.result.zeros x.result.digits x.result.zeros =
    record { dividend = y.ensures.scaled; divisor = x.ensures.scaled; nonzero = c.requires; up = y.result.far; down = x.result.far }
    in
    subst (λ e. StandsFor c.assemble.result (quotient_top decimal32 cy (counted c.args.y.exponent)) (quotient_bottom cx e)) x.ensures.exponent
    (subst (λ e. StandsFor c.assemble.result (quotient_top decimal32 cy e) (quotient_bottom cx x.result.exponent)) y.ensures.exponent
    (subst (λ b. StandsFor b (quotient_top decimal32 cy y.result.exponent) (quotient_bottom cx x.result.exponent)) (sym c.assemble.ensures) (stands cy n)))
