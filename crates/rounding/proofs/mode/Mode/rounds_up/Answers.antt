-- The answer is the definition's, so it is what the mode means and nothing else is.
-- Assumes nothing.
use Rattle.rounding.proofs.Chosen.{rounds_so}
use Rattle.rounding.proofs.mode.Mode.rounds_up.Goals as goal

pub returns-clause-only : goal.returns-clause-only
returns-clause-only c = rounds_so c.args.self c.args.sign c.args.odd c.args.position _ c.goes_up_to_next.ensures
