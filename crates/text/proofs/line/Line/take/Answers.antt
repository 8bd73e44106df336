-- Assumes nothing.
use Rattle.std.proofs.Common.{eqb, sym, ◌∙◌}
use Rattle.std.proofs.lemmas.Bool.{cond-false, ne_eqb}
use Rattle.text.proofs.Goes.{goes_on}
use Rattle.text.proofs.line.Line.take.Goals as goal

pub returns-clause-goes_on : goal.returns-clause-goes_on
returns-clause-goes_on c = goes_on c.args.self.now _ c.args.byte (c.push.ensures ∙ sym (cond-false (eqb c.args.byte 10) _ _ (ne_eqb c.args.byte 10 c.if-byte-eq10.false)))
