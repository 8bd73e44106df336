-- Assumes nothing.
use Rattle.std.proofs.Common.{◌≡◌, Ok, rules}
use Rattle.divide.specs.Answers.{answered}
use Rattle.divide.proofs.Kept.{answer_kept}
use Rattle.divide.proofs.answer.answer.Goals as goal

pub returns-in_err-quotient-clause-whole_line : goal.returns-in_err-quotient-clause-whole_line
returns-in_err-quotient-clause-whole_line g c =
    let claim = g.S.Source.claim c.args.source.now in
    let l = c.args.line.now in
    let e : c.from_residual-in_err-quotient.result ≡ answered claim l.number l.text = search rules in
    answer_kept claim l.number _ l.text e

pub returns-clause-whole_line : goal.returns-clause-whole_line
returns-clause-whole_line g c =
    let claim = g.S.Source.claim c.args.source.now in
    let l = c.args.line.now in
    let e : Ok (record { 0 = c.in_ok-quotient.quotient }) ≡ answered claim l.number l.text = search rules in
    answer_kept claim l.number _ l.text e
