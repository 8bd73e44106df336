-- Assumes nothing.
use Rattle.std.proofs.Common.{◌≡◌, rules}
use Rattle.words.specs.Answers.{answered}
use Rattle.words.proofs.Kept.{by_kept}
use Rattle.words.proofs.answer.answer.Goals as goal

pub returns-clause-whole_line : goal.returns-clause-whole_line
returns-clause-whole_line c =
    let l = c.args.line.now in
    let e : c.ok_or.result ≡ answered l.number l.text = search rules in
    by_kept l.number l.text c.ok_or.result e
