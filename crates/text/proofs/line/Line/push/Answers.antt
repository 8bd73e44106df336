-- A byte is kept where there is room, with zeros behind it.
-- Assumes nothing.
use Rattle.std.proofs.Common.{sym, ap, ◌∙◌, arith}
use Rattle.std.proofs.lemmas.List.{length-set}
use Rattle.text.specs.Lines.{known_with}
use Rattle.text.proofs.Goes.{grown, full, zeros_behind}
use Rattle.text.proofs.line.Line.push.Goals as goal

pub invariant_of-self : goal.invariant_of-self
invariant_of-self c =
    let l = c.self.inside in
    let p = c.self.invariant in
    record { long = length-set l.bytes l.len c.args.byte ∙ p.long; short = omega arith; zeros = zeros_behind l.bytes l.len c.args.byte p.zeros }

pub returns-then-self-lt33 : goal.returns-then-self-lt33
returns-then-self-lt33 c =
    let l = c.self.inside in
    let n = l.number in
    let e = grown l.bytes l.len c.args.byte c.if-self-lt33.true c.self.invariant.long in
    (λ i. record { number = n; text = e i }) ∙ ap (λ k. known_with k c.args.byte) c.self.view_is

pub returns-else-self-lt33 : goal.returns-else-self-lt33
returns-else-self-lt33 c =
    let l = c.self.inside in
    let n = l.number in
    let e = full l.bytes l.len c.args.byte (omega (arith, c.self.invariant.short, c.if-self-lt33.false)) c.self.invariant.long in
    sym c.self.view_is ∙ (λ i. record { number = n; text = e i }) ∙ ap (λ k. known_with k c.args.byte) c.self.view_is
