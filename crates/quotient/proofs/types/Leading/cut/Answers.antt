-- The unit is ten at least, and what is left is the remainder.
-- Assumes nothing.
use Rattle.std.proofs.Common.{◌%◌, ◌<◌, sym, subst, ap, ◌∙◌, mod-lt, arith}
use Rattle.std.proofs.Math.Nat.{mod-eq-sub-div-mul}
use Rattle.quotient.specs.Drafts.{sticky}
use Rattle.quotient.proofs.Ways.{floor_small}
use Rattle.quotient.proofs.types.Leading.cut.Goals as goal

pub locate-requires : goal.locate-requires
locate-requires c =
    let u = c.unit_of-unit in
    (subst (λ r. r < u.result) (mod-eq-sub-div-mul c.args.self.digits u.result) (mod-lt _ (omega (arith, u.ensures.least))), u.ensures.most)

pub invariant_of-result : goal.invariant_of-result
invariant_of-result c = record { small = floor_small c.args.self.digits c.unit_of-unit.result 10000000 (omega (arith, c.args.self.most)) c.unit_of-unit.ensures.least }

pub returns-clause-position : goal.returns-clause-position
returns-clause-position c =
    let l = c.args.self in
    let u = c.unit_of-unit in
    c.locate.ensures
    ∙ ap (λ r. sticky r u.result l.left) (sym (mod-eq-sub-div-mul l.digits u.result))
    ∙ (λ i. sticky (l.digits % u.ensures.value i) (u.ensures.value i) l.left)
