-- Every draft is within one of its quotient, which has eight digits or is 0.
-- Assumes nothing.
use Rattle.std.proofs.Common.{◌≡◌, ℕ, ◌*◌, ◌^◌, ◌<◌, ◌≤◌, sym, subst, arith}
use Rattle.divider.specs.Drafts.{widening}
use Rattle.divider.proofs.Bracket.{Brackets, brackets, wide_least, wide_most}
use Rattle.divider.proofs.begin.assemble.Goals as goal

-- what holds of the widened dividend holds of the code's
carried : (P : ℕ → Type 0) (w v : ℕ) → v ≡ w → P w → P v
carried P w v e h = subst P (sym e) h

pub invariant_of-result : goal.invariant_of-result
invariant_of-result c =
    let Y : ℕ = c.args.y.digits in
    let D : ℕ = c.args.x.digits in
    let w = c.widen-widened in
    let lo : 1000000 ≤ D = c.args.x.least c.requires.nonzero in
    let b : Brackets w.result.dividend D w.result.biased =
    carried (λ a. Brackets a D w.result.biased) _ _ w.ensures.dividend (carried (λ q. Brackets (Y * 10 ^ widening Y D) D q) _ _ w.ensures.biased (brackets D Y c.args.reciprocal c.requires.near c.args.y.most))
    in
    record {
      some = b.some;
      under = b.under;
      over = b.over;
      seven = (lo, c.args.x.most);
      least = carried (λ a. 0 < a → 10000000 * D ≤ a) _ _ w.ensures.dividend (wide_least Y D c.args.y.least lo c.args.x.most);
      most = carried (λ a. a ≤ 99999990 * D) _ _ w.ensures.dividend (wide_most Y D c.args.y.most lo c.args.x.most);
      far = omega (arith, c.saturating_sub.ensures, w.ensures.few);
    }
