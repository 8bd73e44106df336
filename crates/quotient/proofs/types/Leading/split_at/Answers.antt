-- Each way out is the definition's at every fraction that the digits are of.
-- Assumes nothing.
use Rattle.std.proofs.Common.{◌≡◌, ℕ, zero, suc, ◌+◌, ◌-◌, ◌<◌, ◌≤◌, min, refl, arith}
use Rattle.quotient.specs.declared.types.Leading.{Leading}
use Rattle.quotient.proofs.Splits.{split_zero, split_large, split_cut}
use Rattle.quotient.proofs.types.Leading.split_at.Goals as goal

-- digits that are not 0 are eight
eight : (l : Leading) → (l.digits ≡ 0 → ⊥) → 10000000 ≤ l.digits
eight l z = l.least (some l.digits z)
  where
    some : (q : ℕ) → (q ≡ 0 → ⊥) → 0 < q
    some zero z = absurd (z refl)
    some (suc q) z = omega arith

end_is : (s m : ℕ) → m ≡ min s 101 → 101 - s + 104 ≡ 205 - m
end_is s m e = omega arith

pub returns-then-self-eq0 : goal.returns-then-self-eq0
returns-then-self-eq0 c n d t = split_zero c.args.scale c.if-self-eq0.true t

pub returns-then-self-end : goal.returns-then-self-end
returns-then-self-end c n d t =
    split_large c.args.scale (eight c.args.self c.if-self-eq0.false) (omega (arith, end_is c.args.scale c.min-end.result c.min-end.ensures, c.if-self-end.true)) t

pub returns : goal.returns
returns c n d t =
    split_cut c.args.scale (205 - c.min-end.result - c.args.self.place) c.cut.result.floor c.cut.result.position (omega (arith, c.args.self.most))
    (omega (arith, end_is c.args.scale c.min-end.result c.min-end.ensures, c.if-self-end.false)) (omega (arith, c.if-self-end.false)) c.cut.ensures.floor c.cut.ensures.position t
