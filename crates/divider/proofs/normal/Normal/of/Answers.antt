-- The digits of a coefficient that is not 0 are seven.
-- Assumes nothing.
use Rattle.std.proofs.Common.{ℕ, zero, suc, ◌^◌, ◌<◌, ◌≤◌, zero-mul, rules, arith}
use Rattle.divider.specs.Drafts.{Scaled}
use Rattle.divider.proofs.normal.Normal.of.Goals as goal

-- digits that are not 0 are seven
full : (c d a : ℕ) → Scaled c d a → 0 < d → 1000000 ≤ d
full zero d a s h = absurd (omega (arith, s.is, zero-mul (10 ^ a)))
full (suc c) d a s h = s.least (omega arith)

pub invariant_of-result : goal.invariant_of-result
invariant_of-result c =
    let s = c.scale-digits.ensures in
    record { least = full _ _ _ s; most = s.most; few = s.few; far = search rules }
