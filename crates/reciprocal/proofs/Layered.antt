-- Any number of layers approximates. Assumes nothing.
use Rattle.std.proofs.Common.{ℕ, zero, suc, ◌≤◌, arith}
use Rattle.reciprocal.specs.Layers.{layers_claim, layers, LayersApproximate}
use Rattle.reciprocal.specs.Steps.{approximates}

claims : (k G : ℕ) → 1 ≤ G → 1 ≤ layers_claim k G
claims zero G h = h
claims (suc k) G h = omega (arith, claims k G h)

pub layers_approximate : LayersApproximate
layers_approximate G r g near zero D lo hi = near D lo hi
layers_approximate G r g near (suc k) D lo hi =
    approximates (layers_claim k G) D (layers k G r D) (claims k G g) lo hi (layers_approximate G r g near k D lo hi)
