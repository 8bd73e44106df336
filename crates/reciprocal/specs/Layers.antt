-- Newton's step over a source of claim G that answers r for D. Assumes nothing.
use Rattle.std.specs.Prelude.{ℕ, zero, suc, ◌+◌, ◌-◌, ◌*◌, ◌/◌, ◌^◌, ◌<◌, ◌≤◌, min}
use Rattle.reciprocal.specs.Sources.{Approximates}

-- the claim of the layer
abbrev pub finer : ℕ → ℕ
finer G = min (2 * G) 9

-- the places of the product of divisor and answer that count
abbrev pub places : ℕ → ℕ
places G = finer G + 2

-- two, less the product of divisor and answer, in units of the last place
abbrev pub gap : ℕ → ℕ → ℕ → ℕ
gap G D r = 2 * 10 ^ places G - 1 - D * r / 10 ^ (G + 8 - places G)

-- the step over a claim of at most six
abbrev pub refined : ℕ → ℕ → ℕ → ℕ
refined G D r = r * gap G D r / 10 ^ (G + 2)

-- the digits of an answer up to a claim of six
abbrev pub cut : ℕ → ℕ → ℕ
cut G r = r / 10 ^ (G - 6)

-- the answer of the layer, over any claim
abbrev pub layered : ℕ → ℕ → ℕ → ℕ
layered G D r = refined (min G 6) D (cut G r)

-- the claim of k layers over a source of claim G
abbrev pub layers_claim : ℕ → ℕ → ℕ
layers_claim zero G = G
layers_claim (suc k) G = finer (layers_claim k G)

-- the reciprocal of D by k layers over a source of claim G with the reciprocals r
abbrev pub layers : ℕ → ℕ → (ℕ → ℕ) → ℕ → ℕ
layers zero G r D = r D
layers (suc k) G r D = layered (layers_claim k G) D (layers k G r D)

-- over every source that approximates, and for every divisor of seven digits, any number of layers approximates: each lies below the exact
-- reciprocal by less than five and a half units of its last digit
abbrev pub LayersApproximate : Type 0
LayersApproximate =
    (G : ℕ) (r : ℕ → ℕ) → 1 ≤ G → ((D : ℕ) → 1000000 ≤ D → D < 10000000 → Approximates G D (r D))
    → (k D : ℕ) → 1000000 ≤ D → D < 10000000 → Approximates (layers_claim k G) D (layers k G r D)
