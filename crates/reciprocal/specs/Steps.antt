-- A layer of Newton's step approximates if the source below does.
-- Assumes nothing.
use Rattle.std.specs.Prelude.{◌≡◌, ℕ, zero, suc, ◌+◌, ◌-◌, ◌*◌, ◌/◌, ◌^◌, ◌<◌, ◌≤◌, min}
use Rattle.std.proofs.Common.{ap, subst, arith, mul-le-mul, mul-le-mul_left, mul-le-mul_right, mul-pos, div-mul-le_self, div-lt_iff_lt-mul, pow-add}
use Rattle.std.proofs.Math.Nat.{lt_of_mul-lt-mul_left, lt-div-mul-add, one-le-pow}
use Rattle.reciprocal.specs.Sources.{Approximates}
use Rattle.reciprocal.specs.Layers.{finer, places, gap, refined, cut, layered}

-- A step at the scales W = 10^(G+2), K = 10^(G+8-v) and P = 10^v, v being the places: r answers below, S is what r * D lacks, t is the
-- product that is kept, V the gap and s the answer.
record Step (W K P D r S t V s : ℕ) : Type 0 where
  scale : 1000000 * W ≡ K * P
  unit : 0 < K
  wide : 121 * D ≤ 14 * (W * K)
  least : 1000000 ≤ D
  some : 0 < S
  lacks : r * D + S ≡ K * P
  near : 2 * S < 11 * D
  t_low : t * K ≤ D * r
  t_high : D * r < t * K + K
  gap_is : V + 1 + t ≡ 2 * P
  s_low : s * W ≤ r * V
  s_high : r * V < s * W + W

-- the gap times K, between K * P + S - K and K * P + S
gap_low : {W K P D r S t V s : ℕ} → Step W K P D r S t V s → r * D + S + S ≤ V * K + K
gap_low {K = K} l = omega (arith, ap (λ (x : ℕ). x * K) l.gap_is)

gap_high : {W K P D r S t V s : ℕ} → Step W K P D r S t V s → V * K ≤ r * D + S + S
gap_high {K = K} l = omega (arith, ap (λ (x : ℕ). x * K) l.gap_is)

-- the square of the scale, in two ways
square : {W K P D r S t V s : ℕ} → Step W K P D r S t V s → (r * D + S) * (r * D + S) ≡ (W * K) * (1000000 * P)
square {W} {K} {P} l = omega (arith, ap (λ (n : ℕ). n * n) l.lacks, ap (λ (n : ℕ). n * (K * P)) l.scale)

-- r * V * D * K, below the square of the scale and near it
product_high : {W K P D r S t V s : ℕ} → Step W K P D r S t V s → (r * D) * (V * K) < (W * K) * (1000000 * P)
product_high {D = D} {r} l = omega (arith, mul-le-mul_left (r * D) (gap_high l), mul-pos l.some l.some, square l)

product_low : {W K P D r S t V s : ℕ} → Step W K P D r S t V s → (W * K) * (1000000 * P) ≤ (r * D) * (V * K) + r * D * K + S * S
product_low {D = D} {r} l = omega (arith, mul-le-mul_left (r * D) (gap_low l), square l)

-- the answer is below, the product that makes it fits, and the answer is near
short : {W K P D r S t V s : ℕ} → Step W K P D r S t V s → s * D < 1000000 * P
short {W} {K} {P} {D} {s = s} l =
    let m : (W * K) * (s * D) < (W * K) * (1000000 * P) = omega (arith, mul-le-mul_right (K * D) l.s_low, product_high l) in
    lt_of_mul-lt-mul_left (W * K) m

fits : {W K P D r S t V s : ℕ} → Step W K P D r S t V s → r * V < W * P
fits {W} {K} {P} {D} {r} {V = V} l =
    let m : (1000000 * K) * (r * V) < (1000000 * K) * (W * P) = omega (arith, mul-le-mul_right (r * V * K) l.least, product_high l) in
    lt_of_mul-lt-mul_left (1000000 * K) m

close : {W K P D r S t V s : ℕ} → Step W K P D r S t V s → 2 * (1000000 * P) < 11 * D + 2 * (s * D)
close {W} {K} {P} {D} {r} {S} {s = s} l =
    let two : 2 * S ≤ 11 * D = omega (arith, l.near) in
    let d : 0 < D = omega (arith, l.least) in
    let below : r * D < K * P = omega (arith, l.lacks, l.some) in
    let m : (W * K) * (2 * (1000000 * P)) < (W * K) * (11 * D + 2 * (s * D)) =
    omega (
      arith,
      product_low l,
      mul-le-mul_right (K * D) l.s_high,
      mul-le-mul two two,
      mul-le-mul_right D l.wide,
      mul-le-mul_left K below,
      mul-le-mul_left (W * K) l.least,
      ap (λ (n : ℕ). K * n) l.scale,
      mul-pos l.unit d,
    )
    in
    lt_of_mul-lt-mul_left (W * K) m

-- the powers at a claim: equations and orders of numerals, once the claim is one
record Sizes (G : ℕ) : Type 0 where
  scale : 1000000 * 10 ^ (G + 2) ≡ 10 ^ (G + 8 - places G) * 10 ^ places G
  full : 10 ^ (G + 8) ≡ 10 ^ (G + 8 - places G) * 10 ^ places G
  next : 10 ^ (finer G + 8) ≡ 1000000 * 10 ^ places G
  wide : 1210000000 ≤ 14 * (10 ^ (G + 2) * 10 ^ (G + 8 - places G))
  all : 10 ^ places G * 10 ^ (G + 8 - places G) ≤ 10 ^ 14
  one : 10 ^ places G ≤ 10 ^ 11
  room : 10 ^ (G + 2) * 10 ^ places G ≤ 10 ^ 19

-- a claim from one to six
by_claim : (Q : ℕ → Type 0) → Q 1 → Q 2 → Q 3 → Q 4 → Q 5 → Q 6 → (G : ℕ) → 1 ≤ G → G ≤ 6 → Q G
by_claim Q a b c d e f zero l h = absurd (omega arith)
by_claim Q a b c d e f (suc zero) l h = a
by_claim Q a b c d e f (suc (suc zero)) l h = b
by_claim Q a b c d e f (suc (suc (suc zero))) l h = c
by_claim Q a b c d e f (suc (suc (suc (suc zero)))) l h = d
by_claim Q a b c d e f (suc (suc (suc (suc (suc zero))))) l h = e
by_claim Q a b c d e f (suc (suc (suc (suc (suc (suc zero)))))) l h = f
by_claim Q a b c d e f (suc (suc (suc (suc (suc (suc (suc n))))))) l h = absurd (omega arith)

sizes : (G : ℕ) → 1 ≤ G → G ≤ 6 → Sizes G
sizes = by_claim Sizes (omega arith) (omega arith) (omega arith) (omega arith) (omega arith) (omega arith)

-- the numbers of a step fit a word, K and P being its powers
pub record Fitting (D r K P : ℕ) : Type 0 where
  pub product : D * r < 10 ^ 14
  pub one : P ≤ 10 ^ 11
  pub kept : D * r / K < P
  pub room : r * (2 * P - 1 - D * r / K) < 10 ^ 19

-- what a step over a claim of at most six gives
pub record Refines (G D r : ℕ) : Type 0 where
  pub near : Approximates (finer G) D (refined G D r)
  pub fitting : Fitting D r (10 ^ (G + 8 - places G)) (10 ^ places G)

pub refines : (G D r : ℕ) → 1 ≤ G → G ≤ 6 → 1000000 ≤ D → D < 10000000 → Approximates G D r → Refines G D r
refines G D r g h lo hi k =
    let z = sizes G g h in
    let W : ℕ = 10 ^ (G + 2) in
    let K : ℕ = 10 ^ (G + 8 - places G) in
    let P : ℕ = 10 ^ places G in
    let ten : 0 < 10 = omega arith in
    let w : 0 < W = one-le-pow (G + 2) 10 ten in
    let u : 0 < K = one-le-pow (G + 8 - places G) 10 ten in
    let b : r * D < K * P = rw z.full at k.below in
    let m : D * r < P * K = omega arith in
    let kept : D * r / K < P = (div-lt_iff_lt-mul u).1 m in
    let l : Step W K P D r (K * P - r * D) (D * r / K) (gap G D r) (refined G D r) =
    record {
      scale = z.scale;
      unit = u;
      wide = omega (arith, z.wide);
      least = lo;
      some = omega arith;
      lacks = omega arith;
      near = rw z.full at k.near;
      t_low = div-mul-le_self (D * r) K;
      t_high = lt-div-mul-add u;
      gap_is = omega (arith, kept);
      s_low = div-mul-le_self (r * gap G D r) W;
      s_high = lt-div-mul-add w;
    }
    in
    record {
      near = record { below = rw z.next (short l); near = rw z.next (omega (arith, close l, short l)) };
      fitting = record { product = omega (arith, m, z.all); one = z.one; kept = kept; room = omega (arith, fits l, z.room) };
    }

-- the same where m, K and P are results of code
pub computes : (G D r m K P : ℕ) → 1 ≤ G → G ≤ 6 → 1000000 ≤ D → D < 10000000 → Approximates G D r → m ≡ finer G
    → K ≡ 10 ^ (G + 8 - (m + 2)) → P ≡ 10 ^ (m + 2) → Fitting D r K P
computes G D r m K P g h lo hi k em eK eP = rw (eK, eP, em) (refines G D r g h lo hi k).fitting

-- the first digits of an answer: E is ten to the count of the others, c the cut answer
shorter : (E N D r c : ℕ) → 1 ≤ E → c * E ≤ r → r < c * E + E → r * D < E * N → 2 * (E * N) < 11 * D + 2 * (r * D)
    → (c * D < N) × (2 * N < 11 * D + 2 * (c * D))
shorter E N D r c one lo hi b n =
    let m : E * (c * D) < E * N = omega (arith, mul-le-mul_right D lo) in
    let p : E * (2 * N) < E * (11 * D + 2 * (c * D)) = omega (arith, mul-le-mul_right D hi, mul-le-mul_right D one) in
    (lt_of_mul-lt-mul_left E m, lt_of_mul-lt-mul_left E p)

-- the cut answer approximates at a claim of at most six
pub cuts : (G D r : ℕ) → Approximates G D r → Approximates (min G 6) D (cut G r)
cuts G D r k =
    let E : ℕ = 10 ^ (G - 6) in
    let N : ℕ = 10 ^ (min G 6 + 8) in
    let e : 10 ^ (G + 8) ≡ E * N = rw (← pow-add 10 (G - 6) (min G 6 + 8)) (ap (λ (n : ℕ). 10 ^ n) (omega arith)) in
    let pos : 1 ≤ E = one-le-pow (G - 6) 10 (omega arith) in
    let b : r * D < E * N = rw e at k.below in
    let n : 2 * (E * N) < 11 * D + 2 * (r * D) = omega (arith, k.near, b, e) in
    let s = shorter E N D r (r / E) pos (div-mul-le_self r E) (lt-div-mul-add pos) b n in
    record { below = s.0; near = omega (arith, s.0, s.1) }

-- a layer's step, over any claim
pub steps : (G D r : ℕ) → 1 ≤ G → 1000000 ≤ D → D < 10000000 → Approximates G D r → Refines (min G 6) D (cut G r)
steps G D r g lo hi k = refines (min G 6) D (cut G r) (omega arith) (omega arith) lo hi (cuts G D r k)

pub approximates : (G D r : ℕ) → 1 ≤ G → 1000000 ≤ D → D < 10000000 → Approximates G D r → Approximates (finer G) D (layered G D r)
approximates G D r g lo hi k =
    let same : finer (min G 6) ≡ finer G = omega arith in
    subst (λ (n : ℕ). Approximates n D (layered G D r)) same (steps G D r g lo hi k).near
