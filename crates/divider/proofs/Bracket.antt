-- The biased quotient that a reciprocal at claim nine gives is the quotient or one more.
-- Assumes nothing.
use Rattle.std.proofs.Common.{◌≡◌, ℕ, ◌+◌, ◌-◌, ◌*◌, ◌/◌, ◌^◌, ◌<◌, ◌≤◌, ltb, refl, mul-le-mul_right, mul-le-mul_left, div-mul-le_self, arith}
use native.Mathlib.Nat.{le_of_mul-le-mul_left, lt_of_mul-lt-mul_left, lt-div-mul-add}
use Rattle.std.proofs.lemmas.Bool.{cond_both, ltb-true, ltb-false}
use Rattle.reciprocal.specs.Sources.{Approximates}
use Rattle.divider.specs.Drafts.{widening}

-- B is the quotient of A by D, or one more
pub record Brackets (A D B : ℕ) : Type 0 where
  pub some : 0 < B
  pub under : B * D ≤ A + D
  pub over : A < B * D + D

-- P * T is the scale, and q the quotient of Y * r by P
low : (P T D Y r q : ℕ) → 0 < P → q * P ≤ Y * r → r * D < P * T → q * D ≤ Y * T
low P T D Y r q p h k =
    let m : P * (q * D) ≤ P * (Y * T) = omega (arith, mul-le-mul_right D h, mul-le-mul_left Y k) in
    le_of_mul-le-mul_left m p

high : (P T D Y r q : ℕ) → 0 < D → 11 * Y ≤ 2 * P → Y * r < q * P + P → 2 * (P * T) < 11 * D + 2 * (r * D) → Y * T < (q + 2) * D
high P T D Y r q d y h k =
    let m : (2 * P) * (Y * T) < (2 * P) * ((q + 2) * D) = omega (arith, mul-le-mul_right D h, mul-le-mul_left Y k, mul-le-mul_right D y) in
    lt_of_mul-lt-mul_left (2 * P) m

-- both drafts: the scale 10^17 is P * T
draft : (P T D Y r : ℕ) → 0 < P → P * T ≡ 100000000000000000 → 11 * Y ≤ 2 * P → Approximates 9 D r → Brackets (Y * T) D (1 + Y * r / P)
draft P T D Y r p e y k =
    let q : ℕ = Y * r / P in
    let b : r * D < P * T = omega (arith, k.below) in
    let n : 2 * (P * T) < 11 * D + 2 * (r * D) = omega (arith, k.near, k.below) in
    let lo : q * D ≤ Y * T = low P T D Y r q p (div-mul-le_self (Y * r) P) b in
    let hi : Y * T < (q + 2) * D = high P T D Y r q (omega (arith, k.near)) y (lt-div-mul-add p) n in
    record { some = omega arith; under = omega (arith, lo); over = omega (arith, hi) }

below_one : (D Y r : ℕ) → Approximates 9 D r → Y < 10000000 → Brackets (Y * 10 ^ 8) D (1 + Y * r / 10 ^ 9)
below_one D Y r k y = draft (10 ^ 9) (10 ^ 8) D Y r (omega arith) refl (omega arith) k

from_one : (D Y r : ℕ) → Approximates 9 D r → Y < 10000000 → Brackets (Y * 10 ^ 7) D (1 + Y * r / 10 ^ 10)
from_one D Y r k y = draft (10 ^ 10) (10 ^ 7) D Y r (omega arith) refl (omega arith) k

-- by eight zeros or by seven
pub brackets : (D Y r : ℕ) → Approximates 9 D r → Y < 10000000 → Brackets (Y * 10 ^ widening Y D) D (1 + Y * r / 10 ^ (17 - widening Y D))
brackets D Y r k y =
    cond_both (ltb Y D) 8 7 (λ w. Brackets (Y * 10 ^ w) D (1 + Y * r / 10 ^ (17 - w))) (λ _. below_one D Y r k y) (λ _. from_one D Y r k y)

-- the widened dividend gives eight digits of the quotient, or is 0
pub wide_least : (Y D : ℕ) → (0 < Y → 1000000 ≤ Y) → 1000000 ≤ D → D < 10000000 → 0 < Y * 10 ^ widening Y D → 10000000 * D ≤ Y * 10 ^ widening Y D
wide_least Y D y lo hi =
    cond_both (ltb Y D) 8 7 (λ w. 0 < Y * 10 ^ w → 10000000 * D ≤ Y * 10 ^ w)
    (λ _. λ h. omega (arith, y (omega arith)))
    (λ e. λ h. omega (arith, ltb-false Y D e))

pub wide_most : (Y D : ℕ) → Y < 10000000 → 1000000 ≤ D → D < 10000000 → Y * 10 ^ widening Y D ≤ 99999990 * D
wide_most Y D y lo hi =
    cond_both (ltb Y D) 8 7 (λ w. Y * 10 ^ w ≤ 99999990 * D) (λ e. omega (arith, ltb-true Y D e)) (λ e. omega arith)
