-- Of the exponents that show an exact quotient, the nearest to the ideal one. Assumes nothing.
use Rattle.std.proofs.Common.{◌≡◌, ℕ, suc, ◌+◌, ◌-◌, ◌*◌, ◌/◌, ◌%◌, ◌^◌, ◌<◌, ◌≤◌, true, false, cond, ◌&&◌, ◌||◌, eqb, ltb, leb, sym, ap, ◌∙◌, subst, inl, inr, mul-pos, pow-suc, le-div_iff_mul-le, le_of_mul-le-mul_right, mul-div_cancel, arith, pow-add}
use native.Mathlib.Nat.{mul-mod_left, div-add-mod}
use Rattle.std.proofs.lemmas.Bool.{cases_lt, cond-true, cond-false, lt-ltb, le-ltb, le-leb, lt-leb, eq-eqb, ne_eqb, and_from, and_left, and_right, or_left, or_right, or_from}
use Rattle.quotient.specs.Quotients.{Range, fits, distance, preferred}
use Rattle.quotient.proofs.Search.{least_is}
use Rattle.quotient.proofs.Exponent.{tens_pos}

-- n / d is c * 10^k; no exponent below `from` shows it; k is `from` or not past the ideal one, and could not go further
pub record Shown (f : Range) (n d from ideal c k : ℕ) : Type 0 where
  pub divisor : 0 < d
  pub is : n ≡ c * (d * 10 ^ k)
  pub small : c < 10 ^ f.digits
  pub within : k ≤ f.span
  pub least : (j : ℕ) → j < from → d * 10 ^ (j + f.digits) ≤ n
  pub near : ideal < k → k ≡ from
  pub stop : k < ideal → k < f.span → c % 10 ≡ 0 → ⊥

-- the three ways in which an exponent does not show n / d
too_high : (f : Range) (n d j : ℕ) → f.span < j → fits f n d j ≡ false
too_high f n d j h = and_left (leb j f.span) _ (lt-leb j f.span h)

not_whole : (f : Range) (n d j : ℕ) → (n % (d * 10 ^ j) ≡ 0 → ⊥) → fits f n d j ≡ false
not_whole f n d j h = and_right (leb j f.span) _ (and_left (eqb (n % (d * 10 ^ j)) 0) (ltb (n / (d * 10 ^ j)) (10 ^ f.digits)) (ne_eqb (n % (d * 10 ^ j)) 0 h))

too_large : (f : Range) (n d j : ℕ) → 10 ^ f.digits ≤ n / (d * 10 ^ j) → fits f n d j ≡ false
too_large f n d j h = and_right (leb j f.span) _ (and_right (eqb (n % (d * 10 ^ j)) 0) (ltb (n / (d * 10 ^ j)) (10 ^ f.digits)) (le-ltb (n / (d * 10 ^ j)) (10 ^ f.digits) h))

unit_pos : {f : Range} {n d from ideal c k : ℕ} → Shown f n d from ideal c k → (j : ℕ) → 0 < d * 10 ^ j
unit_pos s j = mul-pos s.divisor (tens_pos j)

pub whole_is : {f : Range} {n d from ideal c k : ℕ} → Shown f n d from ideal c k → n / (d * 10 ^ k) ≡ c
whole_is {f} {n} {d} {from} {ideal} {c} {k} s = ap (λ x. x / (d * 10 ^ k)) s.is ∙ mul-div_cancel c (unit_pos s k)

shows : {f : Range} {n d from ideal c k : ℕ} → Shown f n d from ideal c k → fits f n d k ≡ true
shows {f} {n} {d} {from} {ideal} {c} {k} s =
    let e : n % (d * 10 ^ k) ≡ 0 = ap (λ x. x % (d * 10 ^ k)) s.is ∙ mul-mod_left c (d * 10 ^ k) in
    let l : n / (d * 10 ^ k) < 10 ^ f.digits = subst (λ x. x < 10 ^ f.digits) (sym (whole_is s)) s.small in
    and_from _ _ (le-leb _ _ s.within) (and_from _ _ (eq-eqb _ _ e) (lt-ltb _ _ l))

not_below : {f : Range} {n d from ideal c k : ℕ} → Shown f n d from ideal c k → (j : ℕ) → j < from → fits f n d j ≡ false
not_below {f} {n} {d} s j h =
    let p : 10 ^ (j + f.digits) ≡ 10 ^ j * 10 ^ f.digits = pow-add 10 j f.digits in
    let a : 10 ^ f.digits * (d * 10 ^ j) ≤ n = omega (arith, s.least j h, ap (λ x. d * x) p) in
    let b : 10 ^ f.digits ≤ n / (d * 10 ^ j) = (le-div_iff_mul-le (unit_pos s j)).1 a in
    too_large f n d j b

-- further up some digit would be lost
ends : (n d c k j t : ℕ) → 0 < d * 10 ^ k → n ≡ c * (d * 10 ^ k) → n ≡ (d * 10 ^ (suc j + k)) * t → c % 10 ≡ 0
ends n d c k j t u a b =
    let e : 10 ^ (suc j + k) ≡ 10 ^ j * 10 * 10 ^ k = pow-add 10 (suc j) k ∙ ap (λ x. x * 10 ^ k) (pow-suc 10 j) in
    let f : c * (d * 10 ^ k) ≡ 10 * (10 ^ j * t) * (d * 10 ^ k) = omega (arith, ap (λ x. d * x * t) e) in
    let l : c * (d * 10 ^ k) ≤ 10 * (10 ^ j * t) * (d * 10 ^ k) = omega arith in
    let g : 10 * (10 ^ j * t) * (d * 10 ^ k) ≤ c * (d * 10 ^ k) = omega arith in
    let x : c ≤ 10 * (10 ^ j * t) = le_of_mul-le-mul_right l u in
    let y : 10 * (10 ^ j * t) ≤ c = le_of_mul-le-mul_right g u in
    omega arith

not_above : {f : Range} {n d from ideal c k : ℕ} → Shown f n d from ideal c k → k < ideal → (j : ℕ) → k < j → fits f n d j ≡ false
not_above {f} {n} {d} {from} {ideal} {c} {k} s m j h =
    elim (cases_lt f.span j) [
      | inl o ↦ too_high f n d j o
      | inr o ↦ not_whole f n d j (λ z.
          let v : suc (j - suc k) + k ≡ j = omega arith in
          let w : d * 10 ^ j * (n / (d * 10 ^ j)) ≡ n = omega (arith, div-add-mod n (d * 10 ^ j)) in
          let x : n ≡ d * 10 ^ (suc (j - suc k) + k) * (n / (d * 10 ^ j)) = subst (λ y. n ≡ d * 10 ^ y * (n / (d * 10 ^ j))) (sym v) (sym w) in
          s.stop m (omega arith) (ends n d c k (j - suc k) (n / (d * 10 ^ j)) (unit_pos s k) s.is x))
    ]

distance_up : {f : Range} {n d from ideal c k : ℕ} → Shown f n d from ideal c k → ideal ≤ k → distance f n d ideal ≡ k - ideal
unfolding distance
distance_up {f} {n} {d} {from} {ideal} {c} {k} s h =
    let e : ideal + (k - ideal) ≡ k = omega arith in
    least_is (suc (f.span + ideal)) (λ t. fits f n d (ideal + t) || (leb t ideal && fits f n d (ideal - t))) (k - ideal) (
    record {
      within = omega (arith, s.within);
      found = λ _. or_left _ _ (ap (fits f n d) e ∙ shows s);
      before = λ j l.
          let p : k ≡ from = s.near (omega arith) in
          or_from _ _ (not_below s (ideal + j) (omega arith)) (and_right (leb j ideal) _ (not_below s (ideal - j) (omega arith)));
    }
    )

distance_down : {f : Range} {n d from ideal c k : ℕ} → Shown f n d from ideal c k → k < ideal → distance f n d ideal ≡ ideal - k
unfolding distance
distance_down {f} {n} {d} {from} {ideal} {c} {k} s h =
    let e : ideal - (ideal - k) ≡ k = omega arith in
    least_is (suc (f.span + ideal)) (λ t. fits f n d (ideal + t) || (leb t ideal && fits f n d (ideal - t))) (ideal - k) (
    record {
      within = omega arith;
      found = λ _. or_right (fits f n d (ideal + (ideal - k))) _ (and_from _ _ (le-leb (ideal - k) ideal (omega arith)) (ap (fits f n d) e ∙ shows s));
      before = λ j l. or_from _ _ (not_above s h (ideal + j) (omega arith)) (and_right (leb j ideal) _ (not_above s h (ideal - j) (omega arith)));
    }
    )

at_distance : (f : Range) (n d ideal t : ℕ) → distance f n d ideal ≡ t → preferred f n d ideal ≡ cond (fits f n d (ideal + t)) (ideal + t) (ideal - t)
at_distance f n d ideal t e = ap (λ x. cond (fits f n d (ideal + x)) (ideal + x) (ideal - x)) e

pub preferred_is : {f : Range} {n d from ideal c k : ℕ} → Shown f n d from ideal c k → preferred f n d ideal ≡ k
preferred_is {f} {n} {d} {from} {ideal} {c} {k} s =
    elim (cases_lt k ideal) [
      | inl h ↦ at_distance f n d ideal (ideal - k) (distance_down s h) ∙ cond-false _ _ _ (not_above s h (ideal + (ideal - k)) (omega arith)) ∙ omega arith
      | inr h ↦ let e : ideal + (k - ideal) ≡ k = omega arith in
          at_distance f n d ideal (k - ideal) (distance_up s h) ∙ cond-true _ _ _ (ap (fits f n d) e ∙ shows s) ∙ e
    ]
