-- The searches of the definition find what they say. Assumes nothing.
use Rattle.std.proofs.Common.{◌≡◌, ℕ, suc, ◌+◌, ◌-◌, ◌*◌, ◌/◌, ◌%◌, ◌^◌, ◌<◌, ◌≤◌, Bool, true, false, cond, ◌&&◌, ◌||◌, eqb, ltb, leb, sym, ap, ◌∙◌, subst, inl, inr, div-lt_iff_lt-mul, mul-le-mul_left, mul-pos, arith, pow-add}
use native.Mathlib.Nat.{div-add-mod, mul-mod_right}
use Rattle.std.proofs.lemmas.Bool.{cases_lt, cases_Bool, cond-true, cond-false, ltb-true, ltb-false, lt-ltb, le-ltb, leb-true, le-leb, eqb-true, eq-eqb, and_parts, and_from, or_cases, or_left, or_right, both_ways}
use Rattle.quotient.specs.Search.{Least}
use Rattle.quotient.specs.Quotients.{Range, under, exponent_of, fits, distance, preferred}
use Rattle.quotient.specs.Laws.{LeastExponent, Nearest, apart, DefinitionStands}
use Rattle.quotient.proofs.Exponent.{tens_pos, tens_least}
use Rattle.quotient.proofs.Search.{least_is, least_meant}

exponent : (f : Range) (n d : ℕ) → LeastExponent f n d (exponent_of f n d)
unfolding exponent_of
exponent f n d =
    let l = least_meant (suc f.span) (λ k. under n d (k + f.digits)) in
    record {
      within = l.within;
      enough = λ h. ltb-true _ _ (l.found (omega arith));
      before = λ j h. ltb-false _ _ (l.before j h);
    }

one_exponent : (f : Range) (n d e : ℕ) → LeastExponent f n d e → e ≡ exponent_of f n d
unfolding exponent_of
one_exponent f n d e t =
    sym (least_is (suc f.span) (λ k. under n d (k + f.digits)) e (
    record {
      within = t.within;
      found = λ h. lt-ltb _ _ (t.enough (omega arith));
      before = λ j h. le-ltb _ _ (t.before j h);
    }
    ))

-- the test of `distance`
abbrev at : Range → ℕ → ℕ → ℕ → ℕ → Bool
at f n d i t = fits f n d (i + t) || (leb t i && fits f n d (i - t))

at_apart : (f : Range) (n d i j : ℕ) → fits f n d j ≡ true → at f n d i (apart j i) ≡ true
at_apart f n d i j h =
    elim (cases_lt j i) [
      | inl l ↦ let e : i - apart j i ≡ j = omega arith in
          or_right (fits f n d (i + apart j i)) _ (and_from (leb (apart j i) i) _ (le-leb _ _ (omega arith)) (ap (fits f n d) e ∙ h))
      | inr l ↦ let e : i + apart j i ≡ j = omega arith in
          or_left _ (leb (apart j i) i && fits f n d (i - apart j i)) (ap (fits f n d) e ∙ h)
    ]

-- a number that shows n / d is in the format, so not too far away
not_far : (f : Range) (n d i j : ℕ) → fits f n d j ≡ true → apart j i < suc (f.span + i)
not_far f n d i j h =
    let p = and_parts (leb j f.span) (eqb (n % (d * 10 ^ j)) 0 && ltb (n / (d * 10 ^ j)) (10 ^ f.digits)) h in
    omega (arith, leb-true j f.span p.0)

no_nearer : (f : Range) (n d i t j : ℕ) → Least (suc (f.span + i)) (at f n d i) t → fits f n d j ≡ true → t ≤ apart j i
no_nearer f n d i t j l h =
    elim (cases_lt (apart j i) t) [
      | inl o ↦ absurd (both_ways (at f n d i (apart j i)) (l.before (apart j i) o) (at_apart f n d i j h))
      | inr o ↦ o
    ]

nearest_at : (f : Range) (n d i t j : ℕ) → Least (suc (f.span + i)) (at f n d i) t → fits f n d j ≡ true → Nearest f n d i (cond (fits f n d (i + t)) (i + t) (i - t))
nearest_at f n d i t j l h =
    let s : t < suc (f.span + i) = omega (arith, no_nearer f n d i t j l h, not_far f n d i j h) in
    let e : at f n d i t ≡ true = l.found s in
    elim (cases_Bool (fits f n d (i + t))) [
      | inl u ↦ subst (Nearest f n d i) (sym (cond-true (fits f n d (i + t)) _ _ u)) (record { shows = u; nearest = λ k g. let o : t ≤ apart k i = no_nearer f n d i t k l g in omega arith })
      | inr u ↦
          let v : (leb t i && fits f n d (i - t)) ≡ true = second (fits f n d (i + t)) _ u e in
          let p = and_parts (leb t i) (fits f n d (i - t)) v in
          let w : t ≤ i = leb-true t i p.0 in
          subst (Nearest f n d i) (sym (cond-false (fits f n d (i + t)) _ _ u)) (record { shows = p.1; nearest = λ k g. let o : t ≤ apart k i = no_nearer f n d i t k l g in omega arith })
    ]
  where
    second : (x y : Bool) → x ≡ false → (x || y) ≡ true → y ≡ true
    second x y a b = elim (or_cases x y b) [ inl c ↦ absurd (both_ways x a c) | inr c ↦ c ]

distance_least : (f : Range) (n d i : ℕ) → Least (suc (f.span + i)) (at f n d i) (distance f n d i)
unfolding distance
distance_least f n d i = least_meant (suc (f.span + i)) (at f n d i)

ideal : (f : Range) (n d i j : ℕ) → fits f n d j ≡ true → Nearest f n d i (preferred f n d i)
ideal f n d i j h = nearest_at f n d i (distance f n d i) j (distance_least f n d i) h

-- between two exponents that show n / d each one does
between : (f : Range) (n d j i k : ℕ) → 0 < d → j ≤ i → i ≤ k → fits f n d j ≡ true → fits f n d k ≡ true → fits f n d i ≡ true
between f n d j i k pos a b g h =
    let p = and_parts (leb j f.span) (eqb (n % (d * 10 ^ j)) 0 && ltb (n / (d * 10 ^ j)) (10 ^ f.digits)) g in
    let q = and_parts (eqb (n % (d * 10 ^ j)) 0) (ltb (n / (d * 10 ^ j)) (10 ^ f.digits)) p.1 in
    let r = and_parts (leb k f.span) (eqb (n % (d * 10 ^ k)) 0 && ltb (n / (d * 10 ^ k)) (10 ^ f.digits)) h in
    let s = and_parts (eqb (n % (d * 10 ^ k)) 0) (ltb (n / (d * 10 ^ k)) (10 ^ f.digits)) r.1 in
    let in_span : i ≤ f.span = omega (arith, leb-true k f.span r.0) in
    let z : n % (d * 10 ^ k) ≡ 0 = eqb-true (n % (d * 10 ^ k)) 0 s.0 in
    let t : ℕ = n / (d * 10 ^ k) in
    let e : d * 10 ^ k * t ≡ n = omega (arith, div-add-mod n (d * 10 ^ k)) in
    let w : i + (k - i) ≡ k = omega arith in
    let u : 10 ^ k ≡ 10 ^ i * 10 ^ (k - i) = ap (λ x. 10 ^ x) (sym w) ∙ pow-add 10 i (k - i) in
    let v : n ≡ d * 10 ^ i * (10 ^ (k - i) * t) = omega (arith, ap (λ x. d * x * t) u) in
    let whole : n % (d * 10 ^ i) ≡ 0 = ap (λ x. x % (d * 10 ^ i)) v ∙ mul-mod_right (d * 10 ^ i) (10 ^ (k - i) * t) in
    let l : n < 10 ^ f.digits * (d * 10 ^ j) = (div-lt_iff_lt-mul (mul-pos pos (tens_pos j))).0 (ltb-true (n / (d * 10 ^ j)) (10 ^ f.digits) q.1) in
    let m : 10 ^ j ≤ 10 ^ i = tens_least j i a in
    let c : n < 10 ^ f.digits * (d * 10 ^ i) = omega (arith, mul-le-mul_left (10 ^ f.digits * d) m) in
    let small : n / (d * 10 ^ i) < 10 ^ f.digits = (div-lt_iff_lt-mul (mul-pos pos (tens_pos i))).1 c in
    and_from _ _ (le-leb i f.span in_span) (and_from _ _ (eq-eqb (n % (d * 10 ^ i)) 0 whole) (lt-ltb (n / (d * 10 ^ i)) (10 ^ f.digits) small))

-- so there is one nearest
one_ideal : (f : Range) (n d i k : ℕ) → 0 < d → Nearest f n d i k → k ≡ preferred f n d i
one_ideal f n d i k pos a =
    let b : Nearest f n d i (preferred f n d i) = ideal f n d i k a.shows in
    same (preferred f n d i) b (a.nearest (preferred f n d i) b.shows) (b.nearest k a.shows)
  where
    at_ideal : fits f n d i ≡ true → k ≡ i
    at_ideal h = let o : apart k i ≤ apart i i = a.nearest i h in omega arith

    same : (p : ℕ) → Nearest f n d i p → apart k i ≤ apart p i → apart p i ≤ apart k i → k ≡ p
    same p b x y =
        elim (cases_lt k i) [
          | inl l ↦ elim (cases_lt i p) [
            | inl m ↦ let e : k ≡ i = at_ideal (between f n d k i p pos (omega arith) (omega arith) a.shows b.shows) in absurd (omega arith)
            | inr m ↦ omega arith
          ]
          | inr l ↦ elim (cases_lt p i) [
            | inl m ↦ let e : k ≡ i = at_ideal (between f n d p i k pos (omega arith) (omega arith) b.shows a.shows) in omega arith
            | inr m ↦ omega arith
          ]
        ]

pub stands : DefinitionStands
stands = record { exponent = exponent; one_exponent = one_exponent; ideal = ideal; one_ideal = one_ideal }
