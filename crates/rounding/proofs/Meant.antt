-- What the modes make of a magnitude is what they mean of the signed value. Assumes nothing.
use Rattle.std.proofs.Common.{◌≡◌, ℕ, zero, suc, ◌+◌, ◌*◌, ◌/◌, ◌%◌, ◌<◌, ◌≤◌, cond, eqb, ltb, ◌⊎◌, pos, negsuc, ◌-ℤ◌, ◌*ℤ◌, neg_ℤ, nat_abs, MatchBool, sym, ap, ◌∙◌, subst, inl, inr, mod-lt, lt_of_mul-lt-mul_right, zero-mul, arith}
use native.Mathlib.Nat.{div-add-mod}
use borrow.Author.Differences.{product_is}
use Rattle.std.proofs.lemmas.Int.{ints}
use Rattle.std.proofs.lemmas.Bool.{cases_lt, cases_eq, cases_order, cond_both, cond-true, cond-false, lt-ltb, le-ltb, eq-eqb, ne_eqb, eqb-true, eqb-false}
use Rattle.rounding.specs.declared.sign.Sign.{Sign}
use Rattle.rounding.specs.declared.sign.Sign.TheVariants.{Plus, Minus}
use Rattle.rounding.specs.declared.mode.Mode.{Mode}
use Rattle.rounding.specs.declared.mode.Mode.TheVariants.{NearestEven, NearestZero, NearestAway, Ceiling, Floor, TowardZero, AwayFromZero}
use Rattle.rounding.specs.declared.mode.Position.{Position}
use Rattle.rounding.specs.declared.mode.Position.TheVariants.{Whole, Below, Middle, Above}
use Rattle.rounding.specs.Rounding.{placed, position, goes_up, is_odd, raised, rounded}
use Rattle.rounding.specs.Modes.{signed, Under, Over, Closest, Rounds}

-- a rest's place, told by two comparisons

pub placed_whole : (r m : ℕ) → r ≡ 0 → placed r m ≡ Whole
placed_whole r m e = cond-true (eqb r 0) _ _ (eq-eqb r 0 e)

pub placed_below : (r m : ℕ) → 0 < r → 2 * r < m → placed r m ≡ Below
placed_below r m h l = cond-false (eqb r 0) _ _ (ne_eqb r 0 (λ e. omega arith)) ∙ cond-true (ltb (2 * r) m) _ _ (lt-ltb _ _ l)

pub placed_middle : (r m : ℕ) → 0 < r → 2 * r ≡ m → placed r m ≡ Middle
placed_middle r m h l =
    cond-false (eqb r 0) _ _ (ne_eqb r 0 (λ e. omega arith)) ∙ cond-false (ltb (2 * r) m) _ _ (le-ltb _ _ (omega arith)) ∙
    cond-false (ltb m (2 * r)) _ _ (le-ltb _ _ (omega arith))

pub placed_above : (r m : ℕ) → m < 2 * r → placed r m ≡ Above
placed_above r m l =
    cond-false (eqb r 0) _ _ (ne_eqb r 0 (λ e. omega arith)) ∙ cond-false (ltb (2 * r) m) _ _ (le-ltb _ _ (omega arith)) ∙
    cond-true (ltb m (2 * r)) _ _ (lt-ltb _ _ l)

-- what a position tells of the rest
abbrev Tells : Position → ℕ → ℕ → Type 0
Tells Whole r m = r ≡ 0
Tells Below r m = (0 < r) × (2 * r < m)
Tells Middle r m = (0 < r) × (2 * r ≡ m)
Tells Above r m = m < 2 * r

tells_of : (r m : ℕ) → Tells (placed r m) r m
tells_of r m =
    elim (cases_lt 0 r) [
      | inl h ↦ elim (cases_order (2 * r) m) [
        | inl e ↦ subst (λ p. Tells p r m) (sym (placed_middle r m h e)) (h, e)
        | inr o ↦ elim o [
          | inl l ↦ subst (λ p. Tells p r m) (sym (placed_below r m h l)) (h, l)
          | inr l ↦ subst (λ p. Tells p r m) (sym (placed_above r m l)) l
        ]
      ]
      | inr h ↦ let z : r ≡ 0 = omega arith in subst (λ p. Tells p r m) (sym (placed_whole r m z)) z
    ]

-- on the side of zero, on the other, and near, for magnitudes
record Inward (n m c : ℕ) : Type 0 where
  low : c * m ≤ n
  high : n < c * m + m

record Outward (n m c : ℕ) : Type 0 where
  low : n ≤ c * m
  high : c * m < n + m

-- x is the distance
record Near (n m c : ℕ) (tie : Type 0) : Type 0 where
  low : 2 * (c * m) ≤ 2 * n + m
  high : 2 * n ≤ 2 * (c * m) + m
  chosen : ((2 * (c * m) ≡ 2 * n + m) ⊎ (2 * n ≡ 2 * (c * m) + m)) → tie

under_plus : (n m c : ℕ) → Inward n m c → Under (pos n) m (pos c)
under_plus n m c h = record { not_above = omega (arith, ints); within = omega (arith, ints) }

over_plus : (n m c : ℕ) → Outward n m c → Over (pos n) m (pos c)
over_plus n m c h = record { not_below = omega (arith, ints); within = omega (arith, ints) }

times : (m c : ℕ) → neg_ℤ (pos c) *ℤ pos m ≡ neg_ℤ (pos (c * m))
times m zero = omega (arith, ints, product_is (pos 0) (pos m))
times m (suc c) = omega (arith, ints, product_is (negsuc c) (pos m))

over_minus : (n m c : ℕ) → Inward n m c → Over (neg_ℤ (pos n)) m (neg_ℤ (pos c))
over_minus n m c h = let t = times m c in record { not_below = omega (arith, ints); within = omega (arith, ints) }

under_minus : (n m c : ℕ) → Outward n m c → Under (neg_ℤ (pos n)) m (neg_ℤ (pos c))
under_minus n m c h = let t = times m c in record { not_above = omega (arith, ints); within = omega (arith, ints) }

closest_plus : (n m c : ℕ) (tie tie' : Type 0) → (tie → tie') → Near n m c tie → Closest (pos n) m (pos c) tie'
closest_plus n m c tie tie' f h =
    record {
      near = omega (arith, ints);
      chosen = λ e. f (h.chosen (side e));
    }
  where
    side : 2 * nat_abs (pos (c * m) -ℤ pos n) ≡ m → (2 * (c * m) ≡ 2 * n + m) ⊎ (2 * n ≡ 2 * (c * m) + m)
    side e = elim (cases_lt n (c * m)) [ inl l ↦ inl (omega (arith, ints)) | inr l ↦ inr (omega (arith, ints)) ]

closest_minus : (n m c : ℕ) (tie tie' : Type 0) → (tie → tie') → Near n m c tie → Closest (neg_ℤ (pos n)) m (neg_ℤ (pos c)) tie'
closest_minus n m c tie tie' f h =
    let t = times m c in
    record {
      near = omega (arith, ints);
      chosen = λ e. f (h.chosen (side e));
    }
  where
    side : 2 * nat_abs (neg_ℤ (pos c) *ℤ pos m -ℤ neg_ℤ (pos n)) ≡ m → (2 * (c * m) ≡ 2 * n + m) ⊎ (2 * n ≡ 2 * (c * m) + m)
    side e = let t = times m c in elim (cases_lt n (c * m)) [ inl l ↦ inl (omega (arith, ints)) | inr l ↦ inr (omega (arith, ints)) ]

-- n is c * m + r
record Split (n m c r : ℕ) : Type 0 where
  is : n ≡ c * m + r
  small : r < m

stays_in : {n m c r : ℕ} → Split n m c r → Inward n m c
stays_in {n} {m} {c} s = record { low = omega arith; high = omega arith }

whole_out : {n m c r : ℕ} → Split n m c r → r ≡ 0 → Outward n m c
whole_out {n} {m} {c} s h = record { low = omega arith; high = omega arith }

goes_out : {n m c r : ℕ} → Split n m c r → 0 < r → Outward n m (c + 1)
goes_out {n} {m} {c} s h = record { low = omega arith; high = omega arith }

stays_near : {n m c r : ℕ} (tie : Type 0) → Split n m c r → 2 * r ≤ m → (2 * r ≡ m → tie) → Near n m c tie
stays_near {n} {m} {c} tie s h t = record { low = omega arith; high = omega arith; chosen = λ e. elim e [ inl x ↦ absurd (omega arith) | inr x ↦ t (omega arith) ] }

goes_near : {n m c r : ℕ} (tie : Type 0) → Split n m c r → m ≤ 2 * r → (m ≡ 2 * r → tie) → Near n m (c + 1) tie
goes_near {n} {m} {c} tie s h t = record { low = omega arith; high = omega arith; chosen = λ e. elim e [ inl x ↦ t (omega arith) | inr x ↦ absurd (omega arith) ] }

-- each mode for magnitudes
abbrev Sized : Mode → Sign → ℕ → ℕ → ℕ → Type 0
Sized NearestEven s n m c = Near n m c (c % 2 ≡ 0)
Sized NearestZero s n m c = Near n m c (c * m ≤ n)
Sized NearestAway s n m c = Near n m c (n ≤ c * m)
Sized Ceiling Plus n m c = Outward n m c
Sized Ceiling Minus n m c = Inward n m c
Sized Floor Plus n m c = Inward n m c
Sized Floor Minus n m c = Outward n m c
Sized TowardZero s n m c = Inward n m c
Sized AwayFromZero s n m c = Outward n m c

out : {n m c r : ℕ} (p : Position) → Split n m c r → Tells p r m → Outward n m (raised (goes_up AwayFromZero Plus (is_odd c) p) c)
out Whole s t = whole_out s t
out Below s t = goes_out s t.0
out Middle s t = goes_out s t.0
out Above s t = goes_out s (omega arith)

even_tie : {n m c r : ℕ} → Split n m c r → 2 * r ≡ m → Near n m (cond (is_odd c) (c + 1) c) (cond (is_odd c) (c + 1) c % 2 ≡ 0)
even_tie {n} {m} {c} {r} s h =
    cond_both (is_odd c) (c + 1) c (λ x. Near n m x (x % 2 ≡ 0))
    (λ e. goes_near _ s (omega arith) (λ _. omega (arith, eqb-true (c % 2) 1 e)))
    (λ e. stays_near _ s (omega arith) (λ _. even (c) (eqb-false (c % 2) 1 e)))
  where
    even : (c : ℕ) → (c % 2 ≡ 1 → ⊥) → c % 2 ≡ 0
    even c f = elim (cases_eq (c % 2) 1) [ inl e ↦ absurd (f e) | inr e ↦ omega arith ]

of : {n m c r : ℕ} (mode : Mode) (sign : Sign) (p : Position) → Split n m c r → Tells p r m → Sized mode sign n m (raised (goes_up mode sign (is_odd c) p) c)
of NearestEven sign Whole s t = stays_near _ s (omega arith) (λ e. absurd (omega arith))
of NearestEven sign Below s t = stays_near _ s (omega arith) (λ e. absurd (omega arith))
of NearestEven sign Middle s t = even_tie s t.1
of NearestEven sign Above s t = goes_near _ s (omega arith) (λ e. absurd (omega arith))
of NearestZero sign Whole s t = stays_near _ s (omega arith) (λ e. absurd (omega arith))
of NearestZero sign Below s t = stays_near _ s (omega arith) (λ e. absurd (omega arith))
of NearestZero sign Middle s t = stays_near _ s (omega arith) (λ e. (stays_in s).low)
of NearestZero sign Above s t = goes_near _ s (omega arith) (λ e. absurd (omega arith))
of NearestAway sign Whole s t = stays_near _ s (omega arith) (λ e. absurd (omega arith))
of NearestAway sign Below s t = stays_near _ s (omega arith) (λ e. absurd (omega arith))
of NearestAway sign Middle s t = goes_near _ s (omega arith) (λ e. (goes_out s t.0).low)
of NearestAway sign Above s t = goes_near _ s (omega arith) (λ e. absurd (omega arith))
of Ceiling Plus p s t = out p s t
of Ceiling Minus p s t = stays_in s
of Floor Plus p s t = stays_in s
of Floor Minus p s t = out p s t
of TowardZero sign p s t = stays_in s
of AwayFromZero sign p s t = out p s t

-- and with the sign
same_size : (c : ℕ) → nat_abs (neg_ℤ (pos c)) ≡ c
same_size c = omega (arith, ints)

minus : (mode : Mode) (n m c : ℕ) → Sized mode Minus n m c → Rounds mode (neg_ℤ (pos n)) m (neg_ℤ (pos c))
minus NearestEven n m c h = closest_minus n m c (c % 2 ≡ 0) _ (λ e. ap (λ x. x % 2) (same_size c) ∙ e) h
minus NearestZero n m c h = closest_minus n m c (c * m ≤ n) _ (λ l. let t = times m c in omega (arith, ints)) h
minus NearestAway n m c h = closest_minus n m c (n ≤ c * m) _ (λ l. let t = times m c in omega (arith, ints)) h
minus Ceiling n m c h = over_minus n m c h
minus Floor n m c h = under_minus n m c h
minus TowardZero zero m c h = let t = times m c in record { not_above = omega (arith, ints); within = omega (arith, ints) }
minus TowardZero (suc n) m c h = over_minus (suc n) m c h
minus AwayFromZero zero m c h =
    let t = times m c in
    let l : c * m < 1 * m = omega arith in
    let z : c ≡ 0 = omega (arith, lt_of_mul-lt-mul_right m l) in
    let e : c * m ≡ 0 = ap (λ x. x * m) z ∙ zero-mul m in
    record { not_below = omega (arith, ints); within = omega (arith, ints) }
minus AwayFromZero (suc n) m c h = under_minus (suc n) m c h

plus : (mode : Mode) (n m c : ℕ) → Sized mode Plus n m c → Rounds mode (pos n) m (pos c)
plus NearestEven n m c h = closest_plus n m c (c % 2 ≡ 0) _ (λ e. e) h
plus NearestZero n m c h = closest_plus n m c (c * m ≤ n) _ (λ l. l) h
plus NearestAway n m c h = closest_plus n m c (n ≤ c * m) _ (λ l. l) h
plus Ceiling n m c h = over_plus n m c h
plus Floor n m c h = under_plus n m c h
plus TowardZero n m c h = subst (λ b. MatchBool b (Over (pos n) m (pos c)) (Under (pos n) m (pos c))) (sym (le-ltb n 0 (omega arith))) (under_plus n m c h)
plus AwayFromZero n m c h = subst (λ b. MatchBool b (Under (pos n) m (pos c)) (Over (pos n) m (pos c))) (sym (le-ltb n 0 (omega arith))) (over_plus n m c h)

both : (mode : Mode) (s : Sign) (n m c : ℕ) → Sized mode s n m c → Rounds mode (signed s n) m (signed s c)
both mode Plus n m c h = plus mode n m c h
both mode Minus n m c h = minus mode n m c h

-- the function is the relation
pub meant : (mode : Mode) (s : Sign) (n m : ℕ) → 0 < m → Rounds mode (signed s n) m (signed s (rounded mode s n m))
meant mode s n m h =
    let cut : Split n m (n / m) (n % m) = record { is = omega (arith, div-add-mod n m); small = mod-lt n h } in
    both mode s n m (rounded mode s n m) (of mode s (position n m) cut (tells_of (n % m) m))
