-- One whole number alone is what a mode means. Assumes nothing.
use Rattle.std.proofs.Common.{◌≡◌, ℕ, suc, ◌+◌, ◌*◌, ◌%◌, ◌<◌, ◌≤◌, Bool, true, false, ◌⊎◌, ℤ, pos, negsuc, ◌+ℤ◌, ◌-ℤ◌, ◌*ℤ◌, nat_abs, ◌≤ℤ◌, ◌<ℤ◌, MatchBool, sym, ap, ◌∙◌, inl, inr, mul-le-mul_right, arith}
use lib.Signed.{lt_z}
use borrow.Author.Differences.{up, down, product_is, same_in}
use Rattle.std.proofs.lemmas.Int.{ints}
use Rattle.std.proofs.lemmas.Bool.{cases_lt}
use Rattle.rounding.specs.declared.mode.Mode.{Mode}
use Rattle.rounding.specs.declared.mode.Mode.TheVariants.{NearestEven, NearestZero, NearestAway, Ceiling, Floor, TowardZero, AwayFromZero}
use Rattle.rounding.specs.Modes.{Under, Over, Closest, Rounds}

-- z and w compared, as naturals
abbrev left : ℤ → ℤ → ℕ
left z w = up z + down w

less : (a k d : ℕ) → a * d < k * d → a < k
less a k d h = elim (cases_lt a k) [ inl l ↦ l | inr l ↦ absurd (omega (arith, mul-le-mul_right d l)) ]

-- less than one step apart in parts
not_more : (z w : ℤ) (d : ℕ) → (z *ℤ pos d) <ℤ (w *ℤ pos d +ℤ pos d) → left z w ≤ left w z
not_more z w d h =
    let l : left z w * d < suc (left w z) * d = omega (arith, ints, product_is z (pos d), product_is w (pos d)) in
    omega (arith, less (left z w) (suc (left w z)) d l)

same_by : (z w : ℤ) → left z w ≤ left w z → left w z ≤ left z w → z ≡ w
same_by z w p q = same_in z w (omega arith)

under_alone : (n : ℤ) (m : ℕ) (z w : ℤ) → Under n m z → Under n m w → z ≡ w
under_alone n m z w a b =
    let p = a.not_above in let p' = a.within in let r = b.not_above in let r' = b.within in
    same_by z w (not_more z w m (omega (arith, ints))) (not_more w z m (omega (arith, ints)))

over_alone : (n : ℤ) (m : ℕ) (z w : ℤ) → Over n m z → Over n m w → z ≡ w
over_alone n m z w a b =
    let p = a.not_below in let p' = a.within in let r = b.not_below in let r' = b.within in
    same_by z w (not_more z w m (omega (arith, ints))) (not_more w z m (omega (arith, ints)))

-- z below w, both within half a step of n: neighbours, with n in the middle
record Middle (n z w : ℤ) (d : ℕ) : Type 0 where
  next : w ≡ z +ℤ pos 1
  step : w *ℤ pos d ≡ z *ℤ pos d +ℤ pos d
  off : 2 * nat_abs (z *ℤ pos d -ℤ n) ≡ d
  off' : 2 * nat_abs (w *ℤ pos d -ℤ n) ≡ d

middle : (n z w : ℤ) (d : ℕ) → 0 < d → left z w < left w z → 2 * nat_abs (z *ℤ pos d -ℤ n) ≤ d → 2 * nat_abs (w *ℤ pos d -ℤ n) ≤ d → Middle n z w d
middle n z w d h l a b =
    let m : suc (left z w) * d ≤ left w z * d = mul-le-mul_right d l in
    let k : left w z * d < suc (suc (left z w)) * d = omega (arith, ints, product_is z (pos d), product_is w (pos d)) in
    let e : left w z ≡ suc (left z w) = omega (arith, less (left w z) (suc (suc (left z w))) d k) in
    let t : left w z * d ≡ suc (left z w) * d = ap (λ x. x * d) e in
    let s : w *ℤ pos d ≡ z *ℤ pos d +ℤ pos d = omega (arith, ints, t, product_is z (pos d), product_is w (pos d)) in
    record { next = omega (arith, ints); step = s; off = omega (arith, ints); off' = omega (arith, ints) }

-- so the tie decides
closest_alone : (n : ℤ) (m : ℕ) (P : ℤ → Type 0) (z w : ℤ) → 0 < m → ((x y : ℤ) → Middle n x y m → P x → P y → ⊥) → Closest n m z (P z) → Closest n m w (P w) → z ≡ w
closest_alone n m P z w h no' a b =
    elim (cases_lt (left z w) (left w z)) [
      | inl l ↦ let t = middle n z w m h l a.near b.near in absurd (no' z w t (a.chosen t.off) (b.chosen t.off'))
      | inr l ↦ elim (cases_lt (left w z) (left z w)) [
        | inl k ↦ let t = middle n w z m h k b.near a.near in absurd (no' w z t (b.chosen t.off) (a.chosen t.off'))
        | inr k ↦ same_by z w k l
      ]
    ]

not_both_even : (z : ℤ) → nat_abs z % 2 ≡ 0 → nat_abs (z +ℤ pos 1) % 2 ≡ 0 → ⊥
not_both_even (pos n) a b = omega arith
not_both_even (negsuc n) a b =
    let s : nat_abs (negsuc n +ℤ pos 1) ≡ n = omega (arith, ints) in
    let b' : n % 2 ≡ 0 = ap (λ k. k % 2) (sym s) ∙ b in
    omega arith

even_no : (n x y : ℤ) (d : ℕ) → Middle n x y d → nat_abs x % 2 ≡ 0 → nat_abs y % 2 ≡ 0 → ⊥
even_no n x y d m a b = not_both_even x a (ap (λ k. nat_abs k % 2) (sym m.next) ∙ b)

-- the middle lies between the two
between : (n x y : ℤ) (d : ℕ) → 0 < d → Middle n x y d → ((x *ℤ pos d) <ℤ n) × (n <ℤ (y *ℤ pos d))
between n x y d h m = let s = m.step in let o = m.off in let o' = m.off' in (omega (arith, ints), omega (arith, ints))

zero_no : (n a b : ℤ) → a <ℤ n → n <ℤ b → nat_abs a ≤ nat_abs n → nat_abs b ≤ nat_abs n → ⊥
zero_no n a b p q u v = omega (arith, ints)

-- neighbours do not lie on the two sides of zero
sides : (x y : ℤ) (d : ℕ) → y ≡ x +ℤ pos 1 → (pos 0 ≤ℤ (x *ℤ pos d)) ⊎ ((y *ℤ pos d) ≤ℤ pos 0)
sides (pos n) y d e = inl (omega (arith, ints))
sides (negsuc n) y d e =
    let l : up y ≤ down y = omega (arith, ints) in
    inr (omega (arith, ints, product_is y (pos d), mul-le-mul_right d l))

away_no : (n a b : ℤ) → a <ℤ n → n <ℤ b → (pos 0 ≤ℤ a) ⊎ (b ≤ℤ pos 0) → nat_abs n ≤ nat_abs a → nat_abs n ≤ nat_abs b → ⊥
away_no n a b p q (inl s) u v = omega (arith, ints)
away_no n a b p q (inr s) u v = omega (arith, ints)

when_alone : (b : Bool) (P Q : ℤ → Type 0) (z w : ℤ) → (P z → P w → z ≡ w) → (Q z → Q w → z ≡ w) → MatchBool b (P z) (Q z) → MatchBool b (P w) (Q w) → z ≡ w
when_alone true P Q z w f g x y = f x y
when_alone false P Q z w f g x y = g x y

pub alone : (mode : Mode) (n : ℤ) (m : ℕ) (z w : ℤ) → 0 < m → Rounds mode n m z → Rounds mode n m w → z ≡ w
alone NearestEven n m z w h p q = closest_alone n m (λ x. nat_abs x % 2 ≡ 0) z w h (λ x y t a b. even_no n x y m t a b) p q
alone NearestZero n m z w h p q = closest_alone n m (λ x. nat_abs (x *ℤ pos m) ≤ nat_abs n) z w h (λ x y t a b. let s = between n x y m h t in zero_no n (x *ℤ pos m) (y *ℤ pos m) s.0 s.1 a b) p q
alone NearestAway n m z w h p q = closest_alone n m (λ x. nat_abs n ≤ nat_abs (x *ℤ pos m)) z w h (λ x y t a b. let s = between n x y m h t in away_no n (x *ℤ pos m) (y *ℤ pos m) s.0 s.1 (sides x y m t.next) a b) p q
alone Ceiling n m z w h p q = over_alone n m z w p q
alone Floor n m z w h p q = under_alone n m z w p q
alone TowardZero n m z w h p q = when_alone (lt_z n (pos 0)) (Over n m) (Under n m) z w (over_alone n m z w) (under_alone n m z w) p q
alone AwayFromZero n m z w h p q = when_alone (lt_z n (pos 0)) (Under n m) (Over n m) z w (under_alone n m z w) (over_alone n m z w) p q
