-- A number digit by digit. Assumes nothing.
use Rattle.std.proofs.Common.{◌≡◌, ℕ, ◌+◌, ◌*◌, ◌^◌, ◌<◌, ◌≤◌, cond, ◌&&◌, Bool, true, false, ltb, List, [], ◌∷◌, length, fold, IfSome, Some, None, Option, refl, ap, ◌∙◌, arith, pow-suc, mul-le-mul_right}
use native.Mathlib.Nat.{mul_assoc, mul_comm, le-mul_of_pos_right, pow-le-pow_right, one-le-pow}
use Rattle.std.proofs.lemmas.Int.Digits.{digits_value-lt}
use Rattle.std.proofs.lemmas.Bool.{cond-true, ltb-true, lt-ltb, cond_both, and_parts}
use Rattle.std.specs.List.{list_all}
use Rattle.std.specs.Char.{digit_value, is_digit}
use Rattle.std.specs.Str.Parse.{digits_value_after, AllDigits}
use Rattle.text.specs.Numerals.{with_digit, digits_in}
use Rattle.text.proofs.Folds.{and_step, stays_none}

-- what the digits behind n make of it
abbrev with_digits : ℕ → ℕ → List ℕ → Option ℕ
with_digits base n bs = cond (list_all (λ b. is_digit b base) bs) (Some (digits_value_after base n bs)) None

-- a digit more in n takes the place of one that is still to come
room : (n d base p : ℕ) → d < base → (n + 1) * (p * base) ≤ 2 ^ 32 → (n * base + d + 1) * p ≤ 2 ^ 32
room n d base p h k =
    let e : (n + 1) * base ≡ n * base + base = grind arith in
    let m : (n * base + d + 1) * p ≤ ((n + 1) * base) * p = mul-le-mul_right p (omega arith) in
    let a : ((n + 1) * base) * p ≡ (n + 1) * (p * base) = mul_assoc (n + 1) base p ∙ ap (λ k. (n + 1) * k) (mul_comm base p) in
    omega arith

one : (p m : ℕ) → 0 < p → (m + 1) * p ≤ 2 ^ 32 → m < 2 ^ 32
one p m q h = let k : m + 1 ≤ (m + 1) * p = le-mul_of_pos_right (m + 1) q in omega arith

read_on : (base n : ℕ) (bs : List ℕ) → 0 < base → (n + 1) * base ^ length bs ≤ 2 ^ 32 → fold (and_step (with_digit base)) (Some n) bs ≡ with_digits base n bs
read_on base n [] p h = refl
read_on base n (b ∷ bs) p h = by_digit (ltb (digit_value b) base) refl (λ k. read_on base (n * base + digit_value b) bs p k)
  where
    by_digit : (t : Bool) → ltb (digit_value b) base ≡ t
        → ((n * base + digit_value b + 1) * base ^ length bs ≤ 2 ^ 32 → fold (and_step (with_digit base)) (Some (n * base + digit_value b)) bs ≡ with_digits base (n * base + digit_value b) bs)
        → fold (and_step (with_digit base)) (cond (t && ltb (n * base + digit_value b) (2 ^ 32)) (Some (n * base + digit_value b)) None) bs
        ≡ cond (t && list_all (λ b. is_digit b base) bs) (Some (digits_value_after base (n * base + digit_value b) bs)) None
    by_digit false e rest = stays_none (with_digit base) bs
    by_digit true e rest =
        let q : 1 ≤ base ^ length bs = one-le-pow (length bs) base p in
        let d : digit_value b < base = ltb-true (digit_value b) base e in
        let k : (n * base + digit_value b + 1) * base ^ length bs ≤ 2 ^ 32 = room n (digit_value b) base (base ^ length bs) d (rw (pow-suc base (length bs)) at h) in
        let f : n * base + digit_value b < 2 ^ 32 = one (base ^ length bs) (n * base + digit_value b) q k in
        ap (λ o. fold (and_step (with_digit base)) o bs) (cond-true (ltb (n * base + digit_value b) (2 ^ 32)) _ _ (lt-ltb _ _ f))
        ∙ rest k

pub all_read : (base : ℕ) (bs : List ℕ) → 0 < base → base ^ length bs ≤ 2 ^ 32 → fold (and_step (with_digit base)) (Some 0) bs ≡ digits_in base bs
all_read base bs p h = read_on base 0 bs p (omega arith)

-- digits are a number below the base's power of their count
digits : (base : ℕ) (bs : List ℕ) → list_all (λ b. is_digit b base) bs ≡ true → AllDigits base bs
digits base [] e = tt
digits base (b ∷ bs) e = let p = and_parts (ltb (digit_value b) base) _ e in (ltb-true _ _ p.0, digits base bs p.1)

pub digits_below : (base : ℕ) (bs : List ℕ) (k : ℕ) → 0 < base → length bs ≤ k → IfSome (digits_in base bs) (λ n. n < base ^ k)
digits_below base bs k p h =
    cond_both (list_all (λ b. is_digit b base) bs) _ _ (λ o. IfSome o (λ n. n < base ^ k)) (λ e. omega (arith, digits_value-lt base bs (digits base bs e), pow-le-pow_right p h)) (λ e. tt)
