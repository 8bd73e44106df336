-- The ways of a split, each against the definition. Assumes nothing.
use Rattle.std.proofs.Common.{◌≡◌, ℕ, ◌+◌, ◌-◌, ◌*◌, ◌/◌, ◌%◌, ◌^◌, ◌<◌, ◌≤◌, min, Bool, leb, Some, None, sym, ap, ◌∙◌, subst, mul-le-mul_right, mul-le-mul_left, mul-pos, le_of_mul-le-mul_right, arith, pow-add}
use Rattle.std.proofs.lemmas.Bool.{cond-true, cond-false, le-leb, lt-leb}
use Rattle.rounding.specs.declared.mode.Position.{Position}
use Rattle.rounding.specs.declared.mode.Position.TheVariants.{Whole}
use Rattle.rounding.specs.Rounding.{position}
use Rattle.rounding.proofs.Meant.{placed_whole}
use Rattle.quotient.specs.Quotients.{decimal32}
use Rattle.quotient.specs.Drafts.{Drafted, sticky}
use Rattle.quotient.specs.Splits.{Between, split_by, unit_in, split_at}
use Rattle.quotient.proofs.Exponent.{tens_pos, tens_least, parts, cut_at, below, clamped}

unit_pos : (s d : ℕ) → 0 < d → 0 < unit_in decimal32 s d
unit_pos s d h = mul-pos h (tens_pos (101 - s))

same_split : {a b : ℕ} {p q : Position} → a ≡ b → p ≡ q → ◌≡◌ {A = Between} (record { floor = a; position = p }) (record { floor = b; position = q })
same_split e f = λ i. record { floor = e i; position = f i }

-- less than 10^7 units
small : (s n d : ℕ) → n < 10000000 * unit_in decimal32 s d → split_at decimal32 s n d ≡ Some (split_by n (unit_in decimal32 s d))
small s n d h = cond-false (leb (10000000 * unit_in decimal32 s d) n) _ _ (lt-leb (10000000 * unit_in decimal32 s d) n h)

-- a zero
pub split_zero : {q : ℕ} {left : Bool} {place n d : ℕ} (s : ℕ) → q ≡ 0 → Drafted 104 q left place n d → Some (record { floor = 0; position = Whole }) ≡ split_at decimal32 s n d
split_zero {n = n} {d = d} s z t =
    let m : ℕ = unit_in decimal32 s d in
    let p : 0 < m = unit_pos s d t.divisor in
    let e : n ≡ 0 = t.none z in
    let f : 0 / m ≡ 0 = omega arith in
    let g : 0 % m ≡ 0 = omega arith in
    sym (
    small s n d (omega arith)
    ∙ ap Some (same_split (ap (λ x. x / m) e ∙ f) (ap (λ x. position x m) e ∙ placed_whole (0 % m) m g))
    )

-- no digit behind the unit: 10^7 of them or more
flat : (q d P K S n rest : ℕ) → n * S ≡ q * (d * P) + rest → 10000000 ≤ q → K * S ≤ P → 0 < S → 10000000 * (d * K) ≤ n
flat q d P K S n rest e h l p =
    let a : 10000000 * (d * P) ≤ q * (d * P) = mul-le-mul_right (d * P) h in
    let b : d * (K * S) ≤ d * P = mul-le-mul_left d l in
    let c : 10000000 * (d * K) * S ≤ n * S = omega (arith, a, b) in
    le_of_mul-le-mul_right c p

pub split_large : {q : ℕ} {left : Bool} {place n d : ℕ} (s : ℕ) → 10000000 ≤ q → 101 - s + 104 ≤ place → Drafted 104 q left place n d → None ≡ split_at decimal32 s n d
split_large {q} {place = place} {n = n} {d = d} s h l t =
    let e : 10 ^ (101 - s) * 10 ^ 104 ≡ 10 ^ (101 - s + 104) = sym (pow-add 10 (101 - s) 104) in
    let k : 10 ^ (101 - s) * 10 ^ 104 ≤ 10 ^ place = subst (λ x. x ≤ 10 ^ place) (sym e) (tens_least (101 - s + 104) place l) in
    let m : 10000000 * unit_in decimal32 s d ≤ n = flat q d (10 ^ place) (10 ^ (101 - s)) (10 ^ 104) n t.rest t.is h k (tens_pos 104) in
    sym (cond-true (leb (10000000 * unit_in decimal32 s d) n) _ _ (le-leb (10000000 * unit_in decimal32 s d) n m))

-- one digit or more behind it
pub split_cut : {q : ℕ} {left : Bool} {place n d : ℕ} (s gone f : ℕ) (p : Position) → q < 100000000 → 101 - s + 104 ≡ place + gone → 1 ≤ gone
    → f ≡ q / 10 ^ min gone 9 → p ≡ sticky (q % 10 ^ min gone 9) (10 ^ min gone 9) left
    → Drafted 104 q left place n d → Some (record { floor = f; position = p }) ≡ split_at decimal32 s n d
split_cut {q} {left} {place} {n} {d} s gone f p h sum one whole at t =
    let k : ℕ = 101 - s in
    let c = cut_at 104 q left place n d k gone t sum one in
    let same = clamped q gone 9 left (omega arith) in
    let ten : 10 ^ 1 ≤ 10 ^ gone = tens_least 1 gone one in
    let less : n < d * 10 ^ k * 10000000 = below 10000000 (parts 104 q left place n d k gone t sum one) h ten in
    sym (small s n d (omega arith) ∙ ap Some (same_split (c.floor ∙ sym same.floor ∙ sym whole) (c.place ∙ sym same.place ∙ sym at)))
