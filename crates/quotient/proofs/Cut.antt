-- A fraction known by its floor and whether anything is left, cut at a power of ten. Assumes nothing.
use Rattle.std.proofs.Common.{◌≡◌, ℕ, zero, suc, ◌+◌, ◌*◌, ◌/◌, ◌%◌, ◌<◌, ◌≤◌, ltb, sym, ap, ◌∙◌, inl, inr, mul-le-mul_right, lt_of_mul-lt-mul_right, le_of_mul-le-mul_right, arith}
use native.Mathlib.Nat.{mul-div-mul_right, div-div-eq-div-mul, div-add-mod}
use lib.Arith.{digits_div}
use Rattle.std.proofs.lemmas.Bool.{cases_lt}
use Rattle.std.proofs.lemmas.Bool.Decides.{nat_tests}
use Rattle.rounding.specs.declared.mode.Position.TheVariants.{Whole, Below, Middle, Above}
use Rattle.rounding.specs.Rounding.{placed, position}
use Rattle.rounding.proofs.Meant.{placed_whole, placed_below, placed_middle, placed_above}
use Rattle.quotient.specs.Drafts.{sticky}

-- n / m is (q + rest / G) / p, all multiplied by S
pub record Parts (n m q rest G S p : ℕ) : Type 0 where
  pub is : n * S ≡ q * G + rest
  pub small : rest < G
  pub same : m * S ≡ G * p
  pub scale : 0 < S
  pub half : (h : ℕ) × (p ≡ 2 * h)
  pub some : 0 < p

-- the floor of the floor
pub floors : {n m q rest G S p : ℕ} → Parts n m q rest G S p → n / m ≡ q / p
floors {n} {m} {q} {rest} {G} {S} {p} c =
    sym (mul-div-mul_right n m c.scale) ∙ ap (λ x. x / (m * S)) c.is ∙ ap (λ x. (q * G + rest) / x) c.same ∙
    sym (div-div-eq-div-mul (q * G + rest) G p) ∙ ap (λ x. x / p) (digits_div q c.small)

-- and the rest
pub rests : {n m q rest G S p : ℕ} → Parts n m q rest G S p → (n % m) * S ≡ (q % p) * G + rest
rests {n} {m} {q} {rest} {G} {S} {p} c =
    let a : (m * (n / m) + n % m) * S ≡ n * S = ap (λ x. x * S) (div-add-mod n m) in
    let b : (p * (q / p) + q % p) * G ≡ q * G = ap (λ x. x * G) (div-add-mod q p) in
    let e : m * S * (n / m) ≡ G * p * (n / m) = ap (λ x. x * (n / m)) c.same in
    let f : G * p * (n / m) ≡ G * p * (q / p) = ap (λ x. G * p * x) (floors c) in
    omega (arith, a, b, e, f, c.is)

sticky_whole : (x p rest : ℕ) → 2 * x < p → x ≡ 0 → rest ≡ 0 → Whole ≡ sticky x p (ltb 0 rest)
sticky_whole x p rest l a b = grind (arith, nat_tests)

sticky_below : (x p rest : ℕ) → 2 * x < p → 0 < x + rest → Below ≡ sticky x p (ltb 0 rest)
sticky_below x p rest l a = grind (arith, nat_tests)

sticky_middle : (x p rest : ℕ) → 2 * x ≡ p → rest ≡ 0 → Middle ≡ sticky x p (ltb 0 rest)
sticky_middle x p rest l a = grind (arith, nat_tests)

sticky_above : (x p rest : ℕ) → p < 2 * x + rest → p ≤ 2 * x → Above ≡ sticky x p (ltb 0 rest)
sticky_above x p rest l a = grind (arith, nat_tests)

more : (x rest G : ℕ) → 0 < G → 0 < x + rest → 0 < x * G + rest
more zero rest G g o = omega arith
more (suc x) rest G g o = omega arith

further : (x p rest G : ℕ) → p ≤ 2 * x → p < 2 * x + rest → 0 < G → p * G < 2 * x * G + 2 * rest
further x p rest G l o g =
    elim (cases_lt p (2 * x)) [ inl k ↦ omega (arith, mul-le-mul_right G k) | inr k ↦ omega (arith, mul-le-mul_right G l) ]

-- the half compared, with what is left: r / m against (x + rest / G) / p
compared : (r m x p rest G S h : ℕ) → p ≡ 2 * h → 0 < p → 0 < S → rest < G → m * S ≡ G * p → r * S ≡ x * G + rest → placed r m ≡ sticky x p (ltb 0 rest)
compared r m x p rest G S h even some scale small same e =
    elim (cases_lt (2 * x) p) [
      | inl l ↦
          let l2 : 2 * x + 2 ≤ p = omega arith in
          let k : 2 * r * S < m * S = omega (arith, mul-le-mul_right G l2) in
          let below : 2 * r < m = lt_of_mul-lt-mul_right S k in
          elim (cases_lt 0 (x + rest)) [
            | inl o ↦
                let t : 0 * S < r * S = omega (arith, more x rest G (omega arith) o) in
                placed_below r m (lt_of_mul-lt-mul_right S t) below ∙ sticky_below x p rest l o
            | inr o ↦
                let z : x ≡ 0 = omega arith in
                let t : r * S < 1 * S = omega (arith, ap (λ y. y * G) z) in
                placed_whole r m (omega (arith, lt_of_mul-lt-mul_right S t)) ∙ sticky_whole x p rest l z (omega arith)
          ]
      | inr l ↦
          elim (cases_lt p (2 * x + rest)) [
            | inl o ↦
                let t : m * S < 2 * r * S = omega (arith, mul-le-mul_right G l, further x p rest G l o (omega arith)) in
                placed_above r m (lt_of_mul-lt-mul_right S t) ∙ sticky_above x p rest o l
            | inr o ↦
                let d : 2 * x ≡ p = omega arith in
                let t : 2 * r * S ≡ m * S = omega (arith, ap (λ y. y * G) d) in
                let u : 2 * r * S ≤ m * S = omega arith in
                let v : m * S ≤ 2 * r * S = omega arith in
                let w : 2 * r ≤ m = le_of_mul-le-mul_right u scale in
                let y : m ≤ 2 * r = le_of_mul-le-mul_right v scale in
                let g : 0 * S < m * S = omega (arith, mul-le-mul_right G some) in
                let z : 0 < m = lt_of_mul-lt-mul_right S g in
                placed_middle r m (omega arith) (omega arith) ∙ sticky_middle x p rest d (omega arith)
          ]
    ]

pub same_place : {n m q rest G S p : ℕ} → Parts n m q rest G S p → position n m ≡ sticky (q % p) p (ltb 0 rest)
same_place {n} {m} {q} {rest} {G} {S} {p} c = compared (n % m) m (q % p) p rest G S c.half.0 c.half.1 c.some c.scale c.small c.same (rests c)
