-- The exponent at which a draft is cut is the least. Assumes nothing.
use Rattle.std.proofs.Common.{◌≡◌, ℕ, zero, suc, ◌+◌, ◌-◌, ◌*◌, ◌/◌, ◌%◌, ◌^◌, ◌<◌, ◌≤◌, min, Bool, cond, ltb, sym, refl, ap, ◌∙◌, subst, inl, inr, mul-le-mul_right, mod-eq_of_lt, lt_of_mul-lt-mul_right, mul-le-mul_left, pow-suc, le_of_mul-le-mul_right, arith, pow-add}
use native.Mathlib.Nat.{one-le-pow, pow-le-pow_right, div-eq_of_lt}
use Rattle.std.proofs.lemmas.Bool.{cases_lt, cond-true, lt-ltb, le-ltb}
use Rattle.quotient.specs.Quotients.{Range, exponent_of, under}
use Rattle.rounding.specs.Rounding.{position}
use Rattle.quotient.specs.Drafts.{Drafted, Cut, sticky}
use Rattle.quotient.proofs.Search.{least_is}
use Rattle.quotient.proofs.Cut.{Parts, floors, same_place}

pub tens_pos : (k : ℕ) → 0 < 10 ^ k
tens_pos k = one-le-pow k 10 (omega arith)

tens_even : (k : ℕ) → 1 ≤ k → (h : ℕ) × (10 ^ k ≡ 2 * h)
tens_even zero l = absurd (omega arith)
tens_even (suc k) l = (5 * 10 ^ k, omega (arith, pow-suc 10 k))

pub tens_least : (i j : ℕ) → i ≤ j → 10 ^ i ≤ 10 ^ j
tens_least i j l = let ten : 0 < 10 = omega arith in pow-le-pow_right ten l

powers : (d k place digits s : ℕ) → k + s ≡ place + digits → d * 10 ^ k * 10 ^ s ≡ d * 10 ^ place * 10 ^ digits
powers d k place digits s e =
    let a : 10 ^ k * 10 ^ s ≡ 10 ^ place * 10 ^ digits = sym (pow-add 10 k s) ∙ ap (λ x. 10 ^ x) e ∙ pow-add 10 place digits in
    omega (arith, ap (λ x. d * x) a)

pub parts : (shift q : ℕ) (left : Bool) (place n d k digits : ℕ) → (t : Drafted shift q left place n d) → k + shift ≡ place + digits → 1 ≤ digits → Parts n (d * 10 ^ k) q t.rest (d * 10 ^ place) (10 ^ shift) (10 ^ digits)
parts shift q left place n d k digits t sum one =
    record {
      is = t.is;
      small = t.small;
      same = powers d k place digits shift sum;
      scale = tens_pos shift;
      half = tens_even digits one;
      some = tens_pos digits;
    }

-- The same cut at any exponent k above the draft's own: floor and position of n / (d * 10^k). With k = bias - s that is a quotient in steps of 10^-s.
pub record CutAt (q : ℕ) (left : Bool) (n d k digits : ℕ) : Type 0 where
  pub floor : n / (d * 10 ^ k) ≡ q / 10 ^ digits
  pub place : position n (d * 10 ^ k) ≡ sticky (q % 10 ^ digits) (10 ^ digits) left

pub cut_at : (shift q : ℕ) (left : Bool) (place n d k digits : ℕ) → Drafted shift q left place n d → k + shift ≡ place + digits → 1 ≤ digits → CutAt q left n d k digits
cut_at shift q left place n d k digits t sum one =
    let p = parts shift q left place n d k digits t sum one in
    record { floor = floors p; place = same_place p ∙ ap (sticky (q % 10 ^ digits) (10 ^ digits)) (sym t.flag) }

-- n / m is below T, and a tenth of it where two digits go; and at least that where one goes
pub below : {n m q rest G S p : ℕ} (T : ℕ) → Parts n m q rest G S p → q < 10 * T → 10 ≤ p → n < m * T
below {n} {m} {q} {rest} {G} {S} {p} T c l t =
    let k : n * S < m * T * S = omega (arith, c.is, c.small, ap (λ x. x * T) c.same, mul-le-mul_right G l, mul-le-mul_right (G * T) t) in
    lt_of_mul-lt-mul_right S k

pub below_less : {n m q rest G S p : ℕ} (U : ℕ) → Parts n m q rest G S p → q < 100 * U → 100 ≤ p → n < m * U
below_less {n} {m} {q} {rest} {G} {S} {p} U c l t =
    let k : n * S < m * U * S = omega (arith, c.is, c.small, ap (λ x. x * U) c.same, mul-le-mul_right G l, mul-le-mul_right (G * U) t) in
    lt_of_mul-lt-mul_right S k

pub above : {n m q rest G S p : ℕ} (U : ℕ) → Parts n m q rest G S p → 10 * U ≤ q → p ≡ 10 → m * U ≤ n
above {n} {m} {q} {rest} {G} {S} {p} U c l t =
    let k : m * U * S ≤ n * S = omega (arith, c.is, c.small, ap (λ x. x * U) c.same, mul-le-mul_right G l, ap (λ x. G * U * x) t) in
    le_of_mul-le-mul_right k c.scale

-- one digit less
pub tenth : (p : ℕ) → 1 ≤ p → 10 ^ p ≡ 10 * 10 ^ (p - 1)
tenth p h = let e : (p - 1) + 1 ≡ p = omega arith in ap (λ x. 10 ^ x) (sym e) ∙ pow-add 10 (p - 1) 1 ∙ turn (10 ^ (p - 1))
  where
    turn : (x : ℕ) → x * 10 ≡ 10 * x
    turn x = omega arith

-- a draft of the format, not 0, with the place where it is cut
pub record At (f : Range) (shift q : ℕ) (left : Bool) (place n d k digits : ℕ) : Type 0 where
  pub proper : 1 ≤ f.digits
  pub drafted : Drafted shift q left place n d
  pub cut : Cut shift place k digits
  pub first : 10 ^ f.digits ≤ q
  pub most : q + cond left 1 0 + 10 ≤ 10 * 10 ^ f.digits

pub last : {f : Range} {shift q : ℕ} {left : Bool} {place n d k digits : ℕ} → At f shift q left place n d k digits → q < 10 * 10 ^ f.digits
last {f} {q = q} a = omega (arith, a.most)

pub parts_of : {f : Range} {shift q : ℕ} {left : Bool} {place n d k digits : ℕ} → (a : At f shift q left place n d k digits) → Parts n (d * 10 ^ k) q a.drafted.rest (d * 10 ^ place) (10 ^ shift) (10 ^ digits)
parts_of {f} {shift} {q} {left} {place} {n} {d} {k} {digits} a = parts shift q left place n d k digits a.drafted a.cut.sum a.cut.one

-- a lower exponent does not do
pub too_low : {f : Range} {shift q : ℕ} {left : Bool} {place n d k digits : ℕ} → At f shift q left place n d k digits → (j : ℕ) → j < k → d * 10 ^ (j + f.digits) ≤ n
too_low {f} {shift} {q} {left} {place} {n} {d} {k} {digits} a j h =
    let e : 10 ^ digits ≡ 10 = ap (λ x. 10 ^ x) (a.cut.low (omega arith)) in
    let U : ℕ = 10 ^ (f.digits - 1) in
    let g : 10 ^ f.digits ≡ 10 * U = tenth f.digits a.proper in
    let l : 10 * U ≤ q = omega (arith, a.first) in
    let m : d * 10 ^ k * U ≤ n = above U (parts_of a) l e in
    let b : 10 ^ (j + f.digits) ≤ 10 ^ (k + (f.digits - 1)) = tens_least (j + f.digits) (k + (f.digits - 1)) (omega (arith, a.proper)) in
    let i : 10 ^ (k + (f.digits - 1)) ≡ 10 ^ k * U = pow-add 10 k (f.digits - 1) in
    omega (arith, mul-le-mul_left d b, ap (λ x. d * x) i)

pub low_enough : {f : Range} {shift q : ℕ} {left : Bool} {place n d k digits : ℕ} → At f shift q left place n d k digits → n < d * 10 ^ (k + f.digits)
low_enough {f} {shift} {q} {left} {place} {n} {d} {k} {digits} a =
    let b : 10 ^ 1 ≤ 10 ^ digits = tens_least 1 digits a.cut.one in
    let l : n < d * 10 ^ k * 10 ^ f.digits = below (10 ^ f.digits) (parts_of a) (last a) b in
    let i : 10 ^ (k + f.digits) ≡ 10 ^ k * 10 ^ f.digits = pow-add 10 k f.digits in
    omega (arith, ap (λ x. d * x) i)

pub exponent_is : {f : Range} {shift q : ℕ} {left : Bool} {place n d k digits : ℕ} → At f shift q left place n d k digits → k ≤ f.span → exponent_of f n d ≡ k
unfolding exponent_of
exponent_is {f} {n = n} {d = d} {k = k} a h =
    least_is (suc f.span) (λ j. under n d (j + f.digits)) k (
    record {
      within = omega arith;
      found = λ _. lt-ltb _ _ (low_enough a);
      before = λ j b. le-ltb _ _ (too_low a j b);
    }
    )

pub exponent_past : {f : Range} {shift q : ℕ} {left : Bool} {place n d k digits : ℕ} → At f shift q left place n d k digits → f.span < k → exponent_of f n d ≡ suc f.span
unfolding exponent_of
exponent_past {f} {n = n} {d = d} {k = k} a h =
    least_is (suc f.span) (λ j. under n d (j + f.digits)) (suc f.span) (
    record {
      within = omega arith;
      found = λ b. absurd (omega arith);
      before = λ j b. le-ltb _ _ (too_low a j (omega arith));
    }
    )

-- where q is far below the half, it makes no difference how many digits go
same_sticky : (q p r : ℕ) (left : Bool) → 2 * q < p → 2 * q < r → sticky (q % p) p left ≡ sticky (q % r) r left
same_sticky q p r left a b =
    ap (λ x. sticky x p left) (mod-eq_of_lt (omega arith)) ∙ cond-true (ltb (2 * q) p) _ _ (lt-ltb _ _ a) ∙
    sym (ap (λ x. sticky x r left) (mod-eq_of_lt (omega arith)) ∙ cond-true (ltb (2 * q) r) _ _ (lt-ltb _ _ b))

pub record Same (q u p : ℕ) (left : Bool) : Type 0 where
  pub floor : q / u ≡ q / p
  pub place : sticky (q % u) u left ≡ sticky (q % p) p left

pub clamped : (q digits most : ℕ) (left : Bool) → 2 * q < 10 ^ most → Same q (10 ^ min digits most) (10 ^ digits) left
clamped q digits most left l =
    elim (cases_lt digits (suc most)) [
      | inl h ↦ let e : min digits most ≡ digits = omega arith in
          subst (λ x. Same q (10 ^ x) (10 ^ digits) left) (sym e) (record { floor = refl; place = refl })
      | inr h ↦ let e : min digits most ≡ most = omega arith in
          let b : 10 ^ most ≤ 10 ^ digits = tens_least most digits (omega arith) in
          let s : Same q (10 ^ most) (10 ^ digits) left = record {
            floor = div-eq_of_lt (omega arith) ∙ sym (div-eq_of_lt (omega arith));
            place = same_sticky q (10 ^ most) (10 ^ digits) left (omega arith) (omega arith);
          } in
          subst (λ x. Same q (10 ^ x) (10 ^ digits) left) (sym e) s
    ]
