-- A table by the first digits of a divisor approximates, at every divisor of seven digits.
-- Assumes nothing.
use Rattle.std.specs.Prelude.{◌≡◌, ℕ, ◌+◌, ◌-◌, ◌*◌, ◌/◌, ◌%◌, ◌^◌, ◌<◌, ◌≤◌, refl}
use Rattle.std.proofs.Common.{ap, subst, ⊎_elim, arith, mul-le-mul, mul-le-mul_left, mul-le-mul_right, div-mul-le_self}
use Rattle.std.proofs.Math.Nat.{le_of_mul-le-mul_left, lt_of_mul-lt-mul_left, lt-div-mul-add, div-le_self}
use Rattle.std.proofs.lemmas.Bool.{cases_lt}
use Rattle.reciprocal.specs.Sources.{Approximates, entry, factor, table_reciprocal}

-- four times a product is at most the square of the sum
ordered : (x d : ℕ) → 4 * (x * (x + d)) ≤ (x + (x + d)) * (x + (x + d))
ordered x d = omega arith

four : (x y : ℕ) → x ≤ y → 4 * (x * y) ≤ (x + y) * (x + y)
four x y h = let e : x + (y - x) ≡ y = omega arith in rw e at (ordered x (y - x))

means : (x y : ℕ) → 4 * (x * y) ≤ (x + y) * (x + y)
means x y = ⊎_elim (λ h. omega (arith, four y x (omega arith))) (λ h. omega (arith, four x y h)) (cases_lt y x)

-- A divisor D in parts: its first digits M, as many next ones u, and the last ones l. B is ten to the count of M's digits, Q of l's.
-- The entry c is B^4 over the square of a, X its factor, and r the answer.
record Parts (B Q M u w l a c r X D : ℕ) : Type 0 where
  scale : B * B * Q ≡ 10000000
  wide : 100 ≤ B
  narrow : B ≤ 1000
  least : B ≤ 10 * M
  most : M < B
  rest : u + w + 1 ≡ B
  last : l < Q
  a_is : a ≡ 10 * M + 5
  c_low : c * (a * a) ≤ B * B * (B * B)
  c_high : B * B * (B * B) < c * (a * a) + a * a
  x_is : X ≡ B * M + w
  r_low : r * (B * B) ≤ c * X
  r_high : c * X < r * (B * B) + B * B
  d_is : D ≡ B * Q * M + Q * u + l

-- the factor times the divisor, above
factor_high : {B Q M u w l a c r X D : ℕ} → Parts B Q M u w l a c r X D → X * D < 100000 * (a * a)
factor_high {B} {Q} {M} {a = a} {X = X} {D = D} p =
    let s : 5 * (Q * X + D) + 1 ≤ Q * B * a =
    omega (arith, ap (λ (n : ℕ). n * Q) p.rest, ap (λ (n : ℕ). Q * n) p.x_is, ap (λ (n : ℕ). Q * B * n) p.a_is)
    in
    let m : Q * (X * D) < Q * (100000 * (a * a)) = omega (arith, means (Q * X) D, mul-le-mul s s, ap (λ (n : ℕ). n * (Q * (a * a))) p.scale) in
    lt_of_mul-lt-mul_left Q m

-- and below
factor_low : {B Q M u w l a c r X D : ℕ} → Parts B Q M u w l a c r X D → 10000000 * (M * M + M) ≤ X * D + B * Q * M
factor_low {B} {Q} {M} {u} {w} {X = X} {D = D} p =
    let m : (B * M + w) * (B * Q * M + Q * u) ≤ X * D = mul-le-mul (omega arith) (omega arith) in
    omega (arith, m, ap (λ (n : ℕ). B * Q * M * n) p.rest, ap (λ (n : ℕ). n * (M * M + M)) p.scale)

entry_pos : {B Q M u w l a c r X D : ℕ} → Parts B Q M u w l a c r X D → 0 < c
entry_pos {B} {a = a} {c = c} p =
    let s : a ≤ 10 * B = omega arith in
    let t : a ≤ 10000 = omega arith in
    let w : 100 * 100 ≤ B * B = mul-le-mul p.wide p.wide in
    omega (arith, mul-le-mul s s, mul-le-mul_left c (mul-le-mul t t), mul-le-mul_left (B * B) w)

short : {B Q M u w l a c r X D : ℕ} → Parts B Q M u w l a c r X D → r * D < 100000 * (B * B)
short {B} {a = a} {c = c} {r} {X} {D} p =
    let m : (B * B) * (r * D) < (B * B) * (100000 * (B * B)) =
    omega (arith, mul-le-mul_right D p.r_low, mul-le-mul_left c (factor_high p), entry_pos p, p.c_low)
    in
    lt_of_mul-lt-mul_left (B * B) m

-- the one place where the first digit counts: the entry is small beside M
cubic : (B M a : ℕ) → B ≤ 10 * M → M ≤ 999 → a ≡ 10 * M + 5 → 1000 * (B * B * (4 * M + B)) ≤ 13996 * (M * (a * a))
cubic B M a b m e =
    let s : 4 * M + B ≤ 14 * M = omega arith in
    omega (arith, mul-le-mul (mul-le-mul b b) s, mul-le-mul_right (M * M) m, ap (λ (n : ℕ). M * (n * n)) e)

small : {B Q M u w l a c r X D : ℕ} → Parts B Q M u w l a c r X D → 1000 * (c * (4 * M + B)) ≤ 13996 * (B * B * M)
small {B} {M = M} {a = a} {c = c} p =
    let q = cubic B M a p.least (omega arith) p.a_is in
    let m : (a * a) * (1000 * (c * (4 * M + B))) ≤ (a * a) * (13996 * (B * B * M)) =
    omega (arith, mul-le-mul_right (4 * M + B) p.c_low, mul-le-mul_left (B * B) q)
    in
    let s : 1 ≤ a = omega arith in
    le_of_mul-le-mul_left m (mul-le-mul s s)

close : {B Q M u w l a c r X D : ℕ} → Parts B Q M u w l a c r X D → 2 * (100000 * (B * B)) < 11 * D + 2 * (r * D)
close {B} {Q} {M} {a = a} {c = c} {r} {X} {D} p =
    let aa : a * a ≡ (10 * M + 5) * (10 * M + 5) = ap (λ (n : ℕ). n * n) p.a_is in
    let begins : B * Q * M ≤ D = omega arith in
    let ten : 10 ≤ M = omega arith in
    let m : (B * B) * (2 * (100000 * (B * B))) < (B * B) * (11 * D + 2 * (r * D)) =
    omega (
      arith,
      mul-le-mul_right D p.r_high,
      mul-le-mul_left c (factor_low p),
      p.c_high,
      aa,
      ap (λ (n : ℕ). c * n) aa,
      mul-le-mul_left (B * Q) (small p),
      ap (λ (n : ℕ). n * c) p.scale,
      ap (λ (n : ℕ). n * (B * M)) p.scale,
      mul-le-mul_left (B * B) begins,
      mul-le-mul_left M p.most,
      mul-le-mul p.wide ten,
    )
    in
    lt_of_mul-lt-mul_left (B * B) m

-- what the powers are at a count k of digits, and how they part a divisor
pub record Parted (k D : ℕ) : Type 0 where
  pub scale : 10 ^ k * 10 ^ k * 10 ^ (7 - 2 * k) ≡ 10000000
  pub fourth : 10 ^ (4 * k) ≡ 10 ^ k * 10 ^ k * (10 ^ k * 10 ^ k)
  pub second : 10 ^ (2 * k) ≡ 10 ^ k * 10 ^ k
  pub whole : 10 ^ (2 * k - 3 + 8) ≡ 100000 * (10 ^ k * 10 ^ k)
  pub wide : 100 ≤ 10 ^ k
  pub narrow : 10 ^ k ≤ 1000
  pub least : 10 ^ k ≤ 10 * (D / 10 ^ (7 - k))
  pub most : D / 10 ^ (7 - k) < 10 ^ k
  pub next : D % 10 ^ (7 - k) / 10 ^ (7 - 2 * k) < 10 ^ k
  pub last : D % 10 ^ (7 - 2 * k) < 10 ^ (7 - 2 * k)
  pub d_is : D ≡ 10 ^ k * 10 ^ (7 - 2 * k) * (D / 10 ^ (7 - k)) + 10 ^ (7 - 2 * k) * (D % 10 ^ (7 - k) / 10 ^ (7 - 2 * k)) + D % 10 ^ (7 - 2 * k)

-- the two counts of digits
by_width : (Q : ℕ → Type 0) → Q 2 → Q 3 → (k : ℕ) → (2 ≤ k) × (k ≤ 3) → Q k
by_width Q two three k w = ⊎_elim (λ h. let e : 2 ≡ k = omega (arith, w) in subst Q e two) (λ h. let e : 3 ≡ k = omega (arith, w) in subst Q e three) (cases_lt k 3)

pub parted : (k D : ℕ) → (2 ≤ k) × (k ≤ 3) → 1000000 ≤ D → D < 10000000 → Parted k D
parted k D w lo hi = by_width (λ n. Parted n D) (omega arith) (omega arith) k w

-- the numbers of a look-up fit a word, U, V and B being its powers
pub record Fitting (k D U V B : ℕ) : Type 0 where
  pub first : (10 ^ (k - 1) ≤ D / U) × (D / U < 10 ^ k)
  pub next : D % U / V < B
  pub room : entry k (D / U) * (B * (D / U) + (B - 1) - D % U / V) ≤ 10 ^ 18

pub fitting : (k D : ℕ) → (2 ≤ k) × (k ≤ 3) → 1000000 ≤ D → D < 10000000 → Fitting k D (10 ^ (7 - k)) (10 ^ (7 - 2 * k)) (10 ^ k)
fitting k D w lo hi =
    let q = parted k D w lo hi in
    let M : ℕ = D / 10 ^ (7 - k) in
    let ten = by_width (λ n. 10 ^ n ≡ 10 * 10 ^ (n - 1)) (omega arith) (omega arith) k w in
    let most = by_width (λ n. 10 ^ (4 * n) * 10 ^ (2 * n) ≤ 10 ^ 18) (omega arith) (omega arith) k w in
    let c : entry k M ≤ 10 ^ (4 * k) = div-le_self (10 ^ (4 * k)) ((10 * M + 5) * (10 * M + 5)) in
    let x : factor k D ≤ 10 ^ (2 * k) = omega (arith, q.second, mul-le-mul_left (10 ^ k) q.most) in
    record { first = omega (arith, q.least, ten, q.most); next = q.next; room = omega (arith, most, mul-le-mul c x) }

pub approximates : (k D : ℕ) → Parted k D → Approximates (2 * k - 3) D (table_reciprocal k D)
approximates k D q =
    let B : ℕ = 10 ^ k in
    let M : ℕ = D / 10 ^ (7 - k) in
    let u : ℕ = D % 10 ^ (7 - k) / 10 ^ (7 - 2 * k) in
    let a : ℕ = 10 * M + 5 in
    let c : ℕ = entry k M in
    let X : ℕ = factor k D in
    let five : 5 ≤ a = omega arith in
    let pos : 0 < a * a = omega (arith, mul-le-mul five five) in
    let bb : 0 < 10 ^ (2 * k) = omega (arith, q.second, mul-le-mul q.wide q.wide) in
    let p : Parts B (10 ^ (7 - 2 * k)) M u (B - 1 - u) (D % 10 ^ (7 - 2 * k)) a c (table_reciprocal k D) X D =
    record {
      scale = q.scale;
      wide = q.wide;
      narrow = q.narrow;
      least = q.least;
      most = q.most;
      rest = omega (arith, q.next);
      last = q.last;
      a_is = refl;
      c_low = rw (← q.fourth) (div-mul-le_self (10 ^ (4 * k)) (a * a));
      c_high = rw (← q.fourth) (lt-div-mul-add pos);
      x_is = omega (arith, q.next);
      r_low = rw (← q.second) (div-mul-le_self (c * X) (10 ^ (2 * k)));
      r_high = rw (← q.second) (lt-div-mul-add bb);
      d_is = q.d_is;
    }
    in
    record { below = rw q.whole (short p); near = rw q.whole (omega (arith, short p, close p)) }
