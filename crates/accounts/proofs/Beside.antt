-- An exact value beside its floor, its ceiling and what the modes make of it. Assumes nothing.
use Rattle.std.proofs.Common.{◌≡◌, ℕ, ◌+◌, ◌*◌, ◌/◌, ◌<◌, ◌≤◌, Bool, true, false, cond, not, ℤ, pos, ◌+ℤ◌, ◌-ℤ◌, ◌*ℤ◌, nat_abs, ◌≤ℤ◌, refl, ap, ◌∙◌, subst, mul-le-mul_right, arith}
use borrow.Author.Differences.{up, down, product_is}
use Rattle.std.proofs.lemmas.Int.{ints}
use Rattle.rounding.specs.declared.sign.Sign.{Sign}
use Rattle.rounding.specs.declared.sign.Sign.TheVariants.{Plus, Minus}
use Rattle.rounding.specs.declared.mode.Mode.{Mode}
use Rattle.rounding.specs.declared.mode.Mode.TheVariants.{NearestEven, NearestZero, NearestAway, Ceiling, Floor, TowardZero, AwayFromZero}
use Rattle.rounding.specs.declared.mode.Position.{Position}
use Rattle.rounding.specs.declared.mode.Position.TheVariants.{Whole, Below, Middle, Above}
use Rattle.rounding.specs.Rounding.{by_sign, position, is_whole, is_odd, goes_up, raised}
use Rattle.rounding.specs.Modes.{signed}
use Rattle.rounding.proofs.Meant.{meant}
use Rattle.rounding.proofs.Alone.{alone}
use Rattle.card.specs.Tallies.{is_near}
use Rattle.divider.specs.Exact.{Exact}
use Rattle.accounts.specs.Exact.{fraction, value, is_whole_number, ModesMean}

pub modes_mean : ModesMean
modes_mean =
    record {
      meant = λ m q h. meant m q.sign q.top q.bottom h;
      alone = λ m q h c r. alone m (fraction q).num q.bottom c (value m q) h r (meant m q.sign q.top q.bottom h);
    }

-- 1 where an exact value is not whole
abbrev pub gap : Exact → ℕ
gap q = cond (is_whole_number q) 0 1

-- how many halves of a step a value may be off
abbrev pub weight : Mode → Exact → ℕ
weight m q = cond (is_whole_number q) 0 (cond (is_near m) 1 2)

-- how far an exact value lies above its floor, in parts of a step
abbrev pub rest : Exact → ℕ
rest q = nat_abs ((fraction q).num -ℤ value Floor q *ℤ pos q.bottom)

pub parts : (q : Exact) → 0 < q.bottom → (fraction q).num ≡ value Floor q *ℤ pos q.bottom +ℤ pos (rest q)
parts q h = let u = (meant Floor q.sign q.top q.bottom h).not_above in omega (arith, ints)

pub rest_small : (q : Exact) → 0 < q.bottom → rest q < q.bottom
rest_small q h =
    let m = meant Floor q.sign q.top q.bottom h in
    let u = m.not_above in
    let v = m.within in
    omega (arith, ints)

-- an integer times a natural number
pub scale : (a : ℤ) (k : ℕ) → (up (a *ℤ pos k) ≡ up a * k) × (down (a *ℤ pos k) ≡ down a * k)
scale a k = omega (arith, product_is a (pos k))

-- where a value is whole, every mode stays
stays : (m : Mode) (s : Sign) (odd : Bool) (p : Position) → is_whole p ≡ true → goes_up m s odd p ≡ false
stays NearestEven s odd Whole e = refl
stays NearestZero s odd Whole e = refl
stays NearestAway s odd Whole e = refl
stays Ceiling Plus odd Whole e = refl
stays Ceiling Minus odd Whole e = refl
stays Floor Plus odd Whole e = refl
stays Floor Minus odd Whole e = refl
stays TowardZero s odd Whole e = refl
stays AwayFromZero s odd Whole e = refl
stays m s odd Below e = cc
stays m s odd Middle e = cc
stays m s odd Above e = cc

-- the whole number under a magnitude or the next one, under the sign, lies above the floor by this much
abbrev AboveFloor : Sign → Bool → ℕ → ℤ → Type 0
AboveFloor s whole k z = (u : ℕ) × (z ≡ signed s (raised (by_sign s false (not whole)) k) +ℤ pos u) × (u ≤ cond whole 0 1)

above : (s : Sign) (whole : Bool) (k : ℕ) (up : Bool) → (whole ≡ true → up ≡ false) → AboveFloor s whole k (signed s (raised up k))
above s true k true h = cc (h refl)
above Plus true k false h = (0, omega (arith, ints), omega arith)
above Plus false k true h = (1, omega (arith, ints), omega arith)
above Plus false k false h = (0, omega (arith, ints), omega arith)
above Minus true k false h = (0, omega (arith, ints), omega arith)
above Minus false k true h = (0, omega (arith, ints), omega arith)
above Minus false k false h = (1, omega (arith, ints), omega arith)

rises : (m : Mode) (q : Exact) → (u : ℕ) × (value m q ≡ value Floor q +ℤ pos u) × (u ≤ gap q)
rises m q =
    let odd = is_odd (q.top / q.bottom) in
    above q.sign (is_whole_number q) (q.top / q.bottom) (goes_up m q.sign odd (position q.top q.bottom)) (stays m q.sign odd (position q.top q.bottom))

pub ceiling_gap : (q : Exact) → value Ceiling q ≡ value Floor q +ℤ pos (gap q)
ceiling_gap q = by q.sign (is_whole_number q) (q.top / q.bottom)
  where
    by : (s : Sign) (whole : Bool) (k : ℕ) → signed s (raised (by_sign s (not whole) false) k) ≡ signed s (raised (by_sign s false (not whole)) k) +ℤ pos (cond whole 0 1)
    by Plus true k = omega (arith, ints)
    by Plus false k = refl
    by Minus true k = omega (arith, ints)
    by Minus false k = omega (arith, ints)

-- a whole value is its floor
pub rest_gap : (q : Exact) → 0 < q.bottom → rest q ≤ gap q * q.bottom
rest_gap q h = by (is_whole_number q) refl
  where
    by : (w : Bool) → is_whole_number q ≡ w → rest q ≤ cond w 0 1 * q.bottom
    by true e =
        let c : value Ceiling q ≡ value Floor q = ceiling_gap q ∙ ap (λ w. value Floor q +ℤ pos (cond w 0 1)) e ∙ omega (arith, ints) in
        let o = subst (λ x. (fraction q).num ≤ℤ (x *ℤ pos q.bottom)) c (meant Ceiling q.sign q.top q.bottom h).not_below in
        let u = (meant Floor q.sign q.top q.bottom h).not_above in
        omega (arith, ints)
    by false e = omega (arith, rest_small q h)

-- the modes to the nearest are off by half a step at most
off : (m : Mode) (q : Exact) → 0 < q.bottom → is_near m ≡ true → 2 * nat_abs (value m q *ℤ pos q.bottom -ℤ (fraction q).num) ≤ q.bottom
off NearestEven q h e = (meant NearestEven q.sign q.top q.bottom h).near
off NearestZero q h e = (meant NearestZero q.sign q.top q.bottom h).near
off NearestAway q h e = (meant NearestAway q.sign q.top q.bottom h).near
off Ceiling q h e = cc
off Floor q h e = cc
off TowardZero q h e = cc
off AwayFromZero q h e = cc

-- by how much a value lies above the floor
pub record Rise (m : Mode) (q : Exact) : Type 0 where
  pub u : ℕ
  pub is : value m q ≡ value Floor q +ℤ pos u
  pub over : 2 * (u * q.bottom) ≤ 2 * rest q + weight m q * q.bottom
  pub under : 2 * rest q ≤ 2 * (u * q.bottom) + weight m q * q.bottom

-- v is f and u, so that v * d is f * d and u * d: over plain numbers
near_by : (v f n : ℤ) (d r u : ℕ) → v ≡ f +ℤ pos u → n ≡ f *ℤ pos d +ℤ pos r → 2 * nat_abs (v *ℤ pos d -ℤ n) ≤ d → (2 * (u * d) ≤ 2 * r + d) × (2 * r ≤ 2 * (u * d) + d)
near_by v f n d r u e p o =
    let s : up v + down f ≡ down v + up f + u = omega (arith, ints) in
    let t = ap (λ x. x * d) s in
    let a = scale v d in
    let b = scale f d in
    (omega (arith, ints), omega (arith, ints))

pub rise : (m : Mode) (q : Exact) → 0 < q.bottom → Rise m q
rise m q h =
    let v = rises m q in
    by (is_whole_number q) (is_near m) refl refl v.0 v.1 v.2 (rest_gap q h)
  where
    made : (k u : ℕ) → weight m q ≡ k → value m q ≡ value Floor q +ℤ pos u → 2 * (u * q.bottom) ≤ 2 * rest q + k * q.bottom → 2 * rest q ≤ 2 * (u * q.bottom) + k * q.bottom → Rise m q
    made k u e is o b = record { u = u; is = is; over = rw e o; under = rw e b }

    by : (w n : Bool) → is_whole_number q ≡ w → is_near m ≡ n → (u : ℕ) → value m q ≡ value Floor q +ℤ pos u → u ≤ gap q → rest q ≤ gap q * q.bottom → Rise m q
    by true n e k u is l g =
        let gap_is : gap q ≡ 0 = ap (λ w. cond w 0 1) e in
        let z : u ≡ 0 = omega arith in
        let r : rest q ≤ 0 * q.bottom = rw gap_is at g in
        let t : u * q.bottom ≡ 0 * q.bottom = ap (λ x. x * q.bottom) z in
        made 0 u (ap (λ w. cond w 0 (cond (is_near m) 1 2)) e) is (omega arith) (omega arith)
    by false true e k u is l g =
        let p = near_by (value m q) (value Floor q) (fraction q).num q.bottom (rest q) u is (parts q h) (off m q h k) in
        made 1 u (ap (λ w. cond w 0 (cond (is_near m) 1 2)) e ∙ ap (λ n. cond n 1 2) k) is (omega (arith, p.0)) (omega (arith, p.1))
    by false false e k u is l g =
        let gap_is : gap q ≡ 1 = ap (λ w. cond w 0 1) e in
        let t : u * q.bottom ≤ 1 * q.bottom = mul-le-mul_right q.bottom (omega arith) in
        made 2 u (ap (λ w. cond w 0 (cond (is_near m) 1 2)) e ∙ ap (λ n. cond n 1 2) k) is (omega arith) (omega (arith, rest_small q h))
