-- A draft begun from two numbers stands for their quotient. Assumes nothing.
use Rattle.std.proofs.Common.{◌≡◌, ℕ, zero, suc, ◌+◌, ◌-◌, ◌*◌, ◌/◌, ◌%◌, ◌^◌, ◌<◌, ◌≤◌, false, ltb, sym, refl, ap, ◌∙◌, subst, mul-le-mul_right, mod-lt, mul-pos, le-div_iff_mul-le, zero-mul, arith, pow-add}
use native.Mathlib.Nat.{div-add-mod}
use Rattle.std.proofs.lemmas.Bool.{lt-ltb, cond_both}
use Rattle.quotient.specs.Quotients.{decimal32, quotient_top, quotient_bottom}
use Rattle.quotient.specs.Drafts.{Drafted}
use Rattle.quotient.proofs.Exponent.{tens_pos}
use Rattle.divider.specs.Drafts.{Scaled, widening}
use Rattle.divider.proofs.Bracket.{wide_least}

-- 0 just where l is 0, times a power
same_flag : (l w : ℕ) → 0 < w → ltb 0 l ≡ ltb 0 (l * w)
same_flag zero w h = sym (ap (ltb 0) (zero-mul w))
same_flag (suc l) w h = lt-ltb 0 (suc l) (omega arith) ∙ sym (lt-ltb 0 (suc l * w) (omega arith))

-- (`omega` takes no number of more than 154 digits, so the powers are variables here)
flat : (cy Y U V W A S cx B X F q l : ℕ) → W * A * S ≡ Y * (U * V) → B * W ≡ X * F → cx * B * q + l ≡ cy * A * S → cy * Y * U * V ≡ q * (cx * X * F) + l * W
flat cy Y U V W A S cx B X F q l p r g = omega (arith, ap (λ x. cy * x) p, ap (λ x. cx * x * q) r, ap (λ x. x * W) g)

below : (W cx B X F l : ℕ) → B * W ≡ X * F → l < cx * B → 0 < W → l * W < cx * X * F
below W cx B X F l r i h = omega (arith, ap (λ x. cx * x) r, mul-le-mul_right W i)

-- q and l are quotient and rest of cy * 10^a * 10^s by cx * 10^b
begun : (cy ey cx ex a b s w place q l : ℕ) → 0 < cx → w + a + s ≡ ey + 205 → b + w ≡ ex + place → cx * 10 ^ b * q + l ≡ cy * 10 ^ a * 10 ^ s → l < cx * 10 ^ b → (q ≡ 0 → cy ≡ 0)
    → Drafted 104 q (ltb 0 l) place (quotient_top decimal32 cy ey) (quotient_bottom cx ex)
begun cy ey cx ex a b s w place q l h e f g i z =
    let p : 10 ^ w * 10 ^ a * 10 ^ s ≡ 10 ^ ey * 10 ^ 205 =
    ap (λ x. x * 10 ^ s) (sym (pow-add 10 w a)) ∙ sym (pow-add 10 (w + a) s) ∙ ap (λ x. 10 ^ x) e ∙ pow-add 10 ey 205 in
    let r : 10 ^ b * 10 ^ w ≡ 10 ^ ex * 10 ^ place = sym (pow-add 10 b w) ∙ ap (λ x. 10 ^ x) f ∙ pow-add 10 ex place in
    record {
      rest = l * 10 ^ w;
      divisor = mul-pos h (tens_pos ex);
      is = flat cy (10 ^ ey) (10 ^ 101) (10 ^ 104) (10 ^ w) (10 ^ a) (10 ^ s) cx (10 ^ b) (10 ^ ex) (10 ^ place) q l p r g;
      small = below (10 ^ w) cx (10 ^ b) (10 ^ ex) (10 ^ place) l r i (tens_pos w);
      flag = same_flag l (10 ^ w) (tens_pos w);
      none = λ y. nothing cy ey (z y);
    }
  where
    nothing : (cy ey : ℕ) → cy ≡ 0 → quotient_top decimal32 cy ey ≡ 0
    nothing cy ey z = ap (λ x. x * 10 ^ ey * 10 ^ 101) z ∙ ap (λ x. x * 10 ^ 101) (zero-mul (10 ^ ey)) ∙ zero-mul (10 ^ 101)

-- a zero has no digits, wherever it is placed
zero_stands : (ey cx ex place : ℕ) → 0 < cx → Drafted 104 0 false place (quotient_top decimal32 0 ey) (quotient_bottom cx ex)
zero_stands ey cx ex place h =
    let n : quotient_top decimal32 0 ey ≡ 0 = ap (λ x. x * 10 ^ 101) (zero-mul (10 ^ ey)) ∙ zero-mul (10 ^ 101) in
    let d : 0 < quotient_bottom cx ex = mul-pos h (tens_pos ex) in
    record {
      rest = 0;
      divisor = d;
      is = ap (λ x. x * 10 ^ 104) n ∙ nothing (quotient_bottom cx ex * 10 ^ place);
      small = mul-pos d (tens_pos place);
      flag = refl;
      none = λ _. n;
    }
  where
    nothing : (x : ℕ) → 0 ≡ 0 * x + 0
    nothing x = omega arith

-- the numbers of a draft
pub record Numbers (cy ey cx ex dy a dx b : ℕ) : Type 0 where
  pub dividend : Scaled cy dy a
  pub divisor : Scaled cx dx b
  pub nonzero : 0 < cx
  pub up : ey ≤ 191
  pub down : ex ≤ 191

abbrev pub place_of : ℕ → ℕ → ℕ → ℕ → ℕ → ℕ → ℕ
place_of ey b a dy dx ex = ey + b + 205 - a - widening dy dx - ex

few_widening : (dy dx : ℕ) → widening dy dx ≤ 8
few_widening dy dx = cond_both (ltb dy dx) 8 7 (λ w. w ≤ 8) (λ _. omega arith) (λ _. omega arith)

-- a dividend that is not zero
some_stands : {cy ey cx ex dy a dx b : ℕ} → Numbers cy ey cx ex dy a dx b → 0 < cy
    → Drafted 104 (dy * 10 ^ widening dy dx / dx) (ltb 0 (dy * 10 ^ widening dy dx % dx)) (place_of ey b a dy dx ex) (quotient_top decimal32 cy ey) (quotient_bottom cx ex)
some_stands {cy} {ey} {cx} {ex} {dy} {a} {dx} {b} t some =
    let s : ℕ = widening dy dx in
    let wide : ℕ = dy * 10 ^ s in
    let lo : 1000000 ≤ dx = t.divisor.least t.nonzero in
    let pos : 0 < dx = omega arith in
    let m : cx * 10 ^ b * (wide / dx) + wide % dx ≡ cy * 10 ^ a * 10 ^ s =
    ap (λ x. x * (wide / dx) + wide % dx) (sym t.divisor.is) ∙ div-add-mod wide dx ∙ ap (λ x. x * 10 ^ s) t.dividend.is in
    let l : wide % dx < cx * 10 ^ b = subst (λ x. wide % dx < x) t.divisor.is (mod-lt wide pos) in
    let dyl : 1000000 ≤ dy = t.dividend.least some in
    let dyp : 0 < dy = omega arith in
    let w : 10000000 * dx ≤ wide = wide_least dy dx (λ _. dyl) lo t.divisor.most (mul-pos dyp (tens_pos s)) in
    let q : 10000000 ≤ wide / dx = (le-div_iff_mul-le pos).1 w in
    begun cy ey cx ex a b s (ey + 205 - a - s) (place_of ey b a dy dx ex) (wide / dx) (wide % dx) t.nonzero
    (places ey a s t.dividend.few (few_widening dy dx)) (sums ey ex a b s t.down t.dividend.few (few_widening dy dx)) m l (λ z. absurd (omega arith))
  where
    places : (ey a s : ℕ) → a ≤ 6 → s ≤ 8 → ey + 205 - a - s + a + s ≡ ey + 205
    places ey a s h i = omega arith

    sums : (ey ex a b s : ℕ) → ex ≤ 191 → a ≤ 6 → s ≤ 8 → b + (ey + 205 - a - s) ≡ ex + (ey + b + 205 - a - s - ex)
    sums ey ex a b s h i j = omega arith

pub stands : (cy : ℕ) {ey cx ex dy a dx b : ℕ} → Numbers cy ey cx ex dy a dx b
    → Drafted 104 (dy * 10 ^ widening dy dx / dx) (ltb 0 (dy * 10 ^ widening dy dx % dx)) (place_of ey b a dy dx ex) (quotient_top decimal32 cy ey) (quotient_bottom cx ex)
stands zero {ey} {cx} {ex} {dy} {a} {dx} {b} t =
    let z : dy ≡ 0 = t.dividend.is ∙ zero-mul (10 ^ a) in
    let e : dy * 10 ^ widening dy dx ≡ 0 = ap (λ x. x * 10 ^ widening dy dx) z ∙ zero-mul (10 ^ widening dy dx) in
    subst (λ x. Drafted 104 (x / dx) (ltb 0 (x % dx)) (place_of ey b a dy dx ex) (quotient_top decimal32 0 ey) (quotient_bottom cx ex)) (sym e)
    (flags dx (place_of ey b a dy dx ex) (zero_stands ey cx ex (place_of ey b a dy dx ex) t.nonzero))
  where
    none : (d : ℕ) → 0 / d ≡ 0
    none d = omega arith

    rest : (d : ℕ) → 0 % d ≡ 0
    rest d = omega arith

    flags : (d place : ℕ) → Drafted 104 0 false place (quotient_top decimal32 0 ey) (quotient_bottom cx ex) → Drafted 104 (0 / d) (ltb 0 (0 % d)) place (quotient_top decimal32 0 ey) (quotient_bottom cx ex)
    flags d place h = subst (λ q. Drafted 104 q (ltb 0 (0 % d)) place (quotient_top decimal32 0 ey) (quotient_bottom cx ex)) (sym (none d)) (subst (λ r. Drafted 104 0 (ltb 0 r) place (quotient_top decimal32 0 ey) (quotient_bottom cx ex)) (sym (rest d)) h)
stands (suc cy) t = some_stands t (omega arith)
