-- The ways of a rounding, each against the definition. Assumes nothing.
use Rattle.std.proofs.Common.{◌≡◌, ℕ, zero, suc, ◌+◌, ◌-◌, ◌*◌, ◌/◌, ◌%◌, ◌^◌, ◌<◌, ◌≤◌, min, Bool, true, false, cond, eqb, ltb, sym, refl, ap, ◌∙◌, subst, inl, inr, div-lt_iff_lt-mul, lt_of_mul-lt-mul_right, mul-le-mul_left, mul-pos, arith}
use native.Mathlib.Nat.{div-add-mod}
use Rattle.std.proofs.lemmas.Bool.{cases_lt, cases_Bool, cond-true, cond-false, cond_both, lt-ltb, le-ltb, eq-eqb, ne_eqb, true≢false}
use Rattle.std.proofs.lemmas.Bool.Decides.{nat_tests}
use Rattle.rounding.specs.declared.sign.Sign.{Sign}
use Rattle.rounding.specs.declared.sign.Sign.TheVariants.{Plus, Minus}
use Rattle.rounding.specs.declared.mode.Mode.{Mode}
use Rattle.rounding.specs.Flags.{no_flags}
use Rattle.rounding.specs.declared.mode.Mode.TheVariants.{NearestEven, NearestZero, NearestAway, Ceiling, Floor, TowardZero, AwayFromZero}
use Rattle.rounding.specs.declared.mode.Position.{Position}
use Rattle.rounding.specs.declared.mode.Position.TheVariants.{Whole, Below, Middle, Above}
use Rattle.rounding.specs.Rounding.{placed, position, is_whole, goes_up, is_odd, rounded_at}
use Rattle.quotient.specs.Quotients.{Range, exponent_of, under, preferred, divided, nonzero, finite, overflow, exact, inexact, inexact_flags}
use Rattle.quotient.specs.Drafts.{Drafted, Stripped, sticky}
use Rattle.quotient.proofs.Cut.{floors, same_place}
use Rattle.quotient.proofs.Exponent.{tens_pos, tens_least, tenth, At, last, parts_of, below_less, above, too_low, exponent_is, exponent_past, Same, clamped}
use Rattle.quotient.proofs.Preferred.{Shown, whole_is, preferred_is}

-- a draft that is cut by the unit u; past `most` digits it makes no difference how many go
pub record By (f : Range) (shift q : ℕ) (left : Bool) (place n d k digits most u : ℕ) : Type 0 where
  pub at : At f shift q left place n d k digits
  pub unit : u ≡ 10 ^ min digits most
  pub enough : 2 * (10 * 10 ^ f.digits) ≤ 10 ^ most

pub way_zero : (f : Range) (mode : Mode) (sign : Sign) {shift q : ℕ} {left : Bool} {place n d : ℕ} (ideal : ℕ) → q ≡ 0 → Drafted shift q left place n d → finite 0 (min f.span ideal) no_flags ≡ divided f mode sign n d ideal
unfolding divided
way_zero f mode sign {n = n} ideal z t = sym (cond-true (eqb n 0) _ _ (eq-eqb n 0 (t.none z)))

some_n : {f : Range} {shift q : ℕ} {left : Bool} {place n d k digits : ℕ} → At f shift q left place n d k digits → 0 < n
some_n {f} {shift} {q} {left} {place} {n} {d} a =
    let t : Drafted shift q left place n d = a.drafted in
    let h : 0 < q = omega (arith, a.first, tens_pos f.digits) in
    let g : 0 < q * (d * 10 ^ place) = mul-pos h (mul-pos t.divisor (tens_pos place)) in
    let s : 0 * 10 ^ shift < n * 10 ^ shift = omega (arith, t.is) in
    lt_of_mul-lt-mul_right (10 ^ shift) s

at_exponent : (f : Range) (mode : Mode) (sign : Sign) (n d ideal e : ℕ) → 0 < n → exponent_of f n d ≡ e → divided f mode sign n d ideal ≡ nonzero f mode sign n d ideal e
unfolding divided
at_exponent f mode sign n d ideal e h i =
    cond-false (eqb n 0) _ _ (ne_eqb n 0 (λ z. omega arith)) ∙ ap (nonzero f mode sign n d ideal) i

pub way_over : (mode : Mode) (sign : Sign) {f : Range} {shift q : ℕ} {left : Bool} {place n d k digits : ℕ} (ideal : ℕ) → At f shift q left place n d k digits → f.span < k → overflow f mode sign ≡ divided f mode sign n d ideal
way_over mode sign {f} {n = n} {d = d} ideal a h =
    sym (at_exponent f mode sign n d ideal (suc f.span) (some_n a) (exponent_past a h) ∙ cond-true (ltb f.span (suc f.span)) _ _ (lt-ltb f.span (suc f.span) (omega arith)))

same : {f : Range} {shift q : ℕ} {left : Bool} {place n d k digits most u : ℕ} → By f shift q left place n d k digits most u → Same q u (10 ^ digits) left
same {f} {q = q} {left = left} {digits = digits} {most = most} b =
    let l : 2 * q < 10 ^ most = omega (arith, last b.at, b.enough) in
    subst (λ x. Same q x (10 ^ digits) left) (sym b.unit) (clamped q digits most left l)

floor_is : {f : Range} {shift q : ℕ} {left : Bool} {place n d k digits most u : ℕ} → By f shift q left place n d k digits most u → n / (d * 10 ^ k) ≡ q / u
floor_is b = floors (parts_of b.at) ∙ sym (same b).floor

place_is : {f : Range} {shift q : ℕ} {left : Bool} {place n d k digits most u : ℕ} → By f shift q left place n d k digits most u → position n (d * 10 ^ k) ≡ sticky (q % u) u left
place_is {q = q} {digits = digits} b =
    same_place (parts_of b.at) ∙ ap (sticky (q % 10 ^ digits) (10 ^ digits)) (sym b.at.drafted.flag) ∙ sym (same b).place

in_range : (mode : Mode) (sign : Sign) {f : Range} {shift q : ℕ} {left : Bool} {place n d k digits most u : ℕ} (ideal : ℕ) → By f shift q left place n d k digits most u → k ≤ f.span →
    divided f mode sign n d ideal ≡ cond (is_whole (sticky (q % u) u left)) (exact f n d (preferred f n d ideal)) (inexact f mode sign n d k)
in_range mode sign {f} {n = n} {d = d} {k = k} ideal b h =
    at_exponent f mode sign n d ideal k (some_n b.at) (exponent_is b.at h) ∙ cond-false (ltb f.span k) _ _ (le-ltb f.span k h) ∙
    ap (λ x. cond (is_whole x) (exact f n d (preferred f n d ideal)) (inexact f mode sign n d k)) (place_is b)

-- below the least number of all digits just where two digits or more go
underflow_is : {f : Range} {shift q : ℕ} {left : Bool} {place n d k digits : ℕ} → At f shift q left place n d k digits → under n d (f.digits - 1) ≡ ltb 1 digits
underflow_is {f} {shift} {q} {left} {place} {n} {d} {k} {digits} a =
    let one : 1 ≤ digits = a.cut.one in
    let U : ℕ = 10 ^ (f.digits - 1) in
    let g : 10 ^ f.digits ≡ 10 * U = tenth f.digits a.proper in
    elim (cases_lt 1 digits) [
      | inl h ↦
          let z : k ≡ 0 = none k digits a.cut.low h in
          let e : 10 ^ k ≡ 1 = ap (λ x. 10 ^ x) z in
          let b : 10 ^ 2 ≤ 10 ^ digits = tens_least 2 digits h in
          let c : q < 100 * U = omega (arith, last a) in
          let l : n < d * 10 ^ k * U = below_less U (parts_of a) c b in
          let l2 : n < d * U = omega (arith, ap (λ x. d * x * U) e) in
          lt-ltb n (d * U) l2 ∙ sym (lt-ltb 1 digits h)
      | inr h ↦
          let z : digits ≡ 1 = omega arith in
          let c : 10 * U ≤ q = omega (arith, a.first) in
          let l : d * 10 ^ k * U ≤ n = above U (parts_of a) c (ap (λ x. 10 ^ x) z) in
          let l2 : d * U ≤ n = omega (arith, mul-le-mul_left (d * U) (tens_pos k)) in
          le-ltb n (d * U) l2 ∙ sym (le-ltb 1 digits h)
    ]
  where
    none : (k digits : ℕ) → (0 < k → digits ≡ 1) → 1 < digits → k ≡ 0
    none k digits f h = elim (cases_lt 0 k) [ inl l ↦ absurd (omega (arith, f l)) | inr l ↦ omega arith ]

pub way_inexact : (mode : Mode) (sign : Sign) {f : Range} {shift q : ℕ} {left : Bool} {place n d k digits most u : ℕ} (ideal : ℕ) → By f shift q left place n d k digits most u → k ≤ f.span → is_whole (sticky (q % u) u left) ≡ false →
    finite (rounded_at mode sign (q / u) (sticky (q % u) u left)) k (inexact_flags (ltb 1 digits)) ≡ divided f mode sign n d ideal
way_inexact mode sign {f} {q = q} {left = left} {n = n} {d = d} {k = k} {digits = digits} {u = u} ideal b h w =
    sym (
    in_range mode sign ideal b h ∙ cond-false (is_whole (sticky (q % u) u left)) _ _ w ∙
    ap (λ x. finite (rounded_at mode sign x (position n (d * 10 ^ k))) k (inexact_flags (under n d (f.digits - 1)))) (floor_is b) ∙
    ap (λ x. finite (rounded_at mode sign (q / u) x) k (inexact_flags (under n d (f.digits - 1)))) (place_is b) ∙
    ap (λ x. finite (rounded_at mode sign (q / u) (sticky (q % u) u left)) k (inexact_flags x)) (underflow_is b.at)
    )

whole_rest : (r m : ℕ) → is_whole (placed r m) ≡ true → r ≡ 0
whole_rest r m h = grind (arith, nat_tests)

pub unit_least : (digits most u : ℕ) → 1 ≤ digits → 1 ≤ most → u ≡ 10 ^ min digits most → 10 ≤ u
unit_least digits most u h i e = let b : 10 ^ 1 ≤ 10 ^ min digits most = tens_least 1 (min digits most) (omega arith) in omega arith

pub floor_small : (q u T : ℕ) → q < 10 * T → 10 ≤ u → q / u < T
floor_small q u T h l = let p : 0 < u = omega arith in (div-lt_iff_lt-mul p).1 (omega (arith, mul-le-mul_left T l))

some_most : (T most : ℕ) → 0 < T → 2 * (10 * T) ≤ 10 ^ most → 1 ≤ most
some_most T zero p h = absurd (omega arith)
some_most T (suc m) p h = omega arith

pub way_exact : (mode : Mode) (sign : Sign) {f : Range} {shift q : ℕ} {left : Bool} {place n d k digits most u : ℕ} (ideal c e : ℕ) → By f shift q left place n d k digits most u → k ≤ f.span → is_whole (sticky (q % u) u left) ≡ true →
    Stripped f.span (q / u) k ideal c e → finite c e no_flags ≡ divided f mode sign n d ideal
way_exact mode sign {f} {q = q} {left = left} {n = n} {d = d} {k = k} {digits = digits} {most = most} {u = u} ideal c e b h w s =
    let z : n % (d * 10 ^ k) ≡ 0 = whole_rest _ (d * 10 ^ k) (ap is_whole (place_is b) ∙ w) in
    let y : d * 10 ^ k * (n / (d * 10 ^ k)) ≡ n = omega (arith, div-add-mod n (d * 10 ^ k)) in
    let x : d * 10 ^ k * (q / u) ≡ n = ap (λ t. d * 10 ^ k * t) (sym (floor_is b)) ∙ y in
    let o : 1 ≤ most = some_most (10 ^ f.digits) most (tens_pos f.digits) b.enough in
    let i : q / u < 10 ^ f.digits = floor_small q u (10 ^ f.digits) (last b.at) (unit_least digits most u b.at.cut.one o b.unit) in
    let g : Shown f n d k ideal c e =
    record {
      divisor = b.at.drafted.divisor;
      is = omega (arith, ap (λ t. d * t) s.value);
      small = omega (arith, s.less);
      within = s.within;
      least = too_low b.at;
      near = s.near;
      stop = s.stop;
    }
    in
    sym (
    in_range mode sign ideal b h ∙ cond-true (is_whole (sticky (q % u) u left)) _ _ w ∙ ap (exact f n d) (preferred_is g) ∙
    ap (λ t. finite t e no_flags) (whole_is g)
    )

whole_stays : (mode : Mode) (sign : Sign) (o : Bool) → goes_up mode sign o Whole ≡ false
whole_stays NearestEven sign o = refl
whole_stays NearestZero sign o = refl
whole_stays NearestAway sign o = refl
whole_stays Ceiling Minus o = refl
whole_stays Ceiling Plus o = refl
whole_stays Floor Minus o = refl
whole_stays Floor Plus o = refl
whole_stays TowardZero sign o = refl
whole_stays AwayFromZero sign o = refl

only_whole : (p : Position) → is_whole p ≡ true → p ≡ Whole
only_whole Whole h = refl
only_whole Below h = absurd (true≢false (sym h))
only_whole Middle h = absurd (true≢false (sym h))
only_whole Above h = absurd (true≢false (sym h))

something : (x u : ℕ) (left : Bool) → is_whole (sticky x u left) ≡ false → 0 < u → 0 < x + cond left 1 0
something x u left h p = grind (arith, nat_tests)

raised_most : (mode : Mode) (sign : Sign) (c : ℕ) (p : Position) → rounded_at mode sign c p ≤ c + 1
raised_most mode sign c p = cond_both (goes_up mode sign (is_odd c) p) (c + 1) c (λ x. x ≤ c + 1) (λ _. omega arith) (λ _. omega arith)

raised_whole : (mode : Mode) (sign : Sign) (c : ℕ) (p : Position) → is_whole p ≡ true → rounded_at mode sign c p ≡ c
raised_whole mode sign c p h =
    ap (rounded_at mode sign c) (only_whole p h) ∙ cond-false (goes_up mode sign (is_odd c) Whole) _ _ (whole_stays mode sign (is_odd c))

cross : (u T : ℕ) → 10 ≤ u → 1 ≤ T → u + 10 * T ≤ u * T + 10
cross u T h l = let e : 10 + (u - 10) ≡ u = omega arith in let m : 10 + (u - 10) + 10 * T ≤ (10 + (u - 10)) * T + 10 = omega (arith, mul-le-mul_left (u - 10) l) in rw e at m

-- rounded up or not, the format's digits do
pub raised_small : (mode : Mode) (sign : Sign) (left : Bool) (q u T : ℕ) → q + cond left 1 0 + 10 ≤ 10 * T → 10 ≤ u → rounded_at mode sign (q / u) (sticky (q % u) u left) < T
raised_small mode sign left q u T h b =
    let p : 0 < u = omega arith in
    let c : q / u < T = floor_small q u T (omega arith) b in
    elim (cases_Bool (is_whole (sticky (q % u) u left))) [
      | inl w ↦ subst (λ x. x < T) (sym (raised_whole mode sign (q / u) _ w)) c
      | inr w ↦
          let s : 0 < q % u + cond left 1 0 = something (q % u) u left w p in
          let m : u * (q / u) + q % u ≡ q = div-add-mod q u in
          let g : q / u + 1 < T = elim (cases_lt (q / u + 1) T) [
            | inl k ↦ k
            | inr k ↦ absurd (omega (arith, mul-le-mul_left u k, cross u T b (omega arith)))
          ] in
          omega (arith, raised_most mode sign (q / u) (sticky (q % u) u left))
    ]
