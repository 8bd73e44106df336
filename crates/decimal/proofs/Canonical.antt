-- Words of any format: what is written is canonical, and a canonical word that is read and written again is itself.
-- Assumes nothing.
use Rattle.std.proofs.Common.{◌≡◌, ℕ, zero, suc, ◌+◌, ◌*◌, ◌/◌, ◌%◌, ◌^◌, ◌<◌, ◌≤◌, true, false, ◌||◌, eqb, ltb, ◌⊎◌, pos, ◌+ℤ◌, ◌-ℤ◌, nat_abs, sym, refl, ap, ◌∙◌, subst, inl, inr, pow-suc, arith, pow_pos, pow_mono}
use Rattle.std.proofs.lemmas.Int.{ints}
use Rattle.std.proofs.lemmas.Bool.Decides.{nat_tests}
use Rattle.std.proofs.lemmas.Bool.{lt-ltb, ltb-true, eqb-true, eqb-false, eq-eqb, and_parts, and_from, or_cases, or_right, cases_Bool, cond-true, cond-false, both_ways}
use Rattle.std.proofs.lemmas.Nat.{div-mul-add, mod-mul-add, div_below, mod_below, div-add-mod'}
use Rattle.rounding.specs.declared.sign.Sign.{Sign}
use Rattle.rounding.specs.declared.sign.Sign.TheVariants.{Plus, Minus}
use Rattle.decimal.specs.Declets.{declet_value, declet_of, canonical_declet}
use Rattle.decimal.specs.Numbers.{Datum, finite, infinite, quiet, signalling}
use Rattle.decimal.specs.Words.{Format, InFormat, declets_value, declets_of, canonical_declets, sign_of, sign_bit, exponent_lead, leading_digit, combination_of, signalling_bit, sign_field, combination_field, continuation_field, declets_field, number_of_fields, number_of, word_of_fields, finite_word, word_of, canonical_fields, canonical, word_count}
use Rattle.decimal.proofs.Packed.{written, readable}
use Rattle.decimal.proofs.Trip.{thousand_bits, thousands, declets_small, values_small, combination_small, number_finite, number_quiet, number_signalling}

-- the declets, however many

declets_canonical : (k n : ℕ) → canonical_declets k (declets_of k n) ≡ true
declets_canonical zero n = refl
declets_canonical (suc k) n =
    let h : n % 1000 < 1000 = omega arith in
    let small : declet_of (n % 1000) < 1024 = (written (n % 1000) h).1 in
    rw (div-mul-add (declets_of k (n / 1000)) 1024 (declet_of (n % 1000)) small, mod-mul-add (declets_of k (n / 1000)) 1024 (declet_of (n % 1000)) small)
    (and_from (canonical_declets k (declets_of k (n / 1000))) (canonical_declet (declet_of (n % 1000))) (declets_canonical k (n / 1000)) (written (n % 1000) h).2)

declet_same : (d : ℕ) → d < 1024 → canonical_declet d ≡ true → declet_of (declet_value d) ≡ d
declet_same d h c = elim (readable d h).1 [ inl f ↦ absurd (both_ways (canonical_declet d) f c) | inr e ↦ e ]

declets_same : (k t : ℕ) → t < 1024 ^ k → canonical_declets k t ≡ true → declets_of k (declets_value k t) ≡ t
declets_same zero t h c = omega arith
declets_same (suc k) t h c =
    let both = and_parts (canonical_declets k (t / 1024)) (canonical_declet (t % 1024)) c in
    let low : t % 1024 < 1024 = omega arith in
    let small : declet_value (t % 1024) < 1000 = (readable (t % 1024) low).0 in
    let below : t < 1024 ^ k * 1024 = rw pow-suc at h in
    let high : t / 1024 < 1024 ^ k = div_below t 1024 (1024 ^ k) (omega arith) below in
    rw (div-mul-add (declets_value k (t / 1024)) 1000 (declet_value (t % 1024)) small, mod-mul-add (declets_value k (t / 1024)) 1000 (declet_value (t % 1024)) small)
    (rw (declets_same k (t / 1024) high both.0, declet_same (t % 1024) low both.1) (div-add-mod' t 1024))

-- digits before the last 3 k have no part in k declets
declets_low : (k a v : ℕ) → declets_of k (a * 1000 ^ k + v) ≡ declets_of k v
declets_low zero a v = refl
declets_low (suc k) a v =
    let q : (a * (1000 ^ k * 1000) + v) / 1000 ≡ a * 1000 ^ k + v / 1000 = omega arith in
    let r : (a * (1000 ^ k * 1000) + v) % 1000 ≡ v % 1000 = omega arith in
    rw (pow-suc, q, r, declets_low k a (v / 1000))

-- what is written is canonical

fields_canonical : (f : Format) (s : Sign) (g e t : ℕ) → g < 32 → e < 2 ^ f.continuation → t < 1024 ^ f.declets
    → canonical f (word_of_fields f (sign_bit s) g e t) ≡ canonical_fields f g e t
unfolding canonical
fields_canonical f s g e t hg he ht =
    rw (
      div-mul-add ((sign_bit s * 32 + g) * 2 ^ f.continuation + e) (1024 ^ f.declets) t ht,
      mod-mul-add ((sign_bit s * 32 + g) * 2 ^ f.continuation + e) (1024 ^ f.declets) t ht,
      div-mul-add (sign_bit s * 32 + g) (2 ^ f.continuation) e he,
      mod-mul-add (sign_bit s * 32 + g) (2 ^ f.continuation) e he,
      mod-mul-add (sign_bit s) 32 g hg,
    )

finite_canonical : (f : Format) (s : Sign) (c x : ℕ) → c < 10 * 1000 ^ f.declets → x < 3 * 2 ^ f.continuation → canonical f (finite_word f s c x) ≡ true
finite_canonical f s c x hc hx =
    let pE : 0 < 2 ^ f.continuation = pow_pos f.continuation in
    let hh : x / 2 ^ f.continuation < 3 = div_below x (2 ^ f.continuation) 3 pE hx in
    let hd : c / 1000 ^ f.declets < 10 = div_below c (1000 ^ f.declets) 10 (thousands f.declets) hc in
    let g : ℕ = combination_of (x / 2 ^ f.continuation) (c / 1000 ^ f.declets) in
    let hg : g < 30 = combination_small _ _ hh hd in
    let wide : g < 32 = omega (arith, hg) in
    fields_canonical f s g (x % 2 ^ f.continuation) (declets_of f.declets c) wide (mod_below x (2 ^ f.continuation) pE) (declets_small f.declets c)
    ∙ cond-true (ltb g 30) _ _ (lt-ltb g 30 hg)
    ∙ declets_canonical f.declets c

pub written_canonical : (f : Format) → 1 ≤ f.continuation → (n : Datum) → InFormat f n → canonical f (word_of f n) ≡ true
written_canonical f one (finite s c e) (hc, lo, hi) = finite_canonical f s c _ hc (omega (arith, ints))
written_canonical f one (infinite s) h = fields_canonical f s 30 0 0 (omega arith) (pow_pos f.continuation) (thousand_bits f.declets)
written_canonical f one (quiet s n) h =
    fields_canonical f s 31 0 (declets_of f.declets n) (omega arith) (pow_pos f.continuation) (declets_small f.declets n)
    ∙ declets_canonical f.declets n
written_canonical f one (signalling s n) h =
    let two : 2 ≤ 2 ^ f.continuation = pow_mono one in
    fields_canonical f s 31 (signalling_bit f) (declets_of f.declets n) (omega arith) (omega arith) (declets_small f.declets n)
    ∙ and_from (eqb (signalling_bit f) 0 || eqb (signalling_bit f) (signalling_bit f)) _ (or_right _ (eqb (signalling_bit f) (signalling_bit f)) (eq-eqb _ _ refl)) (declets_canonical f.declets n)

-- a canonical word, read and written again

sign_same : (b : ℕ) → b < 2 → sign_bit (sign_of b) ≡ b
sign_same b h =
    elim (cases_Bool (eqb b 0)) [
      | inl e ↦ ap sign_bit (cond-true (eqb b 0) Plus Minus e) ∙ sym (eqb-true b 0 e)
      | inr e ↦ ap sign_bit (cond-false (eqb b 0) Plus Minus e) ∙ one b h (eqb-false b 0 e)
    ]
  where
    one : (b : ℕ) → b < 2 → (b ≡ 0 → ⊥) → 1 ≡ b
    one b h n = grind (arith, nat_tests)

combination_same : (g : ℕ) → g < 30 → combination_of (exponent_lead g) (leading_digit g) ≡ g
combination_same g h = grind (arith, nat_tests)

-- the word is made of its fields
word_same : (f : Format) (w : ℕ) → w < word_count f
    → word_of_fields f (sign_bit (sign_of (sign_field f w))) (combination_field f w) (continuation_field f w) (declets_field f w) ≡ w
word_same f w h =
    let pE : 0 < 2 ^ f.continuation = pow_pos f.continuation in
    let a : w / 1024 ^ f.declets < 64 * 2 ^ f.continuation = div_below w (1024 ^ f.declets) _ (thousand_bits f.declets) h in
    let b : w / 1024 ^ f.declets / 2 ^ f.continuation < 64 = div_below (w / 1024 ^ f.declets) (2 ^ f.continuation) 64 pE a in
    let two : sign_field f w < 2 = omega arith in
    let top : w / 1024 ^ f.declets / 2 ^ f.continuation / 32 % 2 * 32 + w / 1024 ^ f.declets / 2 ^ f.continuation % 32 ≡ w / 1024 ^ f.declets / 2 ^ f.continuation = omega arith in
    rw (sign_same (sign_field f w) two, top, div-add-mod' (w / 1024 ^ f.declets) (2 ^ f.continuation), div-add-mod' w (1024 ^ f.declets))

-- the same for each kind of number

finite_same : (f : Format) (s : Sign) (g e t : ℕ) → g < 30 → e < 2 ^ f.continuation → t < 1024 ^ f.declets → canonical_declets f.declets t ≡ true
    → word_of f (number_of_fields f s g e (declets_value f.declets t)) ≡ word_of_fields f (sign_bit s) g e t
finite_same f s g e t hg he ht c =
    let v : ℕ = declets_value f.declets t in
    let hv : v < 1000 ^ f.declets = values_small f.declets t in
    let x : ℕ = exponent_lead g * 2 ^ f.continuation + e in
    let back : nat_abs ((pos x -ℤ pos f.bias) +ℤ pos f.bias) ≡ x = omega (arith, ints) in
    ap (word_of f) (number_finite f s g e v hg)
    ∙ ap (finite_word f s (leading_digit g * 1000 ^ f.declets + v)) back
    ∙ rw (
      div-mul-add (exponent_lead g) (2 ^ f.continuation) e he,
      mod-mul-add (exponent_lead g) (2 ^ f.continuation) e he,
      div-mul-add (leading_digit g) (1000 ^ f.declets) v hv,
      combination_same g hg,
      declets_low f.declets (leading_digit g) v,
      declets_same f.declets t ht c,
    )

infinite_same : (f : Format) (s : Sign) (e t : ℕ) → e ≡ 0 → t ≡ 0
    → word_of f (number_of_fields f s 30 e (declets_value f.declets t)) ≡ word_of_fields f (sign_bit s) 30 e t
infinite_same f s e t p q = ap (λ x. word_of_fields f (sign_bit s) 30 x 0) (sym p) ∙ ap (word_of_fields f (sign_bit s) 30 e) (sym q)

nan_same : (f : Format) (s : Sign) (e t : ℕ) → 1 ≤ f.continuation → (e ≡ 0) ⊎ (e ≡ signalling_bit f) → t < 1024 ^ f.declets → canonical_declets f.declets t ≡ true
    → word_of f (number_of_fields f s 31 e (declets_value f.declets t)) ≡ word_of_fields f (sign_bit s) 31 e t
nan_same f s e t one (inl p) ht c =
    let two : 2 ≤ 2 ^ f.continuation = pow_mono one in
    ap (word_of f) (number_quiet f s e (declets_value f.declets t) (omega arith))
    ∙ rw (declets_same f.declets t ht c, p)
nan_same f s e t one (inr p) ht c =
    ap (word_of f) (number_signalling f s e (declets_value f.declets t) (omega arith))
    ∙ rw (declets_same f.declets t ht c, p)

-- a combination field of neither a finite number nor an infinity is a NaN's
last : (g : ℕ) → g < 32 → ltb g 30 ≡ false → eqb g 30 ≡ false → g ≡ 31
last g h a b = grind (arith, nat_tests)

fields_same : (f : Format) (s : Sign) (g e t : ℕ) → 1 ≤ f.continuation → g < 32 → e < 2 ^ f.continuation → t < 1024 ^ f.declets → canonical_fields f g e t ≡ true
    → word_of f (number_of_fields f s g e (declets_value f.declets t)) ≡ word_of_fields f (sign_bit s) g e t
fields_same f s g e t one hg he ht c =
    elim (cases_Bool (ltb g 30)) [
      | inl a ↦ finite_same f s g e t (ltb-true g 30 a) he ht (sym (cond-true (ltb g 30) _ _ a) ∙ c)
      | inr a ↦ elim (cases_Bool (eqb g 30)) [
        | inl b ↦
            let both = and_parts (eqb e 0) (eqb t 0) (sym (cond-true (eqb g 30) _ _ b) ∙ sym (cond-false (ltb g 30) _ _ a) ∙ c) in
            subst (λ x. word_of f (number_of_fields f s x e (declets_value f.declets t)) ≡ word_of_fields f (sign_bit s) x e t)
            (sym (eqb-true g 30 b)) (infinite_same f s e t (eqb-true e 0 both.0) (eqb-true t 0 both.1))
        | inr b ↦
            let both = and_parts (eqb e 0 || eqb e (signalling_bit f)) (canonical_declets f.declets t) (sym (cond-false (eqb g 30) _ _ b) ∙ sym (cond-false (ltb g 30) _ _ a) ∙ c) in
            subst (λ x. word_of f (number_of_fields f s x e (declets_value f.declets t)) ≡ word_of_fields f (sign_bit s) x e t)
            (sym (last g hg a b)) (nan_same f s e t one (either (or_cases (eqb e 0) (eqb e (signalling_bit f)) both.0)) ht both.1)
      ]
    ]
  where
    either : (eqb e 0 ≡ true) ⊎ (eqb e (signalling_bit f) ≡ true) → (e ≡ 0) ⊎ (e ≡ signalling_bit f)
    either (inl p) = inl (eqb-true e 0 p)
    either (inr p) = inr (eqb-true e (signalling_bit f) p)

pub canonical_same : (f : Format) → 1 ≤ f.continuation → (w : ℕ) → w < word_count f → canonical f w ≡ true → word_of f (number_of f w) ≡ w
unfolding number_of canonical
canonical_same f one w h c =
    let pE : 0 < 2 ^ f.continuation = pow_pos f.continuation in
    let hg : combination_field f w < 32 = omega arith in
    fields_same f (sign_of (sign_field f w)) (combination_field f w) (continuation_field f w) (declets_field f w) one hg
    (mod_below (w / 1024 ^ f.declets) (2 ^ f.continuation) pE) (mod_below w (1024 ^ f.declets) (thousand_bits f.declets)) c
    ∙ word_same f w h
