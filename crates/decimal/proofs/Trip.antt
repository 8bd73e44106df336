-- Words of any format: a number that is written and read again is itself.
-- Assumes nothing.
use Rattle.std.proofs.Common.{◌≡◌, ℕ, zero, suc, ◌+◌, ◌*◌, ◌/◌, ◌%◌, ◌^◌, ◌<◌, ◌≤◌, pos, ◌+ℤ◌, ◌-ℤ◌, nat_abs, sym, refl, ap, ◌∙◌, mod-eq_of_lt, pow-suc, arith, pow_pos, pow_mono}
use lib.Arith.{mod-mul}
use Rattle.std.proofs.lemmas.Int.{ints}
use Rattle.std.proofs.lemmas.Bool.Decides.{nat_tests}
use Rattle.std.proofs.lemmas.Bool.{lt-ltb, le-ltb}
use Rattle.std.proofs.lemmas.Nat.{div-mul-add, mod-mul-add, div_below, mod_below, div-add-mod'}
use Rattle.rounding.specs.declared.sign.Sign.{Sign}
use Rattle.rounding.specs.declared.sign.Sign.TheVariants.{Plus, Minus}
use Rattle.decimal.specs.Declets.{declet_of}
use Rattle.decimal.specs.Numbers.{Datum, finite, infinite, quiet, signalling}
use Rattle.decimal.specs.Words.{Format, InFormat, declets_value, declets_of, sign_of, sign_bit, exponent_lead, leading_digit, combination_of, signalling_bit, number_of_fields, number_of, word_of_fields, finite_word, word_of}
use Rattle.decimal.proofs.Packed.{written, readable}

-- the declets, however many

pub thousand_bits : (k : ℕ) → 0 < 1024 ^ k
thousand_bits zero = omega arith
thousand_bits (suc k) = rw pow-suc (omega (arith, thousand_bits k))

pub thousands : (k : ℕ) → 0 < 1000 ^ k
thousands zero = omega arith
thousands (suc k) = rw pow-suc (omega (arith, thousands k))

pub declets_small : (k n : ℕ) → declets_of k n < 1024 ^ k
declets_small zero n = omega arith
declets_small (suc k) n =
    let h : n % 1000 < 1000 = omega arith in
    rw pow-suc (omega (arith, declets_small k (n / 1000), (written (n % 1000) h).1))

pub values_small : (k t : ℕ) → declets_value k t < 1000 ^ k
values_small zero t = omega arith
values_small (suc k) t =
    let h : t % 1024 < 1024 = omega arith in
    rw pow-suc (omega (arith, values_small k (t / 1024), (readable (t % 1024) h).0))

pub declets_back : (k n : ℕ) → declets_value k (declets_of k n) ≡ n % 1000 ^ k
declets_back zero n = omega arith
declets_back (suc k) n =
    let h : n % 1000 < 1000 = omega arith in
    let p = thousands k in
    let small : declet_of (n % 1000) < 1024 = (written (n % 1000) h).1 in
    let m : n % (1000 ^ k * 1000) ≡ (n / 1000 % 1000 ^ k) * 1000 + n % 1000 = mod-mul n p (omega arith) in
    rw (div-mul-add (declets_of k (n / 1000)) 1024 (declet_of (n % 1000)) small, mod-mul-add (declets_of k (n / 1000)) 1024 (declet_of (n % 1000)) small)
    (rw (declets_back k (n / 1000), (written (n % 1000) h).0, pow-suc) (sym m))

-- the combination field

pub lead_back : (h d : ℕ) → h < 3 → d < 10 → exponent_lead (combination_of h d) ≡ h
lead_back h d p q = grind (arith, nat_tests)

pub digit_back : (h d : ℕ) → h < 3 → d < 10 → leading_digit (combination_of h d) ≡ d
digit_back h d p q = grind (arith, nat_tests)

pub combination_small : (h d : ℕ) → h < 3 → d < 10 → combination_of h d < 30
combination_small h d p q = grind (arith, nat_tests)

-- the four fields, taken out again

pub bit_small : (s : Sign) → sign_bit s < 2
bit_small Plus = omega arith
bit_small Minus = omega arith

pub sign_back : (s : Sign) → sign_of (sign_bit s) ≡ s
sign_back Plus = refl
sign_back Minus = refl

pub fields : (f : Format) (s : Sign) (g e t : ℕ) → g < 32 → e < 2 ^ f.continuation → t < 1024 ^ f.declets
    → number_of f (word_of_fields f (sign_bit s) g e t) ≡ number_of_fields f s g e (declets_value f.declets t)
unfolding number_of
fields f s g e t hg he ht =
    let hs : sign_bit s < 2 = bit_small s in
    rw (
      div-mul-add ((sign_bit s * 32 + g) * 2 ^ f.continuation + e) (1024 ^ f.declets) t ht,
      mod-mul-add ((sign_bit s * 32 + g) * 2 ^ f.continuation + e) (1024 ^ f.declets) t ht,
      div-mul-add (sign_bit s * 32 + g) (2 ^ f.continuation) e he,
      mod-mul-add (sign_bit s * 32 + g) (2 ^ f.continuation) e he,
      div-mul-add (sign_bit s) 32 g hg,
      mod-mul-add (sign_bit s) 32 g hg,
      mod-eq_of_lt hs,
      sign_back s,
    )

-- the number of each kind of field

pub number_finite : (f : Format) (s : Sign) (g e v : ℕ) → g < 30
    → number_of_fields f s g e v ≡ finite s (leading_digit g * 1000 ^ f.declets + v) (pos (exponent_lead g * 2 ^ f.continuation + e) -ℤ pos f.bias)
number_finite f s g e v h = rw (lt-ltb g 30 h)

pub number_quiet : (f : Format) (s : Sign) (e v : ℕ) → e < signalling_bit f → number_of_fields f s 31 e v ≡ quiet s v
number_quiet f s e v h = rw (lt-ltb e (signalling_bit f) h)

pub number_signalling : (f : Format) (s : Sign) (e v : ℕ) → signalling_bit f ≤ e → number_of_fields f s 31 e v ≡ signalling s v
number_signalling f s e v h = rw (le-ltb e (signalling_bit f) h)

-- a finite number by its biased exponent
pub finite_back : (f : Format) (s : Sign) (c x : ℕ) → c < 10 * 1000 ^ f.declets → x < 3 * 2 ^ f.continuation
    → number_of f (finite_word f s c x) ≡ finite s c (pos x -ℤ pos f.bias)
finite_back f s c x hc hx =
    let pK : 0 < 1000 ^ f.declets = thousands f.declets in
    let pE : 0 < 2 ^ f.continuation = pow_pos f.continuation in
    let hh : x / 2 ^ f.continuation < 3 = div_below x (2 ^ f.continuation) 3 pE hx in
    let hd : c / 1000 ^ f.declets < 10 = div_below c (1000 ^ f.declets) 10 pK hc in
    let hg : combination_of (x / 2 ^ f.continuation) (c / 1000 ^ f.declets) < 30 = combination_small _ _ hh hd in
    let wide : combination_of (x / 2 ^ f.continuation) (c / 1000 ^ f.declets) < 32 = omega (arith, hg) in
    fields f s _ (x % 2 ^ f.continuation) (declets_of f.declets c)
    wide (mod_below x (2 ^ f.continuation) pE) (declets_small f.declets c)
    ∙ number_finite f s _ (x % 2 ^ f.continuation) (declets_value f.declets (declets_of f.declets c)) hg
    ∙ rw (lead_back _ _ hh hd, digit_back _ _ hh hd, declets_back, div-add-mod' c (1000 ^ f.declets), div-add-mod' x (2 ^ f.continuation))

-- every number of a format, written and read again, is itself
pub round_trip : (f : Format) → 1 ≤ f.continuation → (t : Datum) → InFormat f t → number_of f (word_of f t) ≡ t
round_trip f one (finite s c e) (hc, lo, hi) =
    let hx : nat_abs (e +ℤ pos f.bias) < 3 * 2 ^ f.continuation = omega (arith, ints) in
    let back : pos (nat_abs (e +ℤ pos f.bias)) -ℤ pos f.bias ≡ e = omega (arith, ints) in
    finite_back f s c _ hc hx ∙ ap (finite s c) back
round_trip f one (infinite s) h =
    fields f s 30 0 0 (omega arith) (pow_pos f.continuation) (thousand_bits f.declets)
round_trip f one (quiet s n) h =
    let two : 2 ≤ 2 ^ f.continuation = pow_mono one in
    fields f s 31 0 (declets_of f.declets n) (omega arith) (omega arith) (declets_small f.declets n)
    ∙ number_quiet f s 0 (declets_value f.declets (declets_of f.declets n)) (omega arith)
    ∙ ap (quiet s) (declets_back f.declets n ∙ mod-eq_of_lt h)
round_trip f one (signalling s n) h =
    let two : 2 ≤ 2 ^ f.continuation = pow_mono one in
    fields f s 31 (signalling_bit f) (declets_of f.declets n) (omega arith) (omega arith) (declets_small f.declets n)
    ∙ number_signalling f s (signalling_bit f) (declets_value f.declets (declets_of f.declets n)) (omega arith)
    ∙ ap (signalling s) (declets_back f.declets n ∙ mod-eq_of_lt h)
