-- The words of a decimal interchange format (IEEE 754-2008, densely packed decimal): the number that a word stands for, the word of a
-- number, and the words that are written. Assumes nothing.
use Rattle.std.specs.Prelude.{ℕ, zero, suc, ◌+◌, ◌*◌, ◌/◌, ◌%◌, ◌^◌, ◌<◌, Bool, true, cond, ◌&&◌, ◌||◌, pos, ◌+ℤ◌, ◌-ℤ◌, ◌≤ℤ◌, ◌<ℤ◌, ◌==◌, nat_lt, unsigned_abs}
use Rattle.rounding.specs.declared.sign.Sign.{Sign}
use Rattle.rounding.specs.declared.sign.Sign.TheVariants.{Plus, Minus}
use Rattle.decimal.specs.Numbers.{Datum, finite, infinite, quiet, signalling}
use Rattle.decimal.specs.Declets.{declet_value, declet_of, canonical_declet}

-- From the top a word has a sign bit, five combination bits, the exponent's continuation and the declets. The coefficient has a
-- leading digit and three digits for each declet, and the exponent is written with the bias added.
pub record Format : Type 0 where
  pub declets : ℕ
  pub continuation : ℕ
  pub bias : ℕ

abbrev pub decimal32 : Format
decimal32 = record { declets = 2; continuation = 6; bias = 101 }

-- the numbers of a format; the two leading bits of a biased exponent are at most 10
abbrev pub InFormat : Format → Datum → Type 0
InFormat f (finite s c e) =
    (c < 10 * 1000 ^ f.declets) × (pos 0 ≤ℤ (e +ℤ pos f.bias)) × ((e +ℤ pos f.bias) <ℤ pos (3 * 2 ^ f.continuation))
InFormat f (infinite s) = Unit {0}
InFormat f (quiet s n) = n < 1000 ^ f.declets
InFormat f (signalling s n) = n < 1000 ^ f.declets

-- the number that the last k declets of t stand for, the declets of the last 3 k digits of n, and whether the last k are canonical
abbrev pub declets_value : ℕ → ℕ → ℕ
declets_value zero t = 0
declets_value (suc k) t = declets_value k (t / 1024) * 1000 + declet_value (t % 1024)

abbrev pub declets_of : ℕ → ℕ → ℕ
declets_of zero n = 0
declets_of (suc k) n = declets_of k (n / 1000) * 1024 + declet_of (n % 1000)

abbrev pub canonical_declets : ℕ → ℕ → Bool
canonical_declets zero t = true
canonical_declets (suc k) t = canonical_declets k (t / 1024) && canonical_declet (t % 1024)

-- the sign bit
abbrev pub sign_of : ℕ → Sign
sign_of b = cond (b == 0) Plus Minus

abbrev pub sign_bit : Sign → ℕ
sign_bit Plus = 0
sign_bit Minus = 1

-- A combination field below 11000 is the exponent's two leading bits and a leading digit 0 to 7. Else it is 11, those two bits, and
-- the last bit of a leading digit 8 or 9; or 11110, an infinity, or 11111, a NaN.
abbrev pub exponent_lead : ℕ → ℕ
exponent_lead g = cond (nat_lt g 24) (g / 8) (g / 2 % 4)

abbrev pub leading_digit : ℕ → ℕ
leading_digit g = cond (nat_lt g 24) (g % 8) (8 + g % 2)

abbrev pub combination_of : ℕ → ℕ → ℕ
combination_of h d = cond (nat_lt d 8) (h * 8 + d) (24 + h * 2 + d % 2)

-- the first continuation bit, which a signalling NaN has
abbrev pub signalling_bit : Format → ℕ
signalling_bit f = 2 ^ f.continuation / 2

-- the fields of a word
abbrev pub sign_field : Format → ℕ → ℕ
sign_field f w = w / 1024 ^ f.declets / 2 ^ f.continuation / 32 % 2

abbrev pub combination_field : Format → ℕ → ℕ
combination_field f w = w / 1024 ^ f.declets / 2 ^ f.continuation % 32

abbrev pub continuation_field : Format → ℕ → ℕ
continuation_field f w = w / 1024 ^ f.declets % 2 ^ f.continuation

abbrev pub declets_field : Format → ℕ → ℕ
declets_field f w = w % 1024 ^ f.declets

-- the number of a sign, a combination field, an exponent continuation and the digits behind the first
abbrev pub number_of_fields : Format → Sign → (g e v : ℕ) → Datum
number_of_fields f s g e v =
    cond (nat_lt g 30) (finite s (leading_digit g * 1000 ^ f.declets + v) (pos (exponent_lead g * 2 ^ f.continuation + e) -ℤ pos f.bias))
    (cond (g == 30) (infinite s) (cond (nat_lt e (signalling_bit f)) (quiet s v) (signalling s v)))

-- the number that a word stands for
unfoldable pub number_of : Format → ℕ → Datum
number_of f w =
    number_of_fields f (sign_of (sign_field f w)) (combination_field f w) (continuation_field f w) (declets_value f.declets (declets_field f w))

-- the word of its fields
abbrev pub word_of_fields : Format → (s g e t : ℕ) → ℕ
word_of_fields f s g e t = ((s * 32 + g) * 2 ^ f.continuation + e) * 1024 ^ f.declets + t

-- the word of a finite number with the biased exponent x
abbrev pub finite_word : Format → Sign → ℕ → ℕ → ℕ
finite_word f s c x =
    word_of_fields f (sign_bit s) (combination_of (x / 2 ^ f.continuation) (c / 1000 ^ f.declets)) (x % 2 ^ f.continuation) (declets_of f.declets c)

-- the word of a number
abbrev pub word_of : Format → Datum → ℕ
word_of f (finite s c e) = finite_word f s c (unsigned_abs (e +ℤ pos f.bias))
word_of f (infinite s) = word_of_fields f (sign_bit s) 30 0 0
word_of f (quiet s n) = word_of_fields f (sign_bit s) 31 0 (declets_of f.declets n)
word_of f (signalling s n) = word_of_fields f (sign_bit s) 31 (signalling_bit f) (declets_of f.declets n)

-- A word is canonical if its declets are, and all that reading ignores is zero: what follows the combination field of an infinity, and
-- the continuation bits of a NaN but the first.
abbrev pub canonical_fields : Format → (g e t : ℕ) → Bool
canonical_fields f g e t =
    cond (nat_lt g 30) (canonical_declets f.declets t)
    (cond (g == 30) (e == 0 && t == 0) ((e == 0 || e == signalling_bit f) && canonical_declets f.declets t))

unfoldable pub canonical : Format → ℕ → Bool
canonical f w = canonical_fields f (combination_field f w) (continuation_field f w) (declets_field f w)

-- how many words there are
abbrev pub word_count : Format → ℕ
word_count f = 64 * 2 ^ f.continuation * 1024 ^ f.declets
