-- How words and numbers are written as text. Assumes nothing.
use Rattle.std.specs.Prelude.{ℕ, zero, suc, ◌+◌, ◌/◌, ◌%◌, ◌^◌, cond, List, [], ◌∷◌, ◌++◌, length, None, codes, decimal, Option, ◌==◌, nat_lt}
use Rattle.std.specs.Fmt.{signed_decimal}
use Rattle.rounding.specs.declared.sign.Sign.{Sign}
use Rattle.rounding.specs.declared.sign.Sign.TheVariants.{Plus, Minus}
use Rattle.decimal.specs.Numbers.{Datum, finite, infinite, quiet, signalling}
use Rattle.text.specs.Numerals.{digits_in}

abbrev pub sign_text : Sign → List ℕ
sign_text Plus = codes "+"
sign_text Minus = codes "-"

-- +125E-3, -0E-101, +inf, -nan(123), +snan(0)
abbrev pub number_text : Datum → List ℕ
number_text (finite s c e) = sign_text s ++ (decimal c ++ (codes "E" ++ signed_decimal e))
number_text (infinite s) = sign_text s ++ codes "inf"
number_text (quiet s p) = sign_text s ++ (codes "nan(" ++ (decimal p ++ codes ")"))
number_text (signalling s p) = sign_text s ++ (codes "snan(" ++ (decimal p ++ codes ")"))

-- a hexadecimal digit, 0 to 9 and A to F
abbrev pub hex_digit : ℕ → ℕ
hex_digit d = cond (nat_lt d 10) (48 + d) (55 + d)

-- the last k hexadecimal digits of n
abbrev pub hex_digits : ℕ → ℕ → List ℕ
hex_digits zero n = []
hex_digits (suc k) n = hex_digit (n / 16 ^ k % 16) ∷ hex_digits k n

abbrev pub word_text : ℕ → List ℕ
word_text w = hex_digits 8 w

-- the word of exactly eight hexadecimal digits, of either case
abbrev pub word_in : List ℕ → Option ℕ
word_in bs = cond (length bs == 8) (digits_in 16 bs) None
