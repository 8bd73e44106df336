-- decimal32 as an instance of the laws of any format. Assumes nothing.
use Rattle.std.proofs.Common.{◌≡◌, ℕ, ◌^◌, ◌<◌, true, ap, ◌∙◌, arith}
use Rattle.std.proofs.lemmas.Int.{ints}
use Rattle.decimal.specs.declared.number.Number.{Number}
use Rattle.decimal.specs.declared.number.Number.TheVariants.{Finite, Infinite, QuietNan, SignallingNan}
use Rattle.decimal.specs.Numbers.{datum}
use Rattle.decimal.specs.Words.{decimal32, InFormat, number_of, word_of, canonical}
use Rattle.decimal.proofs.Trip.{round_trip}
use Rattle.decimal.proofs.Canonical.{written_canonical, canonical_same}

-- a number of the program is one of the format
in_format : (n : Number) → InFormat decimal32 (datum n)
in_format (Finite f) = (f.limits.0, omega (arith, ints, f.limits), omega (arith, ints, f.limits))
in_format (Infinite s) = tt
in_format (QuietNan n) = n.limits
in_format (SignallingNan n) = n.limits

pub same_number : (n : Number) (w : ℕ) → w ≡ word_of decimal32 (datum n) → number_of decimal32 w ≡ datum n
same_number n w e = ap (number_of decimal32) e ∙ round_trip decimal32 (omega arith) (datum n) (in_format n)

pub is_canonical : (n : Number) (w : ℕ) → w ≡ word_of decimal32 (datum n) → canonical decimal32 w ≡ true
is_canonical n w e = ap (canonical decimal32) e ∙ written_canonical decimal32 (omega arith) (datum n) (in_format n)

pub same_word : (n : Number) (w : ℕ) → w < 2 ^ 32 → datum n ≡ number_of decimal32 w → canonical decimal32 w ≡ true → word_of decimal32 (datum n) ≡ w
same_word n w h e c = ap (word_of decimal32) e ∙ canonical_same decimal32 (omega arith) w h c
