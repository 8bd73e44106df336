-- Lines that are worked out by hand: one computed test of the definitions. Assumes nothing.
use Rattle.std.specs.Prelude.{◌≡◌, ℕ, ◌/◌, Bool, true, false, List, [], ◌∷◌, pos, negsuc}
use Rattle.rounding.specs.declared.sign.Sign.TheVariants.{Plus}
use Rattle.rounding.specs.declared.mode.Mode.TheVariants.{NearestEven, NearestAway}
use Rattle.rounding.specs.declared.flags.Flags.{Flags}
use Rattle.decimal.specs.Numbers.{Datum, finite, infinite}
use Rattle.decimal.specs.Worked.{WorkedWords}
use Rattle.reciprocal.specs.Sources.{table_reciprocal}
use Rattle.reciprocal.specs.Layers.{layered}
use Rattle.reciprocal.specs.Worked.{WorkedReciprocals}
use Rattle.divider.specs.Begun.{Begun}
use Rattle.divider.specs.declared.outcome.QuotientWord.{QuotientWord}
use Rattle.divider.specs.Drafts.{draft_from}
use Rattle.divider.specs.Divisions.{Outcome, number_quotient}

abbrev raising : Bool → Bool → Bool → Flags
raising inexact underflow overflow =
    record { inexact = inexact; underflow = underflow; overflow = overflow; division_by_zero = false; invalid = false }

abbrev pub with_flags : Datum → Bool → Bool → Bool → Outcome
with_flags n inexact underflow overflow = record { number = n; flags = raising inexact underflow overflow }

abbrev pub word_with_flags : ℕ → Bool → Bool → Bool → QuotientWord
word_with_flags w inexact underflow overflow = record { word = w; flags = raising inexact underflow overflow }

-- the reciprocal of two layers over the three-digit table
abbrev pub two_layers : ℕ → ℕ
two_layers d = layered 6 d (layered 3 d (table_reciprocal 3 d))

-- 1 / 3 over it
abbrev pub third : Begun
third = draft_from two_layers Plus 1 101 Plus 3 101

pub record WorkedLines : Type 0 where
  pub words : WorkedWords
  pub reciprocals : WorkedReciprocals
  pub third_biased : third.biased ≡ 33333334
  pub third_corrected : third.widened / third.divisor ≡ 33333333
  -- 1 / 3 is 3,333,333E-7, inexact
  pub third_rounded : number_quotient NearestEven (finite Plus 1 (pos 0)) (finite Plus 3 (pos 0)) ≡ with_flags (finite Plus 3333333 (negsuc 6)) true false false
  -- 1E2 / 2 is 5E1
  pub fifty : number_quotient NearestEven (finite Plus 1 (pos 2)) (finite Plus 2 (pos 0)) ≡ with_flags (finite Plus 5 (pos 1)) false false false
  -- 1E90 / 1E-6 is 1,000,000E90, and 1E90 / 1E-7 overflows
  pub greatest_power : number_quotient NearestEven (finite Plus 1 (pos 90)) (finite Plus 1 (negsuc 5)) ≡ with_flags (finite Plus 1000000 (pos 90)) false false false
  pub too_large : number_quotient NearestEven (finite Plus 1 (pos 90)) (finite Plus 1 (negsuc 6)) ≡ with_flags (infinite Plus) true false true
  -- 9,999,999E-101 / 10 is 1,000,000E-101, inexact and tiny
  pub tiny : number_quotient NearestEven (finite Plus 9999999 (negsuc 100)) (finite Plus 10 (pos 0)) ≡ with_flags (finite Plus 1000000 (negsuc 100)) true true false
  -- 1E-101 / 2 is a tie between 0E-101 and 1E-101
  pub tie_to_even : number_quotient NearestEven (finite Plus 1 (negsuc 100)) (finite Plus 2 (pos 0)) ≡ with_flags (finite Plus 0 (negsuc 100)) true true false
  pub tie_away : number_quotient NearestAway (finite Plus 1 (negsuc 100)) (finite Plus 2 (pos 0)) ≡ with_flags (finite Plus 1 (negsuc 100)) true true false

-- the same lines, in words
abbrev pub worked_words : List QuotientWord
worked_words =
    word_with_flags 0x2DE6CDB3 true false false
    ∷ (word_with_flags 0x22600005 false false false
    ∷ (word_with_flags 0x47F00000 false false false
    ∷ (word_with_flags 0x78000000 true false true
    ∷ (word_with_flags 0x04000000 true true false ∷ (word_with_flags 0x00000000 true true false ∷ (word_with_flags 0x00000001 true true false ∷ []))))))
