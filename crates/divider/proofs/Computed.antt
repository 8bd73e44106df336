-- The worked lines, by computing. Assumes nothing.
use Rattle.std.proofs.Common.{◌≡◌, [], ◌∷◌, refl}
use Rattle.rounding.specs.declared.mode.Mode.TheVariants.{NearestEven, NearestAway}
use Rattle.decimal.specs.Declets.{declet_value, declet_of}
use Rattle.decimal.specs.Words.{number_of}
use Rattle.decimal.proofs.Computed as words
use Rattle.quotient.specs.Search.{least}
use Rattle.quotient.specs.Quotients.{divided, exponent_of, distance}
use Rattle.divider.specs.Divisions.{word_quotient}
use Rattle.divider.specs.Worked.{WorkedLines, worked_words}

pub computed : WorkedLines
unfolding divided exponent_of distance least
computed =
    record {
      words = words.computed;
      reciprocals = record { by_table = refl; by_layer = refl; by_two_layers = refl };
      third_biased = refl;
      third_corrected = refl;
      third_rounded = refl;
      fifty = refl;
      greatest_power = refl;
      too_large = refl;
      tiny = refl;
      tie_to_even = refl;
      tie_away = refl;
    }

pub words_computed :
    word_quotient NearestEven 0x22500001 0x22500003
    ∷ (word_quotient NearestEven 0x22700001 0x22500002
    ∷ (word_quotient NearestEven 0x43F00001 0x21F00001
    ∷ (word_quotient NearestEven 0x43F00001 0x21E00001
    ∷ (word_quotient NearestEven 0x6403FCFF 0x22500010
    ∷ (word_quotient NearestEven 0x00000001 0x22500002 ∷ (word_quotient NearestAway 0x00000001 0x22500002 ∷ [])))))) ≡ worked_words
unfolding declet_value declet_of number_of divided exponent_of distance least
words_computed = refl
