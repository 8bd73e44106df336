-- The worked words, by computing. Assumes nothing.
use Rattle.std.proofs.Common.{refl}
use Rattle.decimal.specs.Declets.{declet_value, declet_of, canonical_declet}
use Rattle.decimal.specs.Words.{number_of, canonical}
use Rattle.decimal.specs.Worked.{WorkedWords}

pub computed : WorkedWords
unfolding declet_value declet_of canonical_declet number_of canonical
computed =
    record {
      one = refl;
      one_read = refl;
      greatest = refl;
      greatest_read = refl;
      eighth = refl;
      eighth_read = refl;
      nines_read = refl;
      nines = refl;
      infinite_read = refl;
      infinite_written = refl;
      quiet_read = refl;
      quiet_written = refl;
      signalling_read = refl;
      signalling_written = refl;
      canonical_one = refl;
      not_canonical = refl;
    }
