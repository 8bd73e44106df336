-- Words that are worked out by hand: one computed test of the definitions. Assumes nothing.
use Rattle.std.specs.Prelude.{◌≡◌, ℕ, true, false, List, [], ◌∷◌, pos, negsuc}
use Rattle.rounding.specs.declared.sign.Sign.TheVariants.{Plus, Minus}
use Rattle.decimal.specs.Declets.{declet_value, declet_of}
use Rattle.decimal.specs.Numbers.{finite, infinite, quiet, signalling}
use Rattle.decimal.specs.Words.{decimal32, number_of, word_of, canonical}

-- 1E0, 9999999E90 and -125E-3
abbrev pub worked_words : List ℕ
worked_words = 0x22500001 ∷ (0x77F3FCFF ∷ (0xA22000A5 ∷ []))

pub record WorkedWords : Type 0 where
  pub one : word_of decimal32 (finite Plus 1 (pos 0)) ≡ 0x22500001
  pub one_read : number_of decimal32 0x22500001 ≡ finite Plus 1 (pos 0)
  pub greatest : word_of decimal32 (finite Plus 9999999 (pos 90)) ≡ 0x77F3FCFF
  pub greatest_read : number_of decimal32 0x77F3FCFF ≡ finite Plus 9999999 (pos 90)
  pub eighth : word_of decimal32 (finite Minus 125 (negsuc 2)) ≡ 0xA22000A5
  pub eighth_read : number_of decimal32 0xA22000A5 ≡ finite Minus 125 (negsuc 2)
  -- 999 has four declets, of which one is written
  pub nines_read : declet_value 0x3FF ≡ 999
  pub nines : declet_of 999 ≡ 0x0FF
  -- what follows the combination of an infinity is ignored, and so are five bits of a NaN
  pub infinite_read : number_of decimal32 0xF8ABCDEF ≡ infinite Minus
  pub infinite_written : word_of decimal32 (infinite Minus) ≡ 0xF8000000
  pub quiet_read : number_of decimal32 0x7DF00001 ≡ quiet Plus 1
  pub quiet_written : word_of decimal32 (quiet Plus 0) ≡ 0x7C000000
  pub signalling_read : number_of decimal32 0xFE03FCFF ≡ signalling Minus 999999
  pub signalling_written : word_of decimal32 (signalling Minus 999999) ≡ 0xFE03FCFF
  pub canonical_one : canonical decimal32 0x22500001 ≡ true
  pub not_canonical : canonical decimal32 0xF8ABCDEF ≡ false
