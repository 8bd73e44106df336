-- What a canonical word is written as again, by the law of any format.
-- Assumes nothing.
use Rattle.std.proofs.Common.{◌^◌, ◌<◌, arith}
use Rattle.decimal.proofs.Single.{same_word}
use Rattle.decimal.proofs.words.read_word.Goals as goal

pub returns-clause-same_word : goal.returns-clause-same_word
returns-clause-same_word c = let h : c.args.word < 2 ^ 32 = omega arith in same_word _ c.args.word h c.number.ensures
