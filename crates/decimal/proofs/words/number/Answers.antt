-- The fields that the code takes out are those of the definition.
-- Assumes nothing.
use Rattle.std.proofs.Common.{rules}
use Rattle.decimal.specs.Words.{number_of}
use Rattle.decimal.proofs.words.number.Goals as goal

pub returns : goal.returns
unfolding number_of
returns c = search rules
