-- What a written word is read as, by the law of any format.
-- Assumes nothing.
use Rattle.decimal.proofs.Single.{same_number, is_canonical}
use Rattle.decimal.proofs.words.write_word.Goals as goal

pub returns-clause-same_number : goal.returns-clause-same_number
returns-clause-same_number c = same_number c.args.number.now _ c.word.ensures

pub returns-clause-canonical : goal.returns-clause-canonical
returns-clause-canonical c = is_canonical c.args.number.now _ c.word.ensures
