-- Each word is the definition's, which computes.
-- Assumes nothing.
use Rattle.std.proofs.Common.{[], ◌∷◌, ◌∙◌}
use Rattle.decimal.proofs.Computed.{computed}
use Rattle.decimal.proofs.worked.worked_lines.Goals as goal

pub returns : goal.returns
returns c =
    let one = c.write_word.ensures.word ∙ computed.one in
    let greatest = c.write_word-2.ensures.word ∙ computed.greatest in
    let eighth = c.write_word-3.ensures.word ∙ computed.eighth in
    record { words = λ i. one i ∷ (greatest i ∷ (eighth i ∷ [])); definitions = computed }
