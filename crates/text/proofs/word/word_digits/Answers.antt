-- Assumes nothing.
use Rattle.std.proofs.Common.{◌≡◌, ◌^◌, ◌<◌, ap, ◌∙◌, arith}
use Rattle.std.proofs.lemmas.Grind.{elements}
use Rattle.text.specs.Texts.{word_in, word_text}
use Rattle.text.proofs.Digits.{word_back}
use Rattle.text.proofs.word.word_digits.Goals as goal

pub returns-clause-same_word : goal.returns-clause-same_word
returns-clause-same_word c =
    let digits : c.from_fn.result ≡ word_text c.args.word = grind (arith, elements) in
    let small : c.args.word < 2 ^ 32 = omega (arith, c.ranges.word) in
    ap word_in digits ∙ word_back c.args.word small
