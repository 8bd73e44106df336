-- Assumes nothing.
use Rattle.std.proofs.Common.{rules, fold, Some, ap, ◌∙◌, arith}
use Rattle.text.proofs.Folds.{and_step, folds}
use Rattle.text.specs.Numerals.{with_digit}
use Rattle.text.proofs.Numerals.{all_read}
use Rattle.text.proofs.number.read_digits.Goals as goal

pub returns : goal.returns
returns c =
    folds _ (with_digit c.args.radix) _ _ (λ b x r h k. search rules) _ _ _ _ c.try_fold.ensures.ran
    ∙ ap (fold (and_step (with_digit c.args.radix)) (Some 0)) c.iter.ensures.rest
    ∙ all_read c.args.radix c.args.digits.now (omega arith) c.requires.few
