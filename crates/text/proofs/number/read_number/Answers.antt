-- Nine digits are a number below their count's power of ten.
-- Assumes nothing.
use Rattle.std.proofs.Common.{◌^◌, ◌<◌, IfSome, sym, subst, arith}
use Rattle.text.proofs.Numerals.{digits_below}
use Rattle.text.proofs.number.read_number.Goals as goal

pub returns-in-1-to-9-clause-below : goal.returns-in-1-to-9-clause-below
returns-in-1-to-9-clause-below c = subst (λ o. IfSome o (λ n. n < 10 ^ 9)) (sym c.read_digits.ensures) (digits_below 10 c.args.digits.now 9 (omega arith) (omega arith))
