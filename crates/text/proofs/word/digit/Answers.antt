-- A power of sixteen below the eighth fits, and is not zero.
-- Assumes nothing.
use Rattle.std.proofs.Common.{◌^◌, ◌≤◌, arith}
use Rattle.std.proofs.Math.Nat.{one-le-pow, pow-le-pow_right}
use Rattle.text.proofs.word.digit.Goals as goal

pub pow-requires : goal.pow-requires
pow-requires c =
    let seven : c.args.behind ≤ 7 = omega arith in
    let most : 16 ^ c.args.behind ≤ 16 ^ 7 = pow-le-pow_right (omega arith) seven in
    omega arith

pub nonzero_div-word : goal.nonzero_div-word
nonzero_div-word c = omega (arith, one-le-pow c.args.behind 16 (omega arith))
