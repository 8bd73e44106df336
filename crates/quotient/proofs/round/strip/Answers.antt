use Rattle.std.proofs.Common.{◌≡◌, ℕ, ◌+◌, ◌*◌, ◌/◌, ◌%◌, ◌^◌, ap, arith, pow-add}
use Rattle.quotient.proofs.round.strip.Goals as goal

-- a zero less, and one exponent more
step : (c k v : ℕ) → c * 10 ^ k ≡ v → c % 10 ≡ 0 → (c / 10) * 10 ^ (k + 1) ≡ v
step c k v e z =
    let a : c ≡ 10 * (c / 10) = omega arith in
    let b : 10 ^ (k + 1) ≡ 10 ^ k * 10 = pow-add 10 k 1 in
    omega (arith, ap (λ x. x * 10 ^ k) a, ap (λ x. (c / 10) * x) b)

pub loop-k-preserved : goal.loop-k-preserved
loop-k-preserved c =
    let i = c.loop-k.invariant in
    (step c.loop-k.c c.loop-k.k _ i.0 (omega arith), omega arith, omega (arith, c.loop-k-test.true), i.3, omega arith)
