-- Short division approximates at every claim.
-- Assumes nothing.
use Rattle.std.specs.Prelude.{ℕ, ◌+◌, ◌-◌, ◌*◌, ◌/◌, ◌^◌, ◌<◌, ◌≤◌}
use Rattle.std.proofs.Common.{arith, div-mul-le_self}
use Rattle.std.proofs.Math.Nat.{one-le-pow, lt-div-mul-add}
use Rattle.reciprocal.specs.Sources.{Approximates, short_reciprocal}

pub approximates : (G D : ℕ) → 0 < D → Approximates G D (short_reciprocal G D)
approximates G D d =
    let N : ℕ = 10 ^ (G + 8) in
    let some : 1 ≤ N = one-le-pow (G + 8) 10 (omega arith) in
    let low : (N - 1) / D * D ≤ N - 1 = div-mul-le_self (N - 1) D in
    let high : N - 1 < (N - 1) / D * D + D = lt-div-mul-add d in
    record { below = omega arith; near = omega arith }
