use Rattle.std.proofs.Common.{◌≡◌, ◌*◌, ◌^◌, ◌≤◌, min, max}
use Rattle.quotient.proofs.round.strip.Given as goal

abbrev pub invariant-loop-k : goal.invariant-loop-k
invariant-loop-k l =
    (l.c * 10 ^ l.k ≡ l.coefficient * 10 ^ l.exponent) × (l.exponent ≤ l.k) × (l.k ≤ max l.exponent l.most) × (l.most ≡ min l.ideal 191) × (l.c ≤ l.coefficient)
