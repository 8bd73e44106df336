-- The table is the rule at each of its twenty places, by one computed test.
-- Assumes nothing.
use Rattle.std.proofs.Common.{ℕ, ◌^◌, arith}
use Rattle.std.proofs.lemmas.List.FromFn.{get_or-map-range_with_len}
use Rattle.reciprocal.proofs.powers.power_of_ten.Goals as goal

pub returns-clause-value : goal.returns-clause-value
returns-clause-value c = let k : ℕ = c.args.exponent in get_or-map-range_with_len (λ n. 10 ^ n) 0 20 k k 0 (omega arith) (omega arith)
