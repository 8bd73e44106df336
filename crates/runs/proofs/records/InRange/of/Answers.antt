-- The limits are tested one by one.
-- Assumes nothing.
use Rattle.std.proofs.Common.{arith}
use Rattle.std.proofs.lemmas.Bool.Decides.{nat_tests}
use Rattle.runs.proofs.records.InRange.of.Goals as goal

pub returns-then-not-in_range-clause-refused : goal.returns-then-not-in_range-clause-refused
returns-then-not-in_range-clause-refused c = grind (arith, nat_tests)
