-- The range of a coefficient tells how many zeros are missing.
-- Assumes nothing.
use Rattle.std.proofs.Common.{arith}
use Rattle.divider.proofs.Scaling.{scaled}
use Rattle.divider.proofs.normal.scale.Goals as goal

pub returns-in-0-to-9 : goal.returns-in-0-to-9
returns-in-0-to-9 c = scaled _ _ 6 (omega arith) c.requires (omega arith) (λ l. omega arith) (λ p. omega arith) (omega arith)

pub returns-in-10-to-99 : goal.returns-in-10-to-99
returns-in-10-to-99 c = scaled _ _ 5 (omega arith) c.requires (omega arith) (λ l. omega arith) (λ p. omega arith) (omega arith)

pub returns-in-100-to-999 : goal.returns-in-100-to-999
returns-in-100-to-999 c = scaled _ _ 4 (omega arith) c.requires (omega arith) (λ l. omega arith) (λ p. omega arith) (omega arith)

pub returns-in-1000-to-9999 : goal.returns-in-1000-to-9999
returns-in-1000-to-9999 c = scaled _ _ 3 (omega arith) c.requires (omega arith) (λ l. omega arith) (λ p. omega arith) (omega arith)

pub returns-in-10000-to-99999 : goal.returns-in-10000-to-99999
returns-in-10000-to-99999 c = scaled _ _ 2 (omega arith) c.requires (omega arith) (λ l. omega arith) (λ p. omega arith) (omega arith)

pub returns-in-100000-to-999999 : goal.returns-in-100000-to-999999
returns-in-100000-to-999999 c = scaled _ _ 1 (omega arith) c.requires (omega arith) (λ l. omega arith) (λ p. omega arith) (omega arith)

pub returns-in_default : goal.returns-in_default
returns-in_default c = scaled _ _ 0 (omega arith) c.requires (omega arith) (λ l. omega arith) (λ p. omega arith) (omega arith)
