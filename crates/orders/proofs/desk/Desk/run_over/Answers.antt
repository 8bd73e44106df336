-- The run on the card is the run of the account.
-- Assumes nothing.
use Rattle.std.proofs.Common.{refl}
use Rattle.orders.proofs.Moves.{ran_follows}
use Rattle.orders.proofs.desk.Desk.run_over.Goals as goal

pub returns : goal.returns
returns g c =
    ran_follows (g.S.Source.claim c.args.source.now) g.R.Record.operands_or_fault c.args.mode c.args.records.now c.run-ran.ensures.ran c.run-ran.ensures.mode_restored refl
