use Rattle.std.proofs.Common.{vec_len}
use Rattle.orders.proofs.desk.Desk.close.Given as goal

abbrev pub decreases-loop-place : goal.decreases-loop-place
decreases-loop-place l = vec_len l.begun
