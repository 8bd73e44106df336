-- Assumes nothing.
use Rattle.std.proofs.Common.{length}
use Rattle.season.proofs.lines.without_margins.Given as goal

abbrev pub decreases-loop-text : goal.decreases-loop-text
decreases-loop-text l = length l.text

abbrev pub decreases-loop-text-2 : goal.decreases-loop-text-2
decreases-loop-text-2 l = length l.text
