-- Each run is the definition's, which computes.
-- Assumes nothing.
use Rattle.std.proofs.Common.{◌∙◌}
use Rattle.accounts.proofs.Computed.{computed, postings_computed, round_computed}
use Rattle.accounts.proofs.worked.worked_lines.Goals as goal

pub returns : goal.returns
returns c =
    record {
      totals = λ i. ((c.totals_of.ensures ∙ postings_computed) i, (c.totals_of-2.ensures ∙ round_computed) i);
      definitions = computed;
    }
