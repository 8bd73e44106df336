-- What a draft of the program holds, and what it keeps. Assumes nothing.
use Rattle.std.specs.Prelude.{◌+◌, ◌*◌, ◌<◌, ◌≤◌}
use Rattle.divider.specs.Begun.{Begun}
use Rattle.divider.specs.declared.draft.Draft.TheInside.{Inside}

abbrev pub held : Inside → Begun
held d = record { sign = d.sign; widened = d.widened; divisor = d.divisor; biased = d.biased; place = d.place; ideal = d.ideal; finished = d.finished }

-- the biased quotient is the quotient or one more; the divisor has seven digits, and the quotient eight, or it is 0
pub record Keeps (d : Begun) : Type 0 where
  pub some : 0 < d.biased
  pub under : d.biased * d.divisor ≤ d.widened + d.divisor
  pub over : d.widened < d.biased * d.divisor + d.divisor
  pub seven : (1000000 ≤ d.divisor) × (d.divisor < 10000000)
  pub least : 0 < d.widened → 10000000 * d.divisor ≤ d.widened
  pub most : d.widened ≤ 99999990 * d.divisor
  pub far : d.place ≤ 395
