-- Both runs are what they ought to be, and the first is on a new card. Assumes nothing.
use Rattle.std.proofs.Common.{ap}
use Rattle.season.proofs.posting.Season.post.Goals as goal

pub returns-clause-answer : goal.returns-clause-answer
returns-clause-answer g c = search (c.tell.ensures, ap (λ e. e.ran.fault) c.run_in_mode-ran.ensures.ran, ap (λ e. e.state) c.run_in_mode.ensures.ran, c.open_card-alone.ensures)
