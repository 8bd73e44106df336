-- Assumes nothing.
use Rattle.std.proofs.Common.{ap, ◌∙◌}
use Rattle.divide.specs.Requests.{request_in}
use Rattle.divide.proofs.Kept.{request_kept}
use Rattle.divide.proofs.request.Request.read.Goals as goal

pub returns-clause-whole_line : goal.returns-clause-whole_line
returns-clause-whole_line c = λ line e. c.read_request.ensures ∙ ap request_in e ∙ request_kept line
