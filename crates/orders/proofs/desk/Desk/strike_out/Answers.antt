-- The draft that was open has ended.
-- Assumes nothing.
use Rattle.std.proofs.Common.{Err, refl, ap, ◌∙◌}
use Rattle.std.proofs.lemmas.Result.{err_from_is_err_and}
use Rattle.accounts.specs.Account.{draft_struck_out}
use Rattle.orders.proofs.Moves.{none_open, one_open}
use Rattle.orders.proofs.desk.Desk.strike_out.Goals as goal

pub returns-in_err-draft : goal.returns-in_err-draft
returns-in_err-draft c = λ claim.
    let e = err_from_is_err_and c.from_residual.result c.from_residual.ensures.1 in
    none_open c.take.ensures (λ s. draft_struck_out) c.in_err-draft.was (e.1 ∙ ap (λ n. Err n) e.2) (λ s a. refl)

pub returns : goal.returns
returns c = λ claim. one_open c.take.ensures (λ s. draft_struck_out) c.in_ok-draft.was refl (λ s a g p h. record { outcome = refl; agrees = g })
