-- The draft that was open is rounded as its two numbers are.
-- Assumes nothing.
use Rattle.std.proofs.Common.{Err, refl, ap, ◌∙◌}
use Rattle.std.proofs.lemmas.Result.{err_from_is_err_and}
use Rattle.accounts.specs.Account.{draft_rounded}
use Rattle.orders.proofs.Moves.{none_open, one_open, rounded_comes}
use Rattle.orders.proofs.desk.Desk.round.Goals as goal

pub returns-in_err-draft : goal.returns-in_err-draft
returns-in_err-draft c = λ claim.
    let e = err_from_is_err_and c.from_residual.result c.from_residual.ensures.1 in
    none_open c.take.ensures (λ s. draft_rounded) c.in_err-draft.was (e.1 ∙ ap (λ n. Err n) e.2) (λ s a. refl)

pub returns : goal.returns
returns c = λ claim.
    let q = c.round-quotient in
    one_open c.take.ensures (λ s. draft_rounded) c.in_ok-draft.was refl
    (λ s a g p h. rounded_comes g p c.in_ok-draft.draft h q.result c.into.result q.new.self c.into.ensures q.ensures.value q.ensures.raised)
