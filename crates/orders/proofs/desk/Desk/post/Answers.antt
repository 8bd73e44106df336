-- The draft that was open is posted as the exact quotient of its two numbers.
-- Assumes nothing.
use Rattle.std.proofs.Common.{Err, refl, sym, ap, ◌∙◌}
use Rattle.std.proofs.lemmas.Result.{err_from_is_err_and}
use Rattle.accounts.specs.Account.{answered, draft_posted}
use Rattle.orders.proofs.Moves.{none_open, one_open, posted_comes}
use Rattle.orders.proofs.desk.Desk.post.Goals as goal

pub returns-in_err-draft : goal.returns-in_err-draft
returns-in_err-draft c = λ claim.
    let e = err_from_is_err_and c.from_residual.result c.from_residual.ensures.1 in
    none_open c.take.ensures draft_posted c.in_err-draft.was (e.1 ∙ ap (λ n. Err n) e.2) (λ s a. refl)

pub returns-in_err-post : goal.returns-in_err-post
returns-in_err-post c = λ claim.
    let e = err_from_is_err_and c.from_residual-in_err-post.result c.from_residual-in_err-post.ensures.1 in
    one_open c.take.ensures draft_posted c.in_ok-draft.was refl
    (λ s a g p h. posted_comes g p c.in_ok-draft.draft h c.post.result c.post.new.self (e.1 ∙ ap (λ n. Err n) e.2 ∙ ap answered (sym c.in_err-post.was)) c.post.ensures)

pub returns : goal.returns
returns c = λ claim.
    one_open c.take.ensures draft_posted c.in_ok-draft.was refl
    (λ s a g p h. posted_comes g p c.in_ok-draft.draft h c.post.result c.post.new.self (ap answered (sym c.in_ok-post.was)) c.post.ensures)
