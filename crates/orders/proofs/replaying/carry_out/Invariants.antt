use Rattle.std.proofs.Common.{◌≡◌, ◌≤◌, length, take, vec_items, vec_len, vec_capacity}
use Rattle.accounts.specs.Account.{course}
use Rattle.orders.specs.Desks.{Agrees}
use Rattle.orders.proofs.replaying.carry_out.Given as goal

-- the desk agrees with the account of the calls so far, and each has a place
abbrev pub invariant-loop-call : goal.invariant-loop-call
invariant-loop-call g l =
    let so_far = course (g.S.Source.claim l.source) l.fn.card.step (take l.call-index l.calls) in
    Agrees l.fn.card.step so_far.account l.desk
    × (vec_items l.outcomes ≡ so_far.outcomes)
    × (vec_len l.desk.begun ≤ l.call-index)
    × (vec_len l.outcomes ≡ l.call-index)
    × (length l.calls ≤ vec_capacity l.desk.begun)
    × (length l.calls ≤ vec_capacity l.outcomes)
