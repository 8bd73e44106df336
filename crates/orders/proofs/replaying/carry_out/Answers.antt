-- Call by call the desk agrees with the account.
-- Assumes nothing.
use Rattle.std.proofs.Common.{◌≡◌, ℕ, List, vec_items, vec_len, vec_capacity, sym, ap, ◌∙◌, subst, arith}
use Rattle.std.proofs.lemmas.List.{nil_from_length, take_all}
use Rattle.reciprocal.proofs.Layered.{layers_approximate}
use Rattle.card.specs.Tallies.{tally}
use Rattle.accounts.specs.declared.calls.Call.{Call}
use Rattle.accounts.specs.Account.{course}
use Rattle.accounts.specs.Law.{Carries}
use Rattle.accounts.proofs.Beside.{modes_mean}
use Rattle.accounts.proofs.Sums.{bounds}
use Rattle.orders.specs.Desks.{Agrees}
use Rattle.orders.proofs.Moves.{one_more}
use Rattle.orders.proofs.replaying.carry_out.Goals as goal

pub loop-call-init : goal.loop-call-init
loop-call-init g c =
    let v = c.args.room.outcomes in
    let room = c.new-desk.ensures.room in
    let len : vec_len c.new-desk.result.begun ≡ vec_len c.args.room.drafts = ap (λ x. vec_len x) room in
    let cap : vec_capacity c.new-desk.result.begun ≡ vec_capacity c.args.room.drafts = ap (λ x. vec_capacity x) room in (
      c.new-desk.ensures.agrees c.args.card.step c.requires.new,
      nil_from_length (vec_items v) (omega (arith, v.ok.0, c.args.room.no_outcomes)),
      omega (arith, len, c.args.room.no_drafts),
      c.args.room.no_outcomes,
      omega (arith, cap, c.requires.room),
      omega (arith, c.requires.room),
    )

pub loop-call-preserved : goal.loop-call-preserved
loop-call-preserved g c =
    let l = c.loop-call in
    let r = one_more (g.S.Source.claim c.args.source.now) c.args.card.step c.args.calls.now l.call-index c.loop-call-test.true l.desk c.perform-outcome.new.self (vec_items l.outcomes) (vec_items c.push_reserved.new.self) c.perform-outcome.result
    l.invariant.0 l.invariant.1 c.perform-outcome.ensures c.push_reserved.ensures.items in (
      r.0,
      r.1,
      omega (arith, c.perform-outcome.ensures.len),
      omega (arith, c.push_reserved.ensures.len),
      omega (arith, c.perform-outcome.ensures.cap),
      omega (arith, c.push_reserved.ensures.capacity),
    )

pub returns : goal.returns
returns g c =
    let claim : ℕ = g.S.Source.claim c.args.source.now in
    let s : ℕ = c.args.card.step in
    let calls : List Call = c.args.calls.now in
    let done = take_all c.loop-call.call-index calls c.loop-call-test.false in
    let a = subst (λ (l : List Call). Agrees s (course claim s l).account c.loop-call.desk) done c.loop-call.invariant.0 in
    let t = subst (λ d. Carries s (course claim s calls).account.standing (tally d)) (sym c.close.ensures) a.carries in
    record {
      answers = c.loop-call.invariant.1 ∙ ap (λ (l : List Call). (course claim s l).outcomes) done;
      step = t.step;
      flags = t.flags;
      totals = t.totals;
      bounds = bounds (course claim s calls).account.standing.items (tally c.close.result) t.divided t.totals;
      modes = modes_mean;
      layers = layers_approximate;
    }
