-- What a call does to a card is what it does to the account. Assumes nothing.
use Rattle.std.proofs.Common.{rules, ◌≡◌, ℕ, ◌<◌, Bool, true, false, cond, eqb, ltb, leb, List, length, Ok, Err, Result, sym, refl, ap, ◌∙◌, subst, inl, inr, mul-pos, arith}
use Rattle.std.proofs.lemmas.Int.{ints}
use Rattle.std.proofs.lemmas.Bool.{cases_lt, eqb-false}
use Rattle.refusals.specs.declared.Fault.{Fault}
use Rattle.rounding.specs.declared.mode.Mode.{Mode}
use Rattle.rounding.specs.declared.flags.Flags.{Flags}
use Rattle.rounding.specs.Flags.{raised_by_either}
use Rattle.decimal.specs.Numbers.{Datum, finite, infinite, quiet, signalling}
use Rattle.quotient.specs.Quotients.{decimal32, inexact_flags, quotient_bottom}
use Rattle.quotient.specs.Splits.{split_at, split_by}
use Rattle.quotient.proofs.Exponent.{tens_pos}
use Rattle.divider.specs.Drafts.{counted}
use Rattle.divider.specs.Exact.{Exact, exact_quotient, begun_quotient}
use Rattle.card.specs.Replies.{Reply, posted_exact, reply}
use Rattle.card.specs.Tallies.{Tally, added, cleared, lowered, opened, posted_steps, refused, with_raised}
use Rattle.refusals.specs.declared.Refusal.TheVariants.{CardFull}
use Rattle.runs.specs.Records.{Operands, record_quotient}
use Rattle.runs.specs.Runs.{record_posted, run_in}
use Rattle.runs.proofs.Follows.{Alike, EndsAlike, run_alike}
use Rattle.accounts.specs.Exact.{in_steps, is_large, is_whole_number}
use Rattle.accounts.specs.Account.{Standing, fresh, item_posted, posting, record_posting, with_flags, with_item, without_flags, without_items}
use Rattle.accounts.specs.Law.{Carries}

-- the calls that post nothing
pub fresh_carried : (s : ℕ) → Carries s fresh.standing (opened s)
fresh_carried s = search rules

module _ (s : ℕ) (a : Standing) (t : Tally) (h : Carries s a t) where
  pub raised_carried : (f : Flags) → Carries s (with_flags f a) (with_raised f t)
  raised_carried f = let flags : raised_by_either t.flags f ≡ raised_by_either a.flags f = ap (λ g. raised_by_either g f) h.flags in search rules

  pub lowered_carried : Carries s (without_flags a) (lowered t)
  lowered_carried = search rules

  pub cleared_carried : Carries s (without_items a) (cleared t)
  cleared_carried = search rules

  -- one item more
  added_carried : (m : Mode) (q : Exact) → 0 < q.bottom → Carries s (with_item m q a) (added m q.sign (split_by q.top q.bottom) t)
  added_carried m q pos-bottom =
      let k = h.totals in
      record {
        step = h.step;
        flags = ap (λ f. cond (is_whole_number q) f (raised_by_either f (inexact_flags false))) h.flags;
        totals = record {
          low_is_the_sum_of_floors = omega (arith, ints);
          figure_is_the_sum_of_values = omega (arith, ints);
          high_is_the_sum_of_ceilings = omega (arith, ints);
          posted_is_their_number = omega arith;
          near_counts_inexact_near = omega arith;
          far_counts_inexact_far = omega arith;
        };
        divided = (pos-bottom, h.divided);
      }

  -- the posting of a quotient on a card that counts n postings, in steps of 10^-k
  abbrev on_card : Mode → Exact → ℕ → ℕ → Reply Tally (Unit {0})
  on_card m q n k = reply (cond (leb 10000 n) (refused CardFull t) (posted_steps m q.sign (split_at decimal32 k q.top q.bottom) t))

  -- a posting is refused alike, or adds its item
  item_alike : (m : Mode) (q : Exact) → 0 < q.bottom → Alike (λ b c. Carries s c b) (on_card m q (length a.items) s) (item_posted m (in_steps s q) a)
  item_alike m q pos-bottom = by (leb 10000 (length a.items)) (is_large (in_steps s q)) refl refl
    where
      by : (full large : Bool) → leb 10000 (length a.items) ≡ full → is_large (in_steps s q) ≡ large
          → Alike (λ b c. Carries s c b) (on_card m q (length a.items) s) (item_posted m (in_steps s q) a)
      by true large e l = rw e (record { same = refl; kept = h })
      by false true e l = rw (e, l) (record { same = refl; kept = h })
      by false false e l = rw (e, l) (record { same = refl; kept = added_carried m (in_steps s q) (mul-pos pos-bottom (tens_pos _)) })

  pub posting_alike : (m : Mode) (e : Result Exact Fault) → ((q : Exact) → e ≡ Ok q → 0 < q.bottom) → Alike (λ b c. Carries s c b) (posted_exact m e t) (posting s m e a)
  posting_alike m (Err f) k = record { same = refl; kept = h }
  posting_alike m (Ok q) k =
      subst (λ n. Alike (λ b c. Carries s c b) (on_card m q n t.step) (item_posted m (in_steps s q) a)) (sym h.totals.posted_is_their_number)
      (subst (λ n. Alike (λ b c. Carries s c b) (on_card m q (length a.items) n) (item_posted m (in_steps s q) a)) (sym h.step)
      (item_alike m q (k q refl)))

-- an exact quotient has a divisor
finite_divided : (cx k : ℕ) (q r : Exact) (f : Fault) (z : Bool) → eqb cx 0 ≡ z → r.bottom ≡ quotient_bottom cx k → cond z (Err f) (Ok r) ≡ Ok q → 0 < q.bottom
finite_divided cx k q r f true e b h = cc
finite_divided cx k q r f false e b h =
    let is : r ≡ q = cc in
    let n : 0 < cx = elim (cases_lt 0 cx) [ inl l ↦ l | inr l ↦ absurd (eqb-false cx 0 e (omega arith)) ] in
    subst (λ d. 0 < d) (sym b ∙ ap (λ x. x.bottom) is) (mul-pos n (tens_pos k))

pub exact_divided : (y x : Datum) (q : Exact) → exact_quotient y x ≡ Ok q → 0 < q.bottom
exact_divided (finite s cy ey) (finite t cx ex) q h = finite_divided cx (counted ex) q _ _ (eqb cx 0) refl refl h
exact_divided (finite s cy ey) (infinite t) q h = cc
exact_divided (finite s cy ey) (quiet t p) q h = cc
exact_divided (finite s cy ey) (signalling t p) q h = cc
exact_divided (infinite s) x q h = cc
exact_divided (quiet s p) x q h = cc
exact_divided (signalling s p) x q h = cc

begun_divided : (claim : ℕ) (y x : Datum) (q : Exact) → begun_quotient claim y x ≡ Ok q → 0 < q.bottom
begun_divided claim y x q h = by (ltb claim 9) refl
  where
    by : (u : Bool) → ltb claim 9 ≡ u → 0 < q.bottom
    by true e = cc
    by false e = exact_divided y x q (rw e at h)

record_divided : (claim : ℕ) (o : Result Operands Fault) (q : Exact) → record_quotient claim o ≡ Ok q → 0 < q.bottom
record_divided claim (Err f) q h = cc
record_divided claim (Ok o) q h = begun_divided claim o.0 o.1 q h

-- so a run goes on alike
pub run_carried : {X : Type 0} (claim s : ℕ) (operands : X → Result Operands Fault) (r : Result Mode Fault) (xs : List X) (a : Standing) (t : Tally) → Carries s a t
    → EndsAlike (λ b c. Carries s c b) (run_in r (record_posted claim operands) xs t) (run_in r (record_posting claim s operands) xs a)
run_carried claim s operands r xs a t h =
    run_alike (λ b c. Carries s c b) (record_posted claim operands) (record_posting claim s operands)
    (λ m x b c k. posting_alike s c b k m (record_quotient claim (operands x)) (record_divided claim (operands x))) r xs t a h
