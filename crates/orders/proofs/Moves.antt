-- What a call does to the desk is what it does to the account. Assumes nothing.
use Rattle.std.proofs.Common.{◌≡◌, ℕ, ◌+◌, ◌<◌, length, take, zero, suc, List, [], ◌∷◌, ◌++◌, get_or, set, ok_or, Some, None, Ok, Err, vec_items, vec_len, vec_capacity, Option, Result, sym, ap, ◌∙◌, subst, arith}
use Rattle.std.proofs.lemmas.List.Sums.{fold_more}
use Rattle.refusals.specs.declared.Fault.{Fault}
use Rattle.rounding.specs.Modes.{mode_numbered}
use Rattle.decimal.specs.Numbers.{Datum}
use Rattle.quotient.specs.Quotients.{decimal32, divided}
use Rattle.divider.specs.declared.draft.Draft.{Draft}
use Rattle.divider.specs.declared.outcome.Quotient.{Quotient}
use Rattle.divider.specs.declared.outcome.QuotientWord.{QuotientWord}
use Rattle.divider.specs.Drafts.{StandsFor, StandsForQuotient, begin_by}
use Rattle.divider.specs.Divisions.{number_quotient, outcome, under_sign, word_outcome}
use Rattle.divider.specs.Exact.{DraftOf, begun_quotient, exact_quotient}
use Rattle.divider.proofs.Exact.{draft_of, begun_exact, refused_alike}
use Rattle.card.specs.declared.card.Card.{Card}
use Rattle.card.specs.Replies.{Reply, posted_exact}
use Rattle.card.specs.Tallies.{After, Tally, posted_quotient, tally, with_raised}
use Rattle.runs.specs.declared.running.Ran.{Ran}
use Rattle.divider.specs.declared.pair.Pair.{Pair}
use Rattle.runs.specs.Records.{Operands, pair_operands}
use Rattle.runs.specs.Runs.{RunEnd, record_posted, run_in}
use Rattle.runs.proofs.Posted as posted
use Rattle.accounts.specs.declared.calls.Answer.TheVariants.{Done, Quotient as QuotientAnswer, Run}
use Rattle.accounts.specs.declared.calls.Call.{Call}
use Rattle.accounts.specs.declared.calls.Call.TheVariants.{Begin, SetMode}
use Rattle.accounts.specs.declared.calls.NotDone.{NotDone}
use Rattle.accounts.specs.declared.calls.NotDone.TheVariants.{NoDraft, Refused}
use Rattle.accounts.specs.Account.{divided as quotient_told}
use Rattle.accounts.specs.Account.{Account, CallOutcome, Course, Next, answered, begun, draft_at, draft_posted, draft_rounded, course, ended, fresh, onward, opened, posting, record_posting, with_flags}
use Rattle.accounts.specs.Law.{Carries}
use Rattle.accounts.proofs.Carried.{exact_divided, posting_alike, raised_carried, run_carried}
use Rattle.orders.specs.declared.desk.Desk.{Desk}
use Rattle.orders.specs.Desks.{Agrees, ComesTo, Follows, Hold, Holds, Moves, Runs, Taken}

-- drafts by their numbers
hold_at : (ds : List (Option Draft)) (os : List (Option Operands)) (k : ℕ) → Hold ds os → Holds (get_or ds k None) (get_or os k None)
hold_at [] [] k h = tt
hold_at [] (o ∷ os) k h = absurd h
hold_at (d ∷ ds) [] k h = absurd h
hold_at (d ∷ ds) (o ∷ os) zero h = h.0
hold_at (d ∷ ds) (o ∷ os) (suc k) h = hold_at ds os k h.1

hold_set : (ds : List (Option Draft)) (os : List (Option Operands)) (k : ℕ) → Hold ds os → Hold (set ds k None) (set os k None)
hold_set [] [] k h = tt
hold_set [] (o ∷ os) k h = absurd h
hold_set (d ∷ ds) [] k h = absurd h
hold_set (d ∷ ds) (o ∷ os) zero h = (tt, h.1)
hold_set (d ∷ ds) (o ∷ os) (suc k) h = (h.0, hold_set ds os k h.1)

hold_push : (ds : List (Option Draft)) (os : List (Option Operands)) (d : Option Draft) (o : Option Operands) → Hold ds os → Holds d o → Hold (ds ++ (d ∷ [])) (os ++ (o ∷ []))
hold_push [] [] d o h k = (k, tt)
hold_push [] (p ∷ os) d o h k = absurd h
hold_push (e ∷ ds) [] d o h k = absurd h
hold_push (e ∷ ds) (p ∷ os) d o h k = (h.0, hold_push ds os d o h.1 k)

-- A number's draft is taken; `told` is what becomes of the account by what was there.
module _ {number : ℕ} {k l : Desk} {r : Result Draft NotDone} (t : Taken number k r l) (told : ℕ → Option Operands → Account → Next) where
  left : (s : ℕ) (a : Account) → Agrees s a k → Agrees s (ended number a) l
  left s a g =
      record {
        mode = ap (λ x. x.mode) t.setting ∙ g.mode;
        carries = subst (λ c. Carries s a.standing (tally c)) (sym t.card) g.carries;
        drafts = subst (λ ds. Hold ds (set a.drafts number None)) (sym t.drafts) (hold_set (vec_items k.begun) a.drafts number g.drafts);
      }

  -- the account has as much at that number
  beside : (s : ℕ) (a : Account) → Agrees s a k → (p : Option Draft) → get_or (vec_items k.begun) number None ≡ p → Holds p (draft_at number a)
  beside s a g p e = subst (λ x. Holds x (draft_at number a)) e (hold_at (vec_items k.begun) a.drafts number g.drafts)

  pub none_open : {e : NotDone} → r ≡ Err e → {o : CallOutcome} → o ≡ Err e → ((s : ℕ) (a : Account) → told s None a ≡ record { outcome = Err NoDraft; account = a })
      → Moves (λ s a. told s (draft_at number a) (ended number a)) k o l
  none_open {e} h {o} i f =
      record {
        follows = λ s a g. by s a (draft_at number a) g (beside s a g None was.0);
        cap = t.cap;
        len = omega (arith, t.len);
      }
    where
      was : (get_or (vec_items k.begun) number None ≡ None) × (e ≡ NoDraft)
      was = let was : ok_or (get_or (vec_items k.begun) number None) NoDraft ≡ Err e = sym t.draft ∙ h in grind arith

      by : (s : ℕ) (a : Account) (q : Option Operands) → Agrees s a k → Holds None q → ComesTo s (told s q (ended number a)) o l
      by s a None g x = subst (λ n. ComesTo s n o l) (sym (f s (ended number a))) (record { outcome = i ∙ ap (λ y. Err y) was.1; agrees = left s a g })
      by s a (Some p) g x = absurd x

  pub one_open : {d : Draft} → r ≡ Ok d → {o : CallOutcome} {m : Desk} → m.begun ≡ l.begun
      → ((s : ℕ) (a : Account) → Agrees s a l → (p : Operands) → DraftOf d p.0 p.1 → ComesTo s (told s (Some p) a) o m)
      → Moves (λ s a. told s (draft_at number a) (ended number a)) k o m
  one_open {d} h {o} {m} v f =
      record {
        follows = λ s a g. by s a (draft_at number a) g (beside s a g (Some d) (let was : ok_or (get_or (vec_items k.begun) number None) NoDraft ≡ Ok d = sym t.draft ∙ h in grind arith));
        cap = ap (λ x. vec_capacity x) v ∙ t.cap;
        len = omega (arith, t.len, ap (λ x. vec_len x) v);
      }
    where
      by : (s : ℕ) (a : Account) (q : Option Operands) → Agrees s a k → Holds (Some d) q → ComesTo s (told s q (ended number a)) o m
      by s a None g x = absurd x
      by s a (Some p) g x = f s (ended number a) (left s a g) p x

-- a draft of p is finished on a desk that agrees with the account
module _ {s : ℕ} {a : Account} {l : Desk} (g : Agrees s a l) (p : Operands) (d : Draft) (h : DraftOf d p.0 p.1) where
  pub posted_comes : (r : Result (Unit {0}) Fault) (c : Card) {o : CallOutcome} → o ≡ answered r
      → ((n m : ℕ) → StandsFor d n m → ◌≡◌ {A = After (Unit {0})} (record { answer = r; card = tally c }) (posted_quotient l.setting.mode d.sign n m (tally l.card)))
      → ComesTo s (draft_posted s (Some p) a) o (record { setting = l.setting; card = c; begun = l.begun })
  posted_comes r c i e =
      let q = exact_quotient p.0 p.1 in
      let b : ◌≡◌ {A = Reply Tally (Unit {0})} (record { answer = r; state = tally c }) (posted_exact a.mode q (tally l.card)) =
      posted.draft_posted l.setting.mode (tally l.card) d p.0 p.1 _ h e
      ∙ ap (λ x. posted_exact l.setting.mode x (tally l.card)) (sym h.is) ∙ ap (λ m. posted_exact m q (tally l.card)) g.mode in
      let alike = posting_alike s a.standing (tally l.card) g.carries a.mode q (exact_divided p.0 p.1) in
      record {
        outcome = i ∙ ap (λ (x : Reply Tally (Unit {0})). answered x.answer) b ∙ ap answered alike.same;
        agrees = record {
          mode = g.mode;
          carries = subst (λ (x : Reply Tally (Unit {0})). Carries s (posting s a.mode q a.standing).state x.state) (sym b) alike.kept;
          drafts = g.drafts;
        };
      }

  pub rounded_comes : (r : Quotient) (w : QuotientWord) (c : Card) → w ≡ word_outcome (outcome r)
      → ((n m : ℕ) → StandsFor d n m → outcome r ≡ under_sign d.sign (divided decimal32 l.setting.mode d.sign n m d.ideal))
      → tally c ≡ with_raised r.flags (tally l.card)
      → ComesTo s (draft_rounded (Some p) a) (Ok (QuotientAnswer w)) (record { setting = l.setting; card = c; begun = l.begun })
  rounded_comes r w c v e f =
      let is : outcome r ≡ number_quotient a.mode p.0 p.1 =
      e h.exact.top h.exact.bottom h.stands ∙ h.rounds l.setting.mode ∙ ap (λ m. number_quotient m p.0 p.1) g.mode in
      subst (λ o. ComesTo s (quotient_told (Ok (word_outcome o)) a) (Ok (QuotientAnswer w)) (record { setting = l.setting; card = c; begun = l.begun })) is
      (record {
        outcome = ap (λ q. Ok (QuotientAnswer q)) v;
        agrees = record {
          mode = g.mode;
          carries = subst (Carries s (with_flags r.flags a.standing)) (sym f) (raised_carried s a.standing (tally l.card) g.carries r.flags);
          drafts = g.drafts;
        };
      })

-- A draft is begun, or refused, for the numbers y and x that a pair of words is read as, and takes a place.
module _ (claim : ℕ) (reciprocal : ℕ → ℕ) {k l : Desk} (pair : Pair) {y x : Datum} (are : ◌≡◌ {A = Operands} (y, x) (pair_operands pair)) (setting : l.setting ≡ k.setting) (card : l.card ≡ k.card) (cap : vec_capacity l.begun ≡ vec_capacity k.begun) (len : vec_len l.begun ≡ vec_len k.begun + 1) where
  pushed : (d : Option Draft) → vec_items l.begun ≡ vec_items k.begun ++ (d ∷ []) → (o : CallOutcome) → o ≡ answered (begun_quotient claim y x) → Holds d (opened (begun_quotient claim y x) (y, x))
      → Follows claim (Begin pair) k o l
  pushed d e o i h =
      record {
        follows = λ s a g. subst (λ p. ComesTo s (begun claim p a) o l) are (record {
          outcome = i;
          agrees = record {
            mode = ap (λ z. z.mode) setting ∙ g.mode;
            carries = subst (λ z. Carries s a.standing (tally z)) (sym card) g.carries;
            drafts = subst (λ ds. Hold ds (a.drafts ++ (opened (begun_quotient claim y x) (y, x) ∷ []))) (sym e) (hold_push (vec_items k.begun) a.drafts d _ g.drafts h);
          };
        });
        cap = cap;
        len = omega (arith, len);
      }

  pub begun_follows : (d : Draft) → Ok d ≡ begin_by claim reciprocal y x → StandsForQuotient d y x
      → vec_items l.begun ≡ vec_items k.begun ++ (Some d ∷ []) → Follows claim (Begin pair) k (Ok Done) l
  begun_follows d h t e =
      let f = draft_of claim reciprocal d y x h t in
      let b = begun_exact claim reciprocal d y x h ∙ f.is in
      pushed (Some d) e (Ok Done) (ap answered (sym b)) (subst (λ r. Holds (Some d) (opened r (y, x))) (sym b) f)

  pub refused_follows : (f : Fault) → Err f ≡ begin_by claim reciprocal y x → {e : NotDone} → e ≡ Refused f
      → vec_items l.begun ≡ vec_items k.begun ++ (None ∷ []) → Follows claim (Begin pair) k (Err e) l
  refused_follows f h {e} is v =
      let b = refused_alike claim reciprocal f y x h in
      pushed None v (Err e) (ap (λ n. Err n) is ∙ ap answered (sym b)) (subst (λ r. Holds None (opened r (y, x))) (sym b) tt)

-- a run goes over its records
pub ran_follows : {X : Type 0} (claim : ℕ) (operands : X → Result Operands Fault) (mode : ℕ) (xs : List X) {k l : Desk} {r : Ran}
    → ◌≡◌ {A = RunEnd Tally} (record { ran = r; state = tally l.card }) (run_in (mode_numbered mode) (record_posted claim operands) xs (tally k.card))
    → l.setting.mode ≡ k.setting.mode → l.begun ≡ k.begun → Runs claim operands mode xs k (Ok (Run r)) l
ran_follows claim operands mode xs {k} {l} {r} e m v =
    record {
      follows = λ s a g.
          let alike = run_carried claim s operands (mode_numbered mode) xs a.standing (tally k.card) g.carries in
          record {
            outcome = ap (λ (x : RunEnd Tally). Ok (Run x.ran)) e ∙ ap (λ x. Ok (Run x)) alike.same;
            agrees = record {
              mode = m ∙ g.mode;
              carries = subst (λ (x : RunEnd Tally). Carries s (run_in (mode_numbered mode) (record_posting claim s operands) xs a.standing).state x.state) (sym e) alike.kept;
              drafts = subst (λ b. Hold (vec_items b) a.drafts) (sym v) g.drafts;
            };
          };
      cap = ap (λ b. vec_capacity b) v;
      len = omega (arith, ap (λ b. vec_len b) v);
    }

-- a call that is this one, over a source of this claim or of any
pub of_call : (claim : ℕ) {c call : Call} {k l : Desk} {o : CallOutcome} → c ≡ call → Follows claim call k o l → Follows claim c k o l
of_call claim {c} {call} {k} {l} {o} e f = subst (λ x. Follows claim x k o l) (sym e) f

pub of_any : (claim : ℕ) {c call : Call} {k l : Desk} {o : CallOutcome} → c ≡ call → ((n : ℕ) → Follows n call k o l) → Follows claim c k o l
of_any claim e f = of_call claim e (f claim)

-- one call more of an order
pub one_more : (claim s : ℕ) (calls : List Call) (i : ℕ) → i < length calls → (k l : Desk) (os ps : List CallOutcome) (o : CallOutcome)
    → Agrees s (course claim s (take i calls)).account k → os ≡ (course claim s (take i calls)).outcomes → Follows claim (get_or calls i (SetMode 0)) k o l → ps ≡ os ++ (o ∷ [])
    → Agrees s (course claim s (take (i + 1) calls)).account l × (ps ≡ (course claim s (take (i + 1) calls)).outcomes)
one_more claim s calls i h k l os ps o a e f v =
    let p : Course = course claim s (take i calls) in
    let more : course claim s (take (i + 1) calls) ≡ onward claim s p (get_or calls i (SetMode 0)) = fold_more (onward claim s) (record { account = fresh; outcomes = [] }) calls i (SetMode 0) h in
    let g = f.follows s p.account a in
    (subst (λ (x : Course). Agrees s x.account l) (sym more) g.agrees, v ∙ ap (λ x. x ++ (o ∷ [])) e ∙ ap (λ x. p.outcomes ++ (x ∷ [])) g.outcome ∙ ap (λ (x : Course). x.outcomes) (sym more))
