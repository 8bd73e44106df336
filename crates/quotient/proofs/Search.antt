-- The search finds the least, which is one. Assumes nothing.
use Rattle.std.proofs.Common.{◌≡◌, ℕ, zero, suc, ◌<◌, Bool, false, sym, ap, ◌∙◌, subst, inl, inr, arith}
use Rattle.std.proofs.lemmas.Bool.{cond-true, cond-false, cases_Bool}
use Rattle.quotient.specs.Search.{least, Least}

pub least_is : (n : ℕ) (test : ℕ → Bool) (k : ℕ) → Least n test k → least n test ≡ k
unfolding least
least_is zero test k l = omega arith
least_is (suc n) test zero l = cond-true (test 0) _ _ (l.found (omega arith))
least_is (suc n) test (suc k) l =
    cond-false (test 0) _ _ (l.before 0 (omega arith)) ∙
    ap suc (least_is n (λ j. test (suc j)) k (record { within = omega arith; found = λ h. l.found (omega arith); before = λ j h. l.before (suc j) (omega arith) }))

pub least_meant : (n : ℕ) (test : ℕ → Bool) → Least n test (least n test)
unfolding least
least_meant zero test = record { within = omega arith; found = λ h. absurd (omega arith); before = λ j h. absurd (omega arith) }
least_meant (suc n) test =
    elim (cases_Bool (test 0)) [
      | inl e ↦ subst (Least (suc n) test) (sym (cond-true (test 0) _ _ e)) (record { within = omega arith; found = λ _. e; before = λ j h. absurd (omega arith) })
      | inr e ↦
          let i : Least n (λ k. test (suc k)) (least n (λ k. test (suc k))) = least_meant n (λ k. test (suc k)) in
          subst (Least (suc n) test) (sym (cond-false (test 0) _ _ e)) (record { within = omega (arith, i.within); found = λ h. i.found (omega arith); before = λ j h. earlier j (least n (λ k. test (suc k))) e i.before h })
    ]
  where
    earlier : (j k : ℕ) → test 0 ≡ false → ((j : ℕ) → j < k → test (suc j) ≡ false) → j < suc k → test j ≡ false
    earlier zero k e f h = e
    earlier (suc j) k e f h = f j (omega arith)
