-- A draft that is begun is one of the exact quotient. Assumes nothing.
use Rattle.std.proofs.Common.{◌≡◌, ℕ, Bool, true, false, eqb, ltb, ℤ, Ok, Err, sym, refl, ap, ◌∙◌, arith}
use Rattle.refusals.specs.declared.Fault.{Fault}
use Rattle.refusals.specs.declared.Refusal.TheVariants.{ClaimUnderNine, ZeroDivisor}
use Rattle.refusals.specs.Refusals.{at_no_place}
use Rattle.rounding.specs.declared.sign.Sign.{Sign}
use Rattle.decimal.specs.Numbers.{Datum, finite, infinite, quiet, signalling}
use Rattle.quotient.specs.Quotients.{decimal32, quotient_top, quotient_bottom, divided}
use Rattle.divider.specs.Begun.{Begun}
use Rattle.divider.specs.Drafts.{StandsFor, StandsForQuotient, begin_by, begin_numbers, draft_from, counted}
use Rattle.divider.specs.Divisions.{under_sign}
use Rattle.divider.specs.Exact.{DraftOf, finite_exact, exact_quotient, begun_quotient}

-- two finite numbers, the divisor not zero
module _ (r : ℕ → ℕ) (b : Begun) (s t : Sign) (cy cx : ℕ) (ey ex : ℤ) where
  finite_draft : (z : Bool) → eqb cx 0 ≡ z → Ok b ≡ begin_numbers r (finite s cy ey) (finite t cx ex) → StandsFor b (quotient_top decimal32 cy (counted ey)) (quotient_bottom cx (counted ex))
      → DraftOf b (finite s cy ey) (finite t cx ex)
  finite_draft true e h k = let z : ◌≡◌ {A = ℕ} 0 1 = cc in absurd (omega arith)
  finite_draft false e h k =
      let is : b ≡ draft_from r s cy (counted ey) t cx (counted ex) = cc in
      record {
        exact = finite_exact s cy ey t cx ex;
        is = rw e refl;
        sign = ap (λ d. d.sign) is;
        stands = k;
        rounds = λ mode. rw e (ap (λ d. under_sign d.sign (divided decimal32 mode d.sign (quotient_top decimal32 cy (counted ey)) (quotient_bottom cx (counted ex)) d.ideal)) is);
      }

of_numbers : (r : ℕ → ℕ) (b : Begun) (y x : Datum) → Ok b ≡ begin_numbers r y x → StandsForQuotient b y x → DraftOf b y x
of_numbers r b (finite s cy ey) (finite t cx ex) h k = finite_draft r b s t cy cx ey ex (eqb cx 0) refl h k
of_numbers r b (finite s cy ey) (infinite t) h k = absurd k
of_numbers r b (finite s cy ey) (quiet t p) h k = absurd k
of_numbers r b (finite s cy ey) (signalling t p) h k = absurd k
of_numbers r b (infinite s) x h k = absurd k
of_numbers r b (quiet s p) x h k = absurd k
of_numbers r b (signalling s p) x h k = absurd k

by_claim : (u : Bool) (claim : ℕ) (r : ℕ → ℕ) (b : Begun) (y x : Datum) → ltb claim 9 ≡ u → Ok b ≡ begin_by claim r y x → (Ok b ≡ begin_numbers r y x) × (begun_quotient claim y x ≡ exact_quotient y x)
by_claim true claim r b y x e h = let z : ◌≡◌ {A = ℕ} 0 1 = cc in absurd (omega arith)
by_claim false claim r b y x e h = (h ∙ rw e refl, rw e refl)

pub draft_of : (claim : ℕ) (r : ℕ → ℕ) (b : Begun) (y x : Datum) → Ok b ≡ begin_by claim r y x → StandsForQuotient b y x → DraftOf b y x
draft_of claim r b y x h k = of_numbers r b y x (by_claim (ltb claim 9) claim r b y x refl h).0 k

pub begun_exact : (claim : ℕ) (r : ℕ → ℕ) (b : Begun) (y x : Datum) → Ok b ≡ begin_by claim r y x → begun_quotient claim y x ≡ exact_quotient y x
begun_exact claim r b y x h = (by_claim (ltb claim 9) claim r b y x refl h).1

-- what is refused is refused alike
pub refused_alike : (claim : ℕ) (r : ℕ → ℕ) (f : Fault) (y x : Datum) → Err f ≡ begin_by claim r y x → begun_quotient claim y x ≡ Err f
refused_alike claim r f y x h = by (ltb claim 9) refl y x h
  where
    zero_alike : (z : Bool) (s t : Sign) (cy cx : ℕ) (ey ex : ℤ) → eqb cx 0 ≡ z → Err f ≡ begin_numbers r (finite s cy ey) (finite t cx ex) → exact_quotient (finite s cy ey) (finite t cx ex) ≡ Err f
    zero_alike true s t cy cx ey ex e h = let k : f ≡ at_no_place ZeroDivisor = cc in rw e (ap Err (sym k))
    zero_alike false s t cy cx ey ex e h = let z : ◌≡◌ {A = ℕ} 0 1 = cc in absurd (omega arith)

    numbers_alike : (y x : Datum) → Err f ≡ begin_numbers r y x → exact_quotient y x ≡ Err f
    numbers_alike (finite s cy ey) (finite t cx ex) h = zero_alike (eqb cx 0) s t cy cx ey ex refl h
    numbers_alike (finite s cy ey) (infinite t) h = cc
    numbers_alike (finite s cy ey) (quiet t p) h = cc
    numbers_alike (finite s cy ey) (signalling t p) h = cc
    numbers_alike (infinite s) x h = cc
    numbers_alike (quiet s p) x h = cc
    numbers_alike (signalling s p) x h = cc

    by : (u : Bool) → ltb claim 9 ≡ u → (y x : Datum) → Err f ≡ begin_by claim r y x → begun_quotient claim y x ≡ Err f
    by true e y x h = let k : f ≡ at_no_place ClaimUnderNine = cc in rw e (ap Err (sym k))
    by false e y x h = rw e (numbers_alike y x (h ∙ rw e refl))
