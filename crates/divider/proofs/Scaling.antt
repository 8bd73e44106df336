-- A coefficient brought to seven digits. Assumes nothing.
use Rattle.std.proofs.Common.{◌≡◌, ℕ, ◌+◌, ◌*◌, ◌^◌, ◌<◌, ◌≤◌, leb, sym, ap, ◌∙◌, mul-le-mul_left, arith, pow-add}
use Rattle.std.proofs.lemmas.Bool.{le-leb, lt-leb}
use Rattle.quotient.proofs.Exponent.{tens_least}
use Rattle.quotient.proofs.Search.{least_is}
use Rattle.divider.specs.Drafts.{zeros_behind, Scaled}

-- a zeros do, and one fewer does not
zeros_are : (c a : ℕ) → a ≤ 6 → (a < 6 → 1000000 ≤ c * 10 ^ a) → ((j : ℕ) → j < a → c * 10 ^ j < 1000000) → zeros_behind c ≡ a
zeros_are c a h enough fewer =
    least_is 6 (λ k. leb 1000000 (c * 10 ^ k)) a (
    record { within = h; found = λ l. le-leb _ _ (enough l); before = λ j l. lt-leb _ _ (fewer j l) }
    )

-- all that a comparison with a power of ten tells
pub scaled : (c d a : ℕ) → a ≤ 6 → c < 10000000 → d ≡ c * 10 ^ a → (a < 6 → 1000000 ≤ c * 10 ^ a) → (0 < c → 1000000 ≤ c * 10 ^ a) → c * 10 ^ a < 10000000 → Scaled c d a
scaled c d a h l e enough least most =
    let z : zeros_behind c ≡ a = zeros_are c a h enough (λ j k. fewer j k) in
    record {
      digits = e ∙ ap (λ x. c * 10 ^ x) (sym z);
      zeros = sym z;
      is = e;
      least = λ p. omega (arith, least p);
      most = omega arith;
      few = h;
    }
  where
    fewer : (j : ℕ) → j < a → c * 10 ^ j < 1000000
    fewer j k =
        let p : 10 ^ (j + 1) ≤ 10 ^ a = tens_least (j + 1) a (omega arith) in
        let e : 10 ^ (j + 1) ≡ 10 ^ j * 10 = pow-add 10 j 1 in
        omega (arith, mul-le-mul_left c p, ap (λ x. c * x) e)
