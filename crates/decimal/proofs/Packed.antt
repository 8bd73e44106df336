-- The laws of a declet, each by one computed test over all entries. Assumes nothing.
use Rattle.std.proofs.Common.{◌≡◌, ℕ, zero, suc, ◌<◌, Bool, true, false, not, ◌&&◌, ◌||◌, eqb, ltb, ◌⊎◌, Decides, sym, refl}
use Rattle.std.proofs.lemmas.Bool.Decides.{Decides-below_and, Decides-eqb, Decides-ltb, Decides-and, Decides-or}
use Rattle.decimal.specs.Declets.{declet_value, declet_of, canonical_declet}

-- what is written is a canonical declet, and reading it gives the number back
abbrev pub Written : ℕ → Type 0
Written n = (declet_value (declet_of n) ≡ n) × (declet_of n < 1024) × (canonical_declet (declet_of n) ≡ true)

abbrev written? : ℕ → Bool
written? n = eqb (declet_value (declet_of n)) n && (ltb (declet_of n) 1024 && canonical_declet (declet_of n))

abbrev all_written : ℕ → Bool
all_written zero = true
all_written (suc n) = written? n && all_written n

is_true : (b : Bool) → Decides b (b ≡ true)
is_true b = (λ e. e, λ e. e)

flat : (P Q R : Type 0) (b : Bool) → Decides b (P × (Q × R)) → Decides b (P × Q × R)
flat P Q R b d = (λ e. let h = d.0 e in (h.0, h.1.0, h.1.1), λ h. d.1 (h.0, (h.1, h.2)))

pub written : (n : ℕ) → n < 1000 → Written n
unfolding declet_value declet_of canonical_declet
written =
    (Decides-below_and written? Written all_written
    (λ n. flat _ _ _ (written? n) (Decides-and (eqb (declet_value (declet_of n)) n) _ (Decides-eqb _ _) (Decides-and (ltb (declet_of n) 1024) (canonical_declet (declet_of n)) (Decides-ltb _ _) (is_true _))))
    refl (λ _. refl) 1000).0 refl

-- what is read is below a thousand, and a canonical declet is the one written for it
abbrev pub Readable : ℕ → Type 0
Readable d = (declet_value d < 1000) × ((canonical_declet d ≡ false) ⊎ (declet_of (declet_value d) ≡ d))

abbrev readable? : ℕ → Bool
readable? d = ltb (declet_value d) 1000 && (not (canonical_declet d) || eqb (declet_of (declet_value d)) d)

abbrev all_readable : ℕ → Bool
all_readable zero = true
all_readable (suc n) = readable? n && all_readable n

is_false : (b : Bool) → Decides (not b) (b ≡ false)
is_false true = (λ e. sym e, λ e. sym e)
is_false false = (λ _. refl, λ _. refl)

pub readable : (d : ℕ) → d < 1024 → Readable d
unfolding declet_value declet_of canonical_declet
readable =
    (Decides-below_and readable? Readable all_readable
    (λ d. Decides-and (ltb (declet_value d) 1000) _ (Decides-ltb _ _) (Decides-or (not (canonical_declet d)) (eqb (declet_of (declet_value d)) d) (is_false _) (Decides-eqb _ _)))
    refl (λ _. refl) 1024).0 refl
