-- The table is the rule at each of its 1,000 places, by one computed test; what is promised of the rule was tested once too.
-- Assumes nothing.
use Rattle.std.proofs.Common.{◌≡◌, ℕ, ◌%◌, ◌<◌, true, sym, refl, ap, ◌∙◌, subst, arith}
use Rattle.decimal.specs.Declets.{declet_value, declet_of, canonical_declet}
use Rattle.decimal.proofs.Rule.{table_at}
use Rattle.decimal.proofs.Packed.{written}
use Rattle.decimal.proofs.declet.write_declet.Goals as goal

reads_back : (r n : ℕ) → n < 1000 → r ≡ declet_of n → declet_value r ≡ n
reads_back r n h e = ap declet_value e ∙ (written n h).0

is_canonical : (r n : ℕ) → n < 1000 → r ≡ declet_of n → canonical_declet r ≡ true
is_canonical r n h e = ap canonical_declet e ∙ (written n h).2

pub returns : goal.returns
unfolding declet_of
returns c =
    let n : ℕ = c.args.number % 1000 in
    let h : n < 1000 = omega arith in
    let e = table_at declet_of 1000 _ refl n h in
    record { value = e; small = subst (λ (d : ℕ). d < 1024) (sym e) (written n h).1; same_digits = reads_back _ n h e; canonical = is_canonical _ n h e }
