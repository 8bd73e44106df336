-- The table is the rule at each of its 1,024 places, by one computed test.
-- Assumes nothing.
use Rattle.std.proofs.Common.{ℕ, ◌%◌, ◌<◌, sym, refl, subst, arith}
use Rattle.decimal.specs.Declets.{declet_value}
use Rattle.decimal.proofs.Rule.{table_at}
use Rattle.decimal.proofs.Packed.{readable}
use Rattle.decimal.proofs.declet.read_declet.Goals as goal

pub returns : goal.returns
unfolding declet_value
returns c =
    let d : ℕ = c.args.declet % 1024 in
    let h : d < 1024 = omega arith in
    let e = table_at declet_value 1024 _ refl d h in
    record { value = e; small = subst (λ (n : ℕ). n < 1000) (sym e) (readable _ h).0 }
