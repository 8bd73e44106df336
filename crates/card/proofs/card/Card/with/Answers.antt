-- Assumes nothing.
use Rattle.std.proofs.Common.{◌≡◌, Bool, true, false, not, cond, refl, ◌∙◌, rules}
use Rattle.std.proofs.Math.Bool.{or-false}
use Rattle.rounding.specs.declared.flags.Flags.{Flags}
use Rattle.rounding.specs.Flags.{raised_by_either, no_flags}
use Rattle.quotient.specs.Quotients.{inexact_flags}
use Rattle.quotient.specs.Splits.{between}
use Rattle.card.specs.Tallies.{is_exact}
use Rattle.card.proofs.card.Card.with.Goals as goal

-- the flag that a posting raises
abbrev raising : Bool → Flags
raising inexact = record { inexact = inexact; underflow = false; overflow = false; division_by_zero = false; invalid = false }

-- no flag more
same_flags : (f : Flags) → raised_by_either f no_flags ≡ f
same_flags f =
    λ i.
    record {
      inexact = or-false f.inexact i;
      underflow = or-false f.underflow i;
      overflow = or-false f.overflow i;
      division_by_zero = or-false f.division_by_zero i;
      invalid = or-false f.invalid i;
    }

raises : (f : Flags) (exact : Bool) → raised_by_either f (raising (not exact)) ≡ cond exact f (raised_by_either f (inexact_flags false))
raises f true = same_flags f
raises f false = refl

pub returns : goal.returns
returns c =
    let f = c.args.self.flags in
    let n = c.none.ensures in
    let flags : c.join.result ≡ cond (is_exact (between c.args.steps.split)) f (raised_by_either f (inexact_flags false)) =
    c.join.ensures
    ∙ (λ i. raised_by_either f (record {
      inexact = not (c.is_whole-inexact.ensures i);
      underflow = (n i).underflow;
      overflow = (n i).overflow;
      division_by_zero = (n i).division_by_zero;
      invalid = (n i).invalid;
    }))
    ∙ raises f (is_exact (between c.args.steps.split))
    in
    search rules
