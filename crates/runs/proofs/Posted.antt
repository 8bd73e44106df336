-- A record's draft is posted as the exact quotient of its two numbers. Assumes nothing.
use Rattle.std.proofs.Common.{◌≡◌, ℕ, Ok, ap, ◌∙◌}
use Rattle.rounding.specs.declared.mode.Mode.{Mode}
use Rattle.decimal.specs.Numbers.{Datum}
use Rattle.divider.specs.Begun.{Begun}
use Rattle.divider.specs.Drafts.{StandsFor}
use Rattle.divider.specs.Exact.{DraftOf}
use Rattle.card.specs.Replies.{posted_exact, reply}
use Rattle.card.specs.Tallies.{After, Tally, posted_quotient}

-- whatever fraction the draft stands for is posted, so the exact quotient is
pub draft_posted : (mode : Mode) (t : Tally) (b : Begun) (y x : Datum) (a : After (Unit {0})) (d : DraftOf b y x)
    → ((n m : ℕ) → StandsFor b n m → a ≡ posted_quotient mode b.sign n m t) → reply a ≡ posted_exact mode (Ok d.exact) t
draft_posted mode t b y x a d h =
    ap reply (h d.exact.top d.exact.bottom d.stands ∙ ap (λ s. posted_quotient mode s d.exact.top d.exact.bottom t) d.sign)
