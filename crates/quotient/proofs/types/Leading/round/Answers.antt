-- Each way out is the definition's at every fraction that the digits are of.
-- Assumes nothing.
use Rattle.std.proofs.Common.{◌≡◌, ℕ, zero, suc, ◌+◌, ◌-◌, ◌^◌, ◌<◌, ◌≤◌, min, Bool, cond, ltb, sym, refl, ap, ◌∙◌, subst, rules, arith}
use Rattle.rounding.specs.Rounding.{is_whole, rounded_at}
use Rattle.rounding.specs.Flags.{no_flags}
use Rattle.quotient.specs.Quotients.{decimal32, finite, inexact_flags}
use Rattle.quotient.specs.Drafts.{Drafted, Cut, Stripped}
use Rattle.quotient.proofs.Exponent.{At}
use Rattle.quotient.proofs.Ways.{By, way_zero, way_over, way_exact, way_inexact, raised_small, unit_least}
use Rattle.quotient.proofs.Laws.{stands}
use Rattle.quotient.proofs.types.Leading.round.Goals as goal

-- the digits, not 0, with the place where they are cut
cut_at : (q : ℕ) (left : Bool) (place n d digits : ℕ) → (0 < q → 10000000 ≤ q) → q + cond left 1 0 + 10 ≤ 100000000 → (q ≡ 0 → ⊥)
    → Cut 104 place (place + digits - 104) digits → Drafted 104 q left place n d → At decimal32 104 q left place n d (place + digits - 104) digits
cut_at q left place n d digits least most z c t = record { proper = omega arith; drafted = t; cut = c; first = least (some q z); most = most }
  where
    some : (q : ℕ) → (q ≡ 0 → ⊥) → 0 < q
    some zero z = absurd (z refl)
    some (suc q) z = omega arith

cut_by : (q : ℕ) (left : Bool) (place n d digits : ℕ) → (0 < q → 10000000 ≤ q) → q + cond left 1 0 + 10 ≤ 100000000 → (q ≡ 0 → ⊥)
    → Cut 104 place (place + digits - 104) digits → Drafted 104 q left place n d
    → By decimal32 104 q left place n d (place + digits - 104) digits 9 (10 ^ min digits 9)
cut_by q left place n d digits least most z c t = record { at = cut_at q left place n d digits least most z c t; unit = refl; enough = omega arith }

pub returns-then-self-eq0-clause-value : goal.returns-then-self-eq0-clause-value
returns-then-self-eq0-clause-value c n d t =
    c.exactly.ensures ∙ ap (λ k. finite 0 k no_flags) (search rules) ∙ way_zero decimal32 c.args.mode c.args.sign c.args.ideal c.if-self-eq0.true t

pub returns-then-self-eq0-clause-definition : goal.returns-then-self-eq0-clause-definition
returns-then-self-eq0-clause-definition c = stands

pub returns-then-exponent-gt191-clause-value : goal.returns-then-exponent-gt191-clause-value
returns-then-exponent-gt191-clause-value c n d t =
    let l = c.args.self in
    c.overflow.ensures
    ∙ way_over c.args.mode c.args.sign c.args.ideal
    (cut_at l.digits l.left l.place n d c.digits_cut-gone.result l.least l.most c.if-self-eq0.false c.digits_cut-gone.ensures.cut t) (omega arith)

pub returns-then-exponent-gt191-clause-definition : goal.returns-then-exponent-gt191-clause-definition
returns-then-exponent-gt191-clause-definition c = stands

pub returns-then-is_whole-clause-value : goal.returns-then-is_whole-clause-value
returns-then-is_whole-clause-value c n d t =
    let l = c.args.self in
    let s = c.cut-split in
    let w = ap is_whole (sym s.ensures.position) ∙ sym c.is_whole.ensures ∙ c.if-is_whole.true in
    c.exactly-then-is_whole.ensures
    ∙ way_exact c.args.mode c.args.sign c.args.ideal c.strip-c.result.0 c.strip-c.result.1
    (cut_by l.digits l.left l.place n d c.digits_cut-gone.result l.least l.most c.if-self-eq0.false c.digits_cut-gone.ensures.cut t)
    (omega arith) w (subst (λ f. Stripped 191 f (l.place + c.digits_cut-gone.result - 104) c.args.ideal c.strip-c.result.0 c.strip-c.result.1) s.ensures.floor c.strip-c.ensures)

pub returns-then-is_whole-clause-definition : goal.returns-then-is_whole-clause-definition
returns-then-is_whole-clause-definition c = stands

pub returns-clause-value : goal.returns-clause-value
returns-clause-value c n d t =
    let l = c.args.self in
    let s = c.cut-split in
    let w = ap is_whole (sym s.ensures.position) ∙ sym c.is_whole.ensures ∙ c.if-is_whole.false in
    (λ i. finite (c.rounded.ensures i) (l.place + c.digits_cut-gone.result - 104) (c.flags_of.ensures i))
    ∙ (λ i. finite (rounded_at c.args.mode c.args.sign (s.ensures.floor i) (s.ensures.position i)) (l.place + c.digits_cut-gone.result - 104) (inexact_flags (ltb 1 c.digits_cut-gone.result)))
    ∙ way_inexact c.args.mode c.args.sign c.args.ideal
    (cut_by l.digits l.left l.place n d c.digits_cut-gone.result l.least l.most c.if-self-eq0.false c.digits_cut-gone.ensures.cut t) (omega arith) w

pub returns-clause-small : goal.returns-clause-small
returns-clause-small c =
    let l = c.args.self in
    let s = c.cut-split.ensures in
    let u = unit_least c.digits_cut-gone.result 9 _ c.digits_cut-gone.ensures.cut.one (omega arith) refl in
    let e = c.rounded.ensures ∙ (λ i. rounded_at c.args.mode c.args.sign (s.floor i) (s.position i)) in
    (subst (λ x. x < 10000000) (sym e) (raised_small c.args.mode c.args.sign l.left l.digits (10 ^ min c.digits_cut-gone.result 9) 10000000 l.most u), omega arith)

pub returns-clause-definition : goal.returns-clause-definition
returns-clause-definition c = stands
