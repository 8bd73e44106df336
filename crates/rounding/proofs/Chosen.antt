-- Whether a magnitude goes up is told by its position and the whole number under it. Assumes nothing.
use Rattle.std.proofs.Common.{◌≡◌, ℕ, ◌/◌, Bool, sym, ap, ◌∙◌, subst}
use Rattle.rounding.specs.declared.sign.Sign.{Sign}
use Rattle.rounding.specs.declared.mode.Mode.{Mode}
use Rattle.rounding.specs.declared.mode.Position.{Position}
use Rattle.rounding.specs.Rounding.{position, goes_up, raised, rounded}
use Rattle.rounding.specs.Modes.{signed, Rounds, Lies, RoundsSo}
use Rattle.rounding.proofs.Meant.{meant}
use Rattle.rounding.proofs.Alone.{alone}

same : (mode : Mode) (s : Sign) (odd : Bool) (p : Position) (up : Bool) → up ≡ goes_up mode s odd p → (n m : ℕ) → Lies odd p n m
    → rounded mode s n m ≡ raised up (n / m)
same mode s odd p up e n m l =
    ap (λ o. raised (goes_up mode s o (position n m)) (n / m)) l.floor ∙ ap (λ q. raised (goes_up mode s odd q) (n / m)) l.place ∙ ap (λ u. raised u (n / m)) (sym e)

pub rounds_so : (mode : Mode) (s : Sign) (odd : Bool) (p : Position) (up : Bool) → up ≡ goes_up mode s odd p → RoundsSo mode s odd p up
rounds_so mode s odd p up e =
    let means : (n m : ℕ) → Lies odd p n m → Rounds mode (signed s n) m (signed s (raised up (n / m))) =
    λ n m l. subst (λ c. Rounds mode (signed s n) m (signed s c)) (same mode s odd p up e n m l) (meant mode s n m l.parts) in
    record { meant = means; alone = λ n m l c h. alone mode (signed s n) m c (signed s (raised up (n / m))) l.parts h (means n m l) }
