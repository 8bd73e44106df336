-- What `try_fold` over a slice gives, where each call is a step of one function. Assumes nothing.
use Rattle.std.proofs.Common.{◌≡◌, List, [], ◌∷◌, fold, Some, None, Option, sym, refl, ap, ◌∙◌, subst}
use Rattle.std.proofs.lemmas.List.{nil_from_length}
use Rattle.std.proofs.iter.Yields.{fronts}
use Rattle.std.specs.ControlFlow.{continue_value}
use Rattle.std.specs.Fn.{Called}
use Rattle.std.specs.Iterator.{TryFoldTurn, TryFoldsItems, Yields}
use Rattle.std.specs.List.{FoldsTo}
use Rattle.std.specs.Option.{MatchOption}
use Rattle.std.specs.declared.ops.ControlFlow.{ControlFlow}
use Rattle.std.specs.declared.ops.ControlFlow.TheVariants.{Break}
use Rattle.std.specs.declared.slice.Iter.{Iter}
use denote.Param.Members.{Mut}
use denote.Ref.{Bor}

-- a step from what there is so far, if there is anything
abbrev pub and_step : {A B : Type 0} → (B → A → Option B) → Option B → A → Option B
and_step step None x = None
and_step step (Some b) x = step b x

-- where there is nothing any more, nothing comes back
pub stays_none : {A B : Type 0} (step : B → A → Option B) → (xs : List A) → fold (and_step step) None xs ≡ None
stays_none step [] = refl
stays_none step (x ∷ xs) = stays_none step xs

abbrev branches : {B E : Type 0} → Option B → ControlFlow E B → Type 0
branches o c = o ≡ continue_value c

module _ {F A B : Type 0} (E : Type 0) (step : B → A → Option B) (g : Mut F (B × (Bor A × Unit {0})) (Option B)) (f : F)
    (computes : (b : B) (x : Bor A) (r : Option B) (h : F) → Called g f (b, (x, tt)) r h → (h ≡ f) × (r ≡ step b x.now)) where
  turns : (xs : List (Bor A)) (s t : Iter A) (h j : F) (b a : B) → h ≡ f → Yields fronts s xs t → FoldsTo {P = F × B} (TryFoldTurn {E = E} g branches) (h, b) xs (j, a)
      → (j ≡ f) × (fold (and_step step) (Some b) s.rest.now ≡ fold (and_step step) (Some a) t.rest.now)
  turns [] s t h j b a e y z = (sym (ap (λ p. p.0) z) ∙ e, ap (λ p. fold (and_step step) (Some p.1) s.rest.now) z ∙ ap (λ u. fold (and_step step) (Some a) u.rest.now) y)
  turns (x ∷ xs) s t h j b a e y z =
      let made = computes b x z.1.0 z.0.0 (subst (λ k. Called g k (b, (x, tt)) z.1.0 z.0.0) e z.1.1) in
      let rest = turns xs y.0 t z.0.0 j z.0.1 a made.0 y.2 z.2 in
      (rest.0, ap (fold (and_step step) (Some b)) y.1 ∙ ap (λ o. fold (and_step step) o y.0.rest.now) (sym made.1 ∙ z.1.2) ∙ rest.1)

  -- what comes after the last turn that goes on
  ended : (o : Option (Bor A)) (t u : Iter A) (j : F) (a : B) (r : Option B) → j ≡ f → fronts t o u
      → MatchOption o (r ≡ Some a) (λ x. (v : Option B) × (h : F) × (e : E) × Called g j (a, (x, tt)) v h × branches v (Break e) × (r ≡ None))
      → r ≡ fold (and_step step) (Some a) t.rest.now
  ended None t u j a r k y z = z ∙ sym (ap (fold (and_step step) (Some a)) (nil_from_length t.rest.now y.0))
  ended (Some x) t u j a r k y z =
      let made = computes a x z.0 z.1 (subst (λ i. Called g i (a, (x, tt)) z.0 z.1) k z.3) in
      z.5 ∙ sym (stays_none step u.rest.now) ∙ ap (λ p. fold (and_step step) p u.rest.now) (sym z.4 ∙ made.1) ∙ ap (fold (and_step step) (Some a)) (sym y)

  -- the fold of the steps
  pub folds : (s u : Iter A) (init : B) (r : Option B) → TryFoldsItems fronts {E = E} g branches (λ e o. o ≡ None) s f init r u → r ≡ fold (and_step step) (Some init) s.rest.now
  folds s u init r h = let met = turns h.0 s h.4.0 f h.2 init h.3 refl h.4.1 h.5 in ended h.1 h.4.0 u h.2 h.3 r met.0 h.4.2 h.6 ∙ sym met.1
