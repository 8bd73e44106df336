-- Two runs over the same records that answer alike go on alike. Assumes nothing.
use Rattle.std.proofs.Common.{◌≡◌, ℕ, ◌+◌, List, [], ◌∷◌, Ok, Err, Result, refl, ap}
use Rattle.refusals.specs.declared.Fault.{Fault}
use Rattle.rounding.specs.declared.mode.Mode.{Mode}
use Rattle.card.specs.Replies.{Reply}
use Rattle.runs.specs.Runs.{RunEnd, run_from, run_in, by_answer, stopped_at}

-- the answers are the same, and the states are as R says
pub record Alike {S T X : Type 0} (R : S → T → Type 0) (a : Reply S X) (b : Reply T X) : Type 0 where
  pub same : a.answer ≡ b.answer
  pub kept : R a.state b.state

pub record EndsAlike {S T : Type 0} (R : S → T → Type 0) (a : RunEnd S) (b : RunEnd T) : Type 0 where
  pub same : a.ran ≡ b.ran
  pub kept : R a.state b.state

module _ {X S T : Type 0} (R : S → T → Type 0) (f : X → S → Reply S (Unit {0})) (g : X → T → Reply T (Unit {0})) (alike : (x : X) (s : S) (t : T) → R s t → Alike R (f x s) (g x t)) where
  runs_alike : (i : ℕ) (xs : List X) (s : S) (t : T) → R s t → EndsAlike R (run_from f i xs s) (run_from g i xs t)
  runs_alike i [] s t h = record { same = refl; kept = h }
  runs_alike i (x ∷ xs) s t h =
      let a = alike x s t h in
      by (f x s).answer (g x t).answer a.same a.kept (runs_alike (i + 1) xs (f x s).state (g x t).state a.kept)
    where
      by : (p q : Result (Unit {0}) Fault) → p ≡ q → R (f x s).state (g x t).state
          → EndsAlike R (run_from f (i + 1) xs (f x s).state) (run_from g (i + 1) xs (g x t).state)
          → EndsAlike R (by_answer p (run_from f (i + 1) xs (f x s).state) (λ e. stopped_at i e (f x s).state))
          (by_answer q (run_from g (i + 1) xs (g x t).state) (λ e. stopped_at i e (g x t).state))
      by (Ok u) (Ok v) e k onward = onward
      by (Ok u) (Err d) e k onward = cc
      by (Err c) (Ok u) e k onward = cc
      by (Err c) (Err d) e k onward = let is : c ≡ d = cc in record { same = ap (λ z. (stopped_at {S = Unit {0}} i z tt).ran) is; kept = k }

module _ {X S T : Type 0} (R : S → T → Type 0) (f : Mode → X → S → Reply S (Unit {0})) (g : Mode → X → T → Reply T (Unit {0})) (alike : (m : Mode) (x : X) (s : S) (t : T) → R s t → Alike R (f m x s) (g m x t)) where
  pub run_alike : (r : Result Mode Fault) (xs : List X) (s : S) (t : T) → R s t → EndsAlike R (run_in r f xs s) (run_in r g xs t)
  run_alike (Err d) xs s t h = record { same = refl; kept = h }
  run_alike (Ok m) xs s t h = runs_alike R (f m) (g m) (alike m) 0 xs s t h
