-- What an answer that is not refused tells.
-- Assumes nothing.
use Rattle.std.proofs.Common.{◌≡◌, ℕ, ◌<◌, ◌≤◌, Ok, rules}
use Rattle.reciprocal.specs.Sources.{asked}

pub record Told (r : ℕ → ℕ) (d a : ℕ) : Type 0 where
  pub least : 1000000 ≤ d
  pub most : d < 10000000
  pub is : a ≡ r d

pub told : (r : ℕ → ℕ) (d a : ℕ) → asked r d ≡ Ok a → Told r d a
told r d a h = search rules
