-- The reciprocals of 3,000,000, worked out by hand: one computed test of the definitions. Assumes nothing.
use Rattle.std.specs.Prelude.{◌≡◌, ℕ, List, [], ◌∷◌}
use Rattle.reciprocal.specs.Sources.{table_reciprocal}
use Rattle.reciprocal.specs.Layers.{layered}

-- by the three-digit table, by one layer over it and by two
abbrev pub worked_numbers : List ℕ
worked_numbers = 33332 ∷ (33333332 ∷ (33333333332 ∷ []))

pub record WorkedReciprocals : Type 0 where
  pub by_table : table_reciprocal 3 3000000 ≡ 33332
  pub by_layer : layered 3 3000000 33332 ≡ 33333332
  pub by_two_layers : layered 6 3000000 33333332 ≡ 33333333332
