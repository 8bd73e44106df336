-- What a draft holds. Assumes nothing.
use Rattle.std.specs.Prelude.{ℕ, Bool}
use Rattle.rounding.specs.declared.sign.Sign.{Sign}

-- what a draft holds, and whether a finishing call took it
pub record Begun : Type 0 where
  pub sign : Sign
  pub widened : ℕ
  pub divisor : ℕ
  pub biased : ℕ
  pub place : ℕ
  pub ideal : ℕ
  pub finished : Bool
