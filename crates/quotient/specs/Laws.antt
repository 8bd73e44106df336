-- What the searches of the definition find. Assumes nothing.
use Rattle.std.specs.Prelude.{◌≡◌, ℕ, suc, ◌+◌, ◌-◌, ◌*◌, ◌^◌, ◌<◌, ◌≤◌, true}
use Rattle.quotient.specs.Quotients.{Range, exponent_of, fits, preferred}

-- e is the least exponent of the format with n / d < 10^(e + digits), or one past the greatest, and there is none
pub record LeastExponent (f : Range) (n d e : ℕ) : Type 0 where
  pub within : e ≤ suc f.span
  pub enough : e ≤ f.span → n < d * 10 ^ (e + f.digits)
  pub before : (j : ℕ) → j < e → d * 10 ^ (j + f.digits) ≤ n

-- how far two exponents are apart
abbrev pub apart : ℕ → ℕ → ℕ
apart j k = (j - k) + (k - j)

-- k shows n / d, and none that does is nearer to the ideal exponent
pub record Nearest (f : Range) (n d ideal k : ℕ) : Type 0 where
  pub shows : fits f n d k ≡ true
  pub nearest : (j : ℕ) → fits f n d j ≡ true → apart k ideal ≤ apart j ideal

pub record DefinitionStands : Type 0 where
  pub exponent : (f : Range) (n d : ℕ) → LeastExponent f n d (exponent_of f n d)
  pub one_exponent : (f : Range) (n d e : ℕ) → LeastExponent f n d e → e ≡ exponent_of f n d
  pub ideal : (f : Range) (n d i j : ℕ) → fits f n d j ≡ true → Nearest f n d i (preferred f n d i)
  pub one_ideal : (f : Range) (n d i k : ℕ) → 0 < d → Nearest f n d i k → k ≡ preferred f n d i
