-- What a source of reciprocals answers, and the reciprocals of the tables and of short division. Assumes nothing.
use Rattle.std.specs.Prelude.{ℕ, ◌+◌, ◌-◌, ◌*◌, ◌/◌, ◌%◌, ◌^◌, ◌<◌, min, max, Bool, cond, ◌&&◌, Ok, Err, Result, nat_le, List, map}
use Rattle.std.specs.List.{range_with_len}
use Rattle.refusals.specs.declared.Fault.{Fault}
use Rattle.refusals.specs.declared.Refusal.TheVariants.{DivisorNotSevenDigits}
use Rattle.refusals.specs.Refusals.{at_no_place}

-- r / 10^(G+8) is below 1/D, by less than 11/2 units of r
pub record Approximates (G D r : ℕ) : Type 0 where
  pub below : r * D < 10 ^ (G + 8)
  pub near : 2 * (10 ^ (G + 8) - r * D) < 11 * D

-- whether d is a number of seven digits
abbrev pub seven_digits : ℕ → Bool
seven_digits d = nat_le 1000000 d && nat_le d 9999999

-- what a source with these reciprocals answers
abbrev pub asked : (ℕ → ℕ) → ℕ → Result ℕ Fault
asked r d = cond (seven_digits d) (Ok (r d)) (Err (at_no_place DivisorNotSevenDigits))

-- the entry of a table by k digits, for the divisors that begin with the digits M
abbrev pub entry : ℕ → ℕ → ℕ
entry k M = 10 ^ (4 * k) / ((10 * M + 5) * (10 * M + 5))

-- the entries of a table by k digits, in order
abbrev pub entries : ℕ → List ℕ
entries k = map (entry k) (range_with_len (10 ^ (k - 1)) (10 ^ k - 10 ^ (k - 1)))

-- the entry's factor: the first k digits of D, and behind them the next k, each taken from nine
abbrev pub factor : ℕ → ℕ → ℕ
factor k D = 10 ^ k * (D / 10 ^ (7 - k)) + (10 ^ k - 1) - D % 10 ^ (7 - k) / 10 ^ (7 - 2 * k)

-- the reciprocal of D by the first k digits
abbrev pub table_reciprocal : ℕ → ℕ → ℕ
table_reciprocal k D = entry k (D / 10 ^ (7 - k)) * factor k D / 10 ^ (2 * k)

-- the claim from one to nine that is nearest
abbrev pub lawful_claim : ℕ → ℕ
lawful_claim G = max (min G 9) 1

-- the reciprocal of D by short division
abbrev pub short_reciprocal : ℕ → ℕ → ℕ
short_reciprocal G D = (10 ^ (G + 8) - 1) / D
