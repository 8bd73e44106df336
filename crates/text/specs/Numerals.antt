-- Numbers written in decimal digits. Assumes nothing.
use Rattle.std.specs.Prelude.{ℕ, ◌+◌, ◌*◌, ◌^◌, cond, ◌&&◌, List, drop, length, pos, neg_ℤ, ℤ, Some, None, Option, ◌==◌, nat_le, nat_lt, slice_index}
use Rattle.std.specs.Option.{option_map}
use Rattle.std.specs.List.{list_all}
use Rattle.std.specs.Char.{is_digit, digit_value}
use Rattle.std.specs.Str.Parse.{digits_value}

-- one more digit behind those of n, where that stays below 2 ^ 32
abbrev pub with_digit : ℕ → ℕ → ℕ → Option ℕ
with_digit base n b = cond (is_digit b base && nat_lt (n * base + digit_value b) (2 ^ 32)) (Some (n * base + digit_value b)) None

-- the number that these digits write in this base, if each of them is a digit of it
abbrev pub digits_in : ℕ → List ℕ → Option ℕ
digits_in base bs = cond (list_all (λ b. is_digit b base) bs) (Some (digits_value base bs)) None

-- the number of one to nine decimal digits
abbrev pub number_in : List ℕ → Option ℕ
number_in bs = cond (nat_lt 0 (length bs) && nat_le (length bs) 9) (digits_in 10 bs) None

-- the same, with or without a minus in front
abbrev pub signed_in : List ℕ → Option ℤ
signed_in bs = cond (slice_index bs 0 == 45) (option_map (λ n. neg_ℤ (pos n)) (number_in (drop 1 bs))) (option_map pos (number_in bs))
