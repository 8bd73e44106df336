-- Beginning a division: what is refused, and the draft that comes into being. Assumes nothing.
use Rattle.std.specs.Prelude.{◌≡◌, ℕ, ◌+◌, ◌-◌, ◌*◌, ◌/◌, ◌%◌, ◌^◌, ◌<◌, ◌≤◌, false, cond, ℤ, pos, ◌+ℤ◌, Ok, Err, Result, ◌==◌, nat_le, nat_lt, unsigned_abs}
use Rattle.refusals.specs.declared.Fault.{Fault}
use Rattle.refusals.specs.declared.Refusal.TheVariants.{ClaimUnderNine, OperandNotFinite, ZeroDivisor}
use Rattle.refusals.specs.Refusals.{at_no_place}
use Rattle.rounding.specs.declared.sign.Sign.{Sign}
use Rattle.rounding.specs.declared.sign.Sign.TheVariants.{Plus, Minus}
use Rattle.decimal.specs.Numbers.{Datum, finite, infinite, quiet, signalling}
use Rattle.quotient.specs.Drafts.{Drafted}
use Rattle.quotient.specs.Quotients.{decimal32, quotient_top, quotient_bottom}
use Rattle.quotient.specs.Search.{least}
use Rattle.divider.specs.Begun.{Begun}

-- signs multiply
abbrev pub product_sign : Sign → Sign → Sign
product_sign Plus t = t
product_sign Minus Plus = Minus
product_sign Minus Minus = Plus

-- an exponent counted from the least one, -101
abbrev pub counted : ℤ → ℕ
counted e = unsigned_abs (e +ℤ pos 101)

-- the fewest zeros that bring a coefficient to seven digits; 6 for a zero
abbrev pub zeros_behind : ℕ → ℕ
zeros_behind c = least 6 (λ a. nat_le 1000000 (c * 10 ^ a))

abbrev pub seven_digits_of : ℕ → ℕ
seven_digits_of c = c * 10 ^ zeros_behind c

-- A dividend below the divisor is widened by eight zeros, any other by seven.
abbrev pub widening : ℕ → ℕ → ℕ
widening dy dx = cond (nat_lt dy dx) 8 7

-- The draft of dy * 10^(ey - a) over dx * 10^(ex - b), both of seven digits, with the reciprocal r of dx; 10^17 is one in r's units.
abbrev pub draft_by : Sign → (dy a ey dx b ex r : ℕ) → Begun
draft_by s dy a ey dx b ex r =
    record {
      sign = s;
      widened = dy * 10 ^ widening dy dx;
      divisor = dx;
      biased = 1 + dy * r / 10 ^ (17 - widening dy dx);
      place = ey + b + 205 - a - widening dy dx - ex;
      ideal = ey + 101 - ex;
      finished = false;
    }

abbrev pub draft_from : (ℕ → ℕ) → Sign → ℕ → ℕ → Sign → ℕ → ℕ → Begun
draft_from reciprocal s cy ey t cx ex =
    draft_by (product_sign s t) (seven_digits_of cy) (zeros_behind cy) ey (seven_digits_of cx) (zeros_behind cx) ex (reciprocal (seven_digits_of cx))

-- both numbers are finite: only a zero divisor is refused
abbrev pub begin_finite : (ℕ → ℕ) → Sign → ℕ → ℕ → Sign → ℕ → ℕ → Result Begun Fault
begin_finite reciprocal s cy ey t cx ex = cond (cx == 0) (Err (at_no_place ZeroDivisor)) (Ok (draft_from reciprocal s cy ey t cx ex))

abbrev pub begin_numbers : (ℕ → ℕ) → Datum → Datum → Result Begun Fault
begin_numbers reciprocal (finite s cy ey) (finite t cx ex) = begin_finite reciprocal s cy (counted ey) t cx (counted ex)
begin_numbers reciprocal (finite s cy ey) (infinite t) = Err (at_no_place OperandNotFinite)
begin_numbers reciprocal (finite s cy ey) (quiet t p) = Err (at_no_place OperandNotFinite)
begin_numbers reciprocal (finite s cy ey) (signalling t p) = Err (at_no_place OperandNotFinite)
begin_numbers reciprocal (infinite s) x = Err (at_no_place OperandNotFinite)
begin_numbers reciprocal (quiet s p) x = Err (at_no_place OperandNotFinite)
begin_numbers reciprocal (signalling s p) x = Err (at_no_place OperandNotFinite)

-- the source's claim is judged first
abbrev pub begin_by : ℕ → (ℕ → ℕ) → Datum → Datum → Result Begun Fault
begin_by claim reciprocal y x = cond (nat_lt claim 9) (Err (at_no_place ClaimUnderNine)) (begin_numbers reciprocal y x)

-- A draft stands for the fraction n / d, in units of the least exponent: its quotient has the leading digits of n / d.
abbrev pub StandsFor : Begun → ℕ → ℕ → Type 0
StandsFor b n d = Drafted 104 (b.widened / b.divisor) (nat_lt 0 (b.widened % b.divisor)) b.place n d

-- the exact quotient of two finite numbers
abbrev pub StandsForQuotient : Begun → Datum → Datum → Type 0
StandsForQuotient b (finite s cy ey) (finite t cx ex) = StandsFor b (quotient_top decimal32 cy (counted ey)) (quotient_bottom cx (counted ex))
StandsForQuotient b (finite s cy ey) (infinite t) = ⊥
StandsForQuotient b (finite s cy ey) (quiet t p) = ⊥
StandsForQuotient b (finite s cy ey) (signalling t p) = ⊥
StandsForQuotient b (infinite s) x = ⊥
StandsForQuotient b (quiet s p) x = ⊥
StandsForQuotient b (signalling s p) x = ⊥

-- a coefficient brought to seven digits by a zeros, unless it is 0
pub record Scaled (c d a : ℕ) : Type 0 where
  pub digits : d ≡ seven_digits_of c
  pub zeros : a ≡ zeros_behind c
  pub is : d ≡ c * 10 ^ a
  pub least : 0 < c → 1000000 ≤ d
  pub most : d < 10000000
  pub few : a ≤ 6
