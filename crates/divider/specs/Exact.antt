-- The exact quotient of two numbers, or why there is none to begin. Assumes nothing.
use Rattle.std.specs.Prelude.{◌≡◌, ℕ, cond, ℤ, Ok, Err, Result, ◌==◌, nat_lt}
use Rattle.refusals.specs.declared.Fault.{Fault}
use Rattle.refusals.specs.declared.Refusal.TheVariants.{ClaimUnderNine, OperandNotFinite, ZeroDivisor}
use Rattle.refusals.specs.Refusals.{at_no_place}
use Rattle.rounding.specs.declared.sign.Sign.{Sign}
use Rattle.decimal.specs.Numbers.{Datum, finite, infinite, quiet, signalling}
use Rattle.rounding.specs.declared.mode.Mode.{Mode}
use Rattle.quotient.specs.Quotients.{decimal32, quotient_top, quotient_bottom, divided}
use Rattle.divider.specs.Begun.{Begun}
use Rattle.divider.specs.Drafts.{StandsFor, product_sign, counted}
use Rattle.divider.specs.Divisions.{number_quotient, under_sign}

-- an exact value: top / bottom under a sign
pub record Exact : Type 0 where
  pub sign : Sign
  pub top : ℕ
  pub bottom : ℕ

-- the quotient of two finite numbers, in units of the least exponent
abbrev pub finite_exact : Sign → ℕ → ℤ → Sign → ℕ → ℤ → Exact
finite_exact s cy ey t cx ex =
    record { sign = product_sign s t; top = quotient_top decimal32 cy (counted ey); bottom = quotient_bottom cx (counted ex) }

-- an operand that is not finite is refused, and then a zero divisor
abbrev pub exact_quotient : Datum → Datum → Result Exact Fault
exact_quotient (finite s cy ey) (finite t cx ex) = cond (cx == 0) (Err (at_no_place ZeroDivisor)) (Ok (finite_exact s cy ey t cx ex))
exact_quotient (finite s cy ey) (infinite t) = Err (at_no_place OperandNotFinite)
exact_quotient (finite s cy ey) (quiet t p) = Err (at_no_place OperandNotFinite)
exact_quotient (finite s cy ey) (signalling t p) = Err (at_no_place OperandNotFinite)
exact_quotient (infinite s) x = Err (at_no_place OperandNotFinite)
exact_quotient (quiet s p) x = Err (at_no_place OperandNotFinite)
exact_quotient (signalling s p) x = Err (at_no_place OperandNotFinite)

-- over a source: its claim is judged first
abbrev pub begun_quotient : ℕ → Datum → Datum → Result Exact Fault
begun_quotient claim y x = cond (nat_lt claim 9) (Err (at_no_place ClaimUnderNine)) (exact_quotient y x)

-- a draft of y over x: it stands for their exact quotient, and rounds to what the definition says of them
pub record DraftOf (b : Begun) (y x : Datum) : Type 0 where
  pub exact : Exact
  pub is : exact_quotient y x ≡ Ok exact
  pub sign : b.sign ≡ exact.sign
  pub stands : StandsFor b exact.top exact.bottom
  pub rounds : (mode : Mode) → under_sign b.sign (divided decimal32 mode b.sign exact.top exact.bottom b.ideal) ≡ number_quotient mode y x
