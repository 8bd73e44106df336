-- A line `MODE WORD WORD`: a mode number of one to nine digits, a blank, and two words of eight hexadecimal digits with a blank between them.
-- Assumes nothing.
use Rattle.std.specs.Prelude.{ℕ, List, length, Some, None, Ok, Err, Option, Result, Bool, cond, ◌==◌, nat_lt}
use Rattle.std.specs.List.{position_or_len, before_first, after_first}
use Rattle.text.specs.Numerals.{number_in}
use Rattle.text.specs.Texts.{word_in}
use Rattle.divide.specs.declared.request.Request.{Request}
use Rattle.divide.specs.declared.request.Defect.{Defect}
use Rattle.divide.specs.declared.request.Defect.TheVariants.{Mode, Dividend, Divisor}

abbrev pub is_blank : ℕ → Bool
is_blank b = b == 32

-- the field that the first blank ends, and what stands behind it
abbrev pub field_in : List ℕ → Option (List ℕ × List ℕ)
field_in bs = cond (nat_lt (position_or_len is_blank bs) (length bs)) (Some (before_first is_blank bs, after_first is_blank bs)) None

-- what follows from o, or d where there is nothing
abbrev pub and_then : {A R : Type 0} → R → Option A → (A → R) → R
and_then d None f = d
and_then d (Some a) f = f a

-- what follows from a field that is read so, and from what stands behind it
abbrev pub with_field : {R : Type 0} → R → (List ℕ → Option ℕ) → (ℕ → List ℕ → R) → List ℕ → R
with_field d read f bs = and_then d (field_in bs) (λ p. and_then d (read p.0) (λ v. f v p.1))

-- what a line asks for, or what is wrong with it first, from the left
abbrev pub request_in : List ℕ → Result Request Defect
request_in bs =
    with_field (Err Mode) number_in
    (λ m words. with_field (Err Dividend) word_in (λ v rest. and_then (Err Divisor) (word_in rest) (λ w. Ok (record { mode = m; pair = record { dividend = v; divisor = w } }))) words) bs
