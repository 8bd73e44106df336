-- The exception flags. Assumes nothing.
use Rattle.std.specs.Prelude.{ℕ, ◌+◌, false, cond, ◌||◌}
use Rattle.rounding.specs.declared.flags.Flags.{Flags}

abbrev pub no_flags : Flags
no_flags = record { inexact = false; underflow = false; overflow = false; division_by_zero = false; invalid = false }

abbrev pub raised_by_either : Flags → Flags → Flags
raised_by_either f g =
    record {
      inexact = f.inexact || g.inexact;
      underflow = f.underflow || g.underflow;
      overflow = f.overflow || g.overflow;
      division_by_zero = f.division_by_zero || g.division_by_zero;
      invalid = f.invalid || g.invalid;
    }

-- the sum of the numbers of the flags that are raised
abbrev pub flags_number : Flags → ℕ
flags_number f =
    cond f.inexact 1 0 + cond f.underflow 2 0 + cond f.overflow 4 0 + cond f.division_by_zero 8 0 + cond f.invalid 16 0
