-- How tenths are shown. Assumes nothing.
use Rattle.std.specs.Prelude.{ℕ, ◌/◌, ◌%◌, cond, List, ◌++◌, ℤ, pos, codes, decimal, int_lt, unsigned_abs}

-- 11.2, with one digit behind the point
abbrev pub magnitude_text : ℕ → List ℕ
magnitude_text n = decimal (n / 10) ++ (codes "." ++ decimal (n % 10))

-- -0.4, 0.0, 11.2
abbrev pub tenths_text : ℤ → List ℕ
tenths_text z = cond (int_lt z (pos 0)) (codes "-" ++ magnitude_text (unsigned_abs z)) (magnitude_text (unsigned_abs z))
