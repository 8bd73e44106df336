-- Densely packed decimal: three digits in ten bits, by the truth tables of IEEE 754-2008. Assumes nothing.
use Rattle.std.specs.Prelude.{ℕ, ◌+◌, ◌*◌, ◌/◌, ◌%◌, ◌^◌, Bool, true, false, cond, ◌==◌}

pub data Bit : Type 0 where
  O : Bit
  I : Bit

abbrev pub worth : Bit → ℕ
worth O = 0
worth I = 1

-- bit i of n, the lowest being 0
abbrev pub bit : ℕ → ℕ → Bit
bit i n = cond (n / 2 ^ i % 2 == 0) O I

-- a digit below 8 by its three bits, a digit 8 or 9 by its last, and a number by its three digits
abbrev pub small : Bit → Bit → Bit → ℕ
small a b c = 4 * worth a + 2 * worth b + worth c

abbrev pub large : Bit → ℕ
large c = 8 + worth c

abbrev pub three : ℕ → ℕ → ℕ → ℕ
three a b c = 100 * a + 10 * b + c

-- Reading: the declet p q r s t u v w x y.
abbrev pub read_bits : (p q r s t u v w x y : Bit) → ℕ
read_bits p q r s t u O w x y = three (small p q r) (small s t u) (small w x y)
read_bits p q r s t u I O O y = three (small p q r) (small s t u) (large y)
read_bits p q r s t u I O I y = three (small p q r) (large u) (small s t y)
read_bits p q r s t u I I O y = three (large r) (small s t u) (small p q y)
read_bits p q r O O u I I I y = three (large r) (large u) (small p q y)
read_bits p q r O I u I I I y = three (large r) (small p q u) (large y)
read_bits p q r I O u I I I y = three (small p q r) (large u) (large y)
read_bits p q r I I u I I I y = three (large r) (large u) (large y)

-- the number that a declet stands for
unfoldable pub declet_value : ℕ → ℕ
declet_value n = read_bits (bit 9 n) (bit 8 n) (bit 7 n) (bit 6 n) (bit 5 n) (bit 4 n) (bit 3 n) (bit 2 n) (bit 1 n) (bit 0 n)

-- the declet p q r s t u v w x y
abbrev pub ten : (p q r s t u v w x y : Bit) → ℕ
ten p q r s t u v w x y =
    512 * worth p + 256 * worth q + 128 * worth r + 64 * worth s + 32 * worth t + 16 * worth u + 8 * worth v + 4 * worth w + 2 * worth x + worth y

-- Writing: the three digits a b c d, e f g h and i j k m.
abbrev pub write_bits : (a b c d e f g h i j k m : Bit) → ℕ
write_bits O b c d O f g h O j k m = ten b c d f g h O j k m
write_bits O b c d O f g h I j k m = ten b c d f g h I O O m
write_bits O b c d I f g h O j k m = ten b c d j k h I O I m
write_bits O b c d I f g h I j k m = ten b c d I O h I I I m
write_bits I b c d O f g h O j k m = ten j k d f g h I I O m
write_bits I b c d O f g h I j k m = ten f g d O I h I I I m
write_bits I b c d I f g h O j k m = ten j k d O O h I I I m
write_bits I b c d I f g h I j k m = ten O O d I I h I I I m

abbrev pub write_digits : ℕ → ℕ → ℕ → ℕ
write_digits l m n =
    write_bits (bit 3 l) (bit 2 l) (bit 1 l) (bit 0 l) (bit 3 m) (bit 2 m) (bit 1 m) (bit 0 m) (bit 3 n) (bit 2 n) (bit 1 n) (bit 0 n)

-- the declet of a number below a thousand
unfoldable pub declet_of : ℕ → ℕ
declet_of n = write_digits (n / 100) (n / 10 % 10) (n % 10)

-- Three large digits leave the bits p and q unused. A declet is canonical if they are zero, or are used.
abbrev pub both_zero : Bit → Bit → Bool
both_zero O O = true
both_zero O I = false
both_zero I q = false

abbrev pub unused_zero : (p q s t v w x : Bit) → Bool
unused_zero p q O t v w x = true
unused_zero p q I O v w x = true
unused_zero p q I I O w x = true
unused_zero p q I I I O x = true
unused_zero p q I I I I O = true
unused_zero p q I I I I I = both_zero p q

unfoldable pub canonical_declet : ℕ → Bool
canonical_declet n = unused_zero (bit 9 n) (bit 8 n) (bit 6 n) (bit 5 n) (bit 3 n) (bit 2 n) (bit 1 n)
