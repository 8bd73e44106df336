-- Eight hexadecimal digits. Assumes nothing.
use Rattle.std.proofs.Common.{◌≡◌, ℕ, zero, suc, ◌+◌, ◌-◌, ◌*◌, ◌/◌, ◌%◌, ◌^◌, ◌<◌, ◌≤◌, ◌&&◌, true, false, eqb, List, [], ◌∷◌, ◌++◌, length, replicate, Some, None, sym, refl, ap, ◌∙◌, inl, inr, append_assoc, append-nil, pow-suc, arith}
use Rattle.std.proofs.Math.Nat.{one-le-pow, div-eq_of_lt, div-div-eq-div-mul}
use Rattle.std.specs.Fmt.{digits, digits_onto, padded_integral, char_count, format_spec}
use lib.Arith.{mod-mul}
use Rattle.std.specs.Char.{digit_value, is_digit}
use Rattle.std.specs.List.{list_all}
use Rattle.std.specs.Str.Parse.{digits_value_after}
use Rattle.std.proofs.lemmas.Bool.{cases_lt, cond-true, cond-false, eq-eqb, ne_eqb, lt-ltb}
use Rattle.std.proofs.lemmas.Bool.Decides.{nat_tests}
use Rattle.text.specs.Texts.{hex_digit, hex_digits, word_text, word_in}

-- what is written of a word is read as it again

digit_back : (d : ℕ) → d < 16 → digit_value (hex_digit d) ≡ d
digit_back d h = grind (arith, nat_tests)

all_digits : (k w : ℕ) → list_all (λ b. is_digit b 16) (hex_digits k w) ≡ true
all_digits zero w = refl
all_digits (suc k) w =
    let d : ℕ = w / 16 ^ k % 16 in
    let small : d < 16 = omega arith in
    ap (λ b. b && list_all (λ c. is_digit c 16) (hex_digits k w)) (lt-ltb (digit_value (hex_digit d)) 16 (omega (arith, digit_back d small))) ∙ all_digits k w

value_back : (k n w : ℕ) → digits_value_after 16 n (hex_digits k w) ≡ n * 16 ^ k + w % 16 ^ k
value_back zero n w = omega arith
value_back (suc k) n w =
    let d : ℕ = w / 16 ^ k % 16 in
    let small : d < 16 = omega arith in
    let p : 1 ≤ 16 ^ k = one-le-pow k 16 (omega arith) in
    let m : w % (16 * 16 ^ k) ≡ d * 16 ^ k + w % 16 ^ k = mod-mul w (omega arith) p in
    let e : 16 ^ suc k ≡ 16 * 16 ^ k = rw pow-suc (omega arith) in
    ap (λ v. digits_value_after 16 (n * 16 + v) (hex_digits k w)) (digit_back d small)
    ∙ value_back k (n * 16 + d) w
    ∙ rw (e, m) (omega arith)

pub word_back : (w : ℕ) → w < 2 ^ 32 → word_in (word_text w) ≡ Some w
word_back w h = cond-true (list_all (λ b. is_digit b 16) (word_text w)) _ _ (all_digits 8 w) ∙ ap Some (value_back 8 0 w ∙ omega arith)

-- what `{:08X}` writes of a word

-- the last digit stands behind those of the front
last_digit : (k n : ℕ) → hex_digits (suc k) n ≡ hex_digits k (n / 16) ++ (hex_digit (n % 16) ∷ [])
last_digit zero n = ap (λ d. hex_digit d ∷ []) (omega arith)
last_digit (suc k) n =
    let p : 16 ^ suc k ≡ 16 * 16 ^ k = rw pow-suc (omega arith) in
    let e : n / 16 ^ suc k ≡ n / 16 / 16 ^ k = ap (λ m. n / m) p ∙ sym (div-div-eq-div-mul n 16 (16 ^ k)) in
    ap (λ d. hex_digit (d % 16) ∷ hex_digits (suc k) n) e ∙ ap (λ ds. hex_digit (n / 16 / 16 ^ k % 16) ∷ ds) (last_digit k n)

-- a number below sixteen has zeros in front
one_digit : (k n : ℕ) → n < 16 → hex_digits (suc k) n ≡ replicate k 48 ++ (hex_digit (n % 16) ∷ [])
one_digit zero n h = ap (λ d. hex_digit d ∷ []) (omega arith)
one_digit (suc k) n h =
    let p : 16 ^ suc k ≡ 16 * 16 ^ k = rw pow-suc (omega arith) in
    let q : 1 ≤ 16 ^ k = one-le-pow k 16 (omega arith) in
    let below : n < 16 ^ suc k = omega arith in
    let none : n / 16 ^ suc k % 16 ≡ 0 = ap (λ d. d % 16) (div-eq_of_lt below) in
    ap (λ d. hex_digit d ∷ hex_digits (suc k) n) none ∙ ap (λ ds. 48 ∷ ds) (one_digit k n h)

-- digits with zeros in front of them, up to this many bytes
abbrev filled : ℕ → List ℕ → List ℕ
filled n bs = replicate (n - length bs) 48 ++ bs

digits_filled : (i k n : ℕ) (bs : List ℕ) → k < i → n < 16 ^ suc k → filled (suc k + length bs) (digits_onto i 16 true n bs) ≡ hex_digits (suc k) n ++ bs
digits_filled zero k n bs l h = absurd (omega arith)
digits_filled (suc i) k n bs l h =
    elim (cases_lt n 16) [
      | inl s ↦
          let zeros : (suc k + length bs) - suc (length bs) ≡ k = omega arith in
          ap (filled (suc k + length bs)) (cond-true (eqb (n / 16) 0) _ _ (eq-eqb (n / 16) 0 (omega arith)))
          ∙ ap (λ m. replicate m 48 ++ (hex_digit (n % 16) ∷ bs)) zeros
          ∙ sym (ap (λ ds. ds ++ bs) (one_digit k n s) ∙ append_assoc (replicate k 48) (hex_digit (n % 16) ∷ []) bs)
      | inr s ↦ by_front k l h s (λ j. digits_filled i j (n / 16) (hex_digit (n % 16) ∷ bs))
    ]
  where
    by_front : (j : ℕ) → j < suc i → n < 16 ^ suc j → 16 ≤ n
        → ((m : ℕ) → m < i → n / 16 < 16 ^ suc m → filled (suc m + suc (length bs)) (digits_onto i 16 true (n / 16) (hex_digit (n % 16) ∷ bs)) ≡ hex_digits (suc m) (n / 16) ++ (hex_digit (n % 16) ∷ bs))
        → filled (suc j + length bs) (digits_onto (suc i) 16 true n bs) ≡ hex_digits (suc j) n ++ bs
    by_front zero l h s front = absurd (omega arith)
    by_front (suc j) l h s front =
        let p : 16 ^ suc (suc j) ≡ 16 * 16 ^ suc j = rw pow-suc (omega arith) in
        let room : suc (suc j) + length bs ≡ suc j + suc (length bs) = omega arith in
        ap (filled (suc (suc j) + length bs)) (cond-false (eqb (n / 16) 0) _ _ (ne_eqb (n / 16) 0 (λ z. omega arith)))
        ∙ ap (λ m. filled m (digits_onto i 16 true (n / 16) (hex_digit (n % 16) ∷ bs))) room
        ∙ front j (omega arith) (omega arith)
        ∙ sym (ap (λ ds. ds ++ bs) (last_digit (suc j) n) ∙ append_assoc (hex_digits (suc j) (n / 16)) (hex_digit (n % 16) ∷ []) bs)

pub word_shown : (w : ℕ) → w < 2 ^ 32 → padded_integral (format_spec 32 0 4 8 (2 ^ 64 - 1)) false [] (digits 16 true w) ≡ word_text w
unfolding padded_integral char_count digits
word_shown w h =
    let ds = digits 16 true w in
    let zeros : 8 - length ds - 0 - 0 ≡ 8 - length ds = omega arith in
    ap (λ n. replicate n 48 ++ (ds ++ [])) zeros ∙ ap (λ bs. replicate (8 - length ds) 48 ++ bs) (append-nil ds)
    ∙ digits_filled 64 7 w [] (omega arith) (omega arith) ∙ append-nil (word_text w)

-- more than eight bytes are no word
pub too_long : (bs : List ℕ) → 8 < length bs → word_in bs ≡ None
too_long bs h = cond-false (eqb (length bs) 8) _ _ (ne_eqb (length bs) 8 (λ e. omega arith))
