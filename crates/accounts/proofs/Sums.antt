-- The law over the items of an account. Assumes nothing.
use Rattle.std.proofs.Common.{◌≡◌, ℕ, ◌+◌, ◌*◌, ◌<◌, ◌≤◌, Bool, true, false, cond, not, ◌&&◌, List, [], ◌∷◌, ℤ, pos, ◌+ℤ◌, ◌-ℤ◌, ◌*ℤ◌, nat_abs, ◌≤ℤ◌, refl, ap, mul-le-mul_right, mul-pos, arith}
use borrow.Author.Differences.{up, down, sum_is_lem, same_in}
use Rattle.std.proofs.lemmas.Int.{ints}
use Rattle.std.specs.List.{AllByRecursion}
use Rattle.rounding.specs.declared.mode.Mode.TheVariants.{Floor}
use Rattle.card.specs.Tallies.{Tally, is_near}
use Rattle.accounts.specs.Exact.{fraction, value, is_whole_number}
use Rattle.accounts.specs.Account.{Item}
use Rattle.accounts.specs.Law.{Totals, Bounds, total_of, count_of, floor, figure, ceiling, inexact_near, inexact_far, exact_sum}
use Rattle.accounts.proofs.Beside.{gap, weight, rest, parts, rest_gap, ceiling_gap, rise, scale}

abbrev nears : List Item → ℕ
nears items = count_of inexact_near items

abbrev fars : List Item → ℕ
fars items = count_of inexact_far items

abbrev pub Divided : List Item → Type 0
Divided items = AllByRecursion (λ x. 0 < x.quotient.bottom) items

-- All in naturals: the exact sum lies r parts above the sum of the floors, and the sum of the values u steps.
record Held (items : List Item) : Type 0 where
  r : ℕ
  u : ℕ
  den_pos : 0 < (exact_sum items).den
  num_is : (exact_sum items).num ≡ total_of floor items *ℤ pos (exact_sum items).den +ℤ pos r
  r_le : r ≤ (nears items + fars items) * (exact_sum items).den
  high_is : total_of ceiling items ≡ total_of floor items +ℤ pos (nears items + fars items)
  figure_is : total_of figure items ≡ total_of floor items +ℤ pos u
  over : 2 * (u * (exact_sum items).den) ≤ 2 * r + (nears items + 2 * fars items) * (exact_sum items).den
  under : 2 * r ≤ 2 * (u * (exact_sum items).den) + (nears items + 2 * fars items) * (exact_sum items).den

-- what an item adds to the counts
counts : (x : Item) → (cond (inexact_near x) 1 0 + cond (inexact_far x) 1 0 ≡ gap x.quotient) × (cond (inexact_near x) 1 0 + 2 * cond (inexact_far x) 1 0 ≡ weight x.mode x.quotient)
counts x = by (is_whole_number x.quotient) (is_near x.mode)
  where
    by : (w n : Bool) → (cond (not w && n) 1 0 + cond (not w && not n) 1 0 ≡ cond w 0 1) × (cond (not w && n) 1 0 + 2 * cond (not w && not n) 1 0 ≡ cond w 0 (cond n 1 2))
    by true true = (refl, refl)
    by true false = (refl, refl)
    by false true = (refl, refl)
    by false false = (refl, refl)

-- two parts added, each with its floor and its rest: over the naturals, and then over the integers
flat : (n n' f f' N N' L L' s s' d D r R : ℕ) → n + f' * d ≡ n' + f * d + r → N + L' * D ≡ N' + L * D + R → s + f' + L' ≡ s' + f + L → n * D + N * d + s' * (d * D) ≡ n' * D + N' * d + s * (d * D) + (r * D + R * d)
flat n n' f f' N N' L L' s s' d D r R e E t = omega (arith, ap (λ x. x * D) e, ap (λ x. x * d) E, ap (λ x. x * (d * D)) t)

joined : (n f N L : ℤ) (d D r R : ℕ) → n ≡ f *ℤ pos d +ℤ pos r → N ≡ L *ℤ pos D +ℤ pos R → n *ℤ pos D +ℤ N *ℤ pos d ≡ (f +ℤ L) *ℤ pos (d * D) +ℤ pos (r * D + R * d)
joined n f N L d D r R e E =
    let e₁ : up n + down f * d ≡ down n + up f * d + r = omega (arith, ints) in
    let E₁ : up N + down L * D ≡ down N + up L * D + R = omega (arith, ints) in
    let t = flat (up n) (down n) (up f) (down f) (up N) (down N) (up L) (down L) (up (f +ℤ L)) (down (f +ℤ L)) d D r R e₁ E₁ (omega (arith, sum_is_lem f L)) in
    same_in _ _ (omega (arith, t, scale n D, scale N d, scale (f +ℤ L) (d * D), sum_is_lem (n *ℤ pos D) (N *ℤ pos d), sum_is_lem ((f +ℤ L) *ℤ pos (d * D)) (pos (r * D + R * d))))

step_r : (r R g G d D : ℕ) → r ≤ g * d → R ≤ G * D → r * D + R * d ≤ (g + G) * (d * D)
step_r r R g G d D h H = omega (arith, mul-le-mul_right D h, mul-le-mul_right d H)

step_over : (u U r R w W d D : ℕ) → 2 * (u * d) ≤ 2 * r + w * d → 2 * (U * D) ≤ 2 * R + W * D → 2 * ((u + U) * (d * D)) ≤ 2 * (r * D + R * d) + (w + W) * (d * D)
step_over u U r R w W d D h H = omega (arith, mul-le-mul_right D h, mul-le-mul_right d H)

step_under : (u U r R w W d D : ℕ) → 2 * r ≤ 2 * (u * d) + w * d → 2 * R ≤ 2 * (U * D) + W * D → 2 * (r * D + R * d) ≤ 2 * ((u + U) * (d * D)) + (w + W) * (d * D)
step_under u U r R w W d D h H = omega (arith, mul-le-mul_right D h, mul-le-mul_right d H)

held : (items : List Item) → Divided items → Held items
held [] h = record { r = 0; u = 0; den_pos = omega arith; num_is = refl; r_le = omega arith; high_is = refl; figure_is = refl; over = omega arith; under = omega arith }
held (x ∷ xs) h =
    let t = held xs h.1 in
    let q = x.quotient in
    let e = exact_sum xs in
    let k = counts x in
    let v = rise x.mode q h.0 in
    let g : nears (x ∷ xs) + fars (x ∷ xs) ≡ gap q + (nears xs + fars xs) = omega (arith, k.0) in
    let w : nears (x ∷ xs) + 2 * fars (x ∷ xs) ≡ weight x.mode q + (nears xs + 2 * fars xs) = omega (arith, k.1) in
    record {
      r = rest q * e.den + t.r * q.bottom;
      u = v.u + t.u;
      den_pos = mul-pos h.0 t.den_pos;
      num_is = joined (fraction q).num (value Floor q) e.num (total_of floor xs) q.bottom e.den (rest q) t.r (parts q h.0) t.num_is;
      r_le = rw g (step_r (rest q) t.r (gap q) (nears xs + fars xs) q.bottom e.den (rest_gap q h.0) t.r_le);
      high_is = rw g (let c = ceiling_gap q in let s = t.high_is in omega (arith, ints));
      figure_is = let c = v.is in let s = t.figure_is in omega (arith, ints);
      over = rw w (step_over v.u t.u (rest q) t.r (weight x.mode q) (nears xs + 2 * fars xs) q.bottom e.den v.over t.over);
      under = rw w (step_under v.u t.u (rest q) t.r (weight x.mode q) (nears xs + 2 * fars xs) q.bottom e.den v.under t.under);
    }

-- the same in the words of the law, over plain numbers
law_above : (n low high : ℤ) (d r k : ℕ) → n ≡ low *ℤ pos d +ℤ pos r → high ≡ low +ℤ pos k → r ≤ k * d → n ≤ℤ (high *ℤ pos d)
law_above n low high d r k p e l =
    let s : up high + down low ≡ down high + up low + k = omega (arith, ints) in
    omega (arith, ints, ap (λ t. t * d) s)

law_error : (n low figure : ℤ) (d r u w : ℕ) → n ≡ low *ℤ pos d +ℤ pos r → figure ≡ low +ℤ pos u → 2 * (u * d) ≤ 2 * r + w * d → 2 * r ≤ 2 * (u * d) + w * d → 2 * nat_abs (figure *ℤ pos d -ℤ n) ≤ w * d
law_error n low figure d r u w p e o b =
    let s : up figure + down low ≡ down figure + up low + u = omega (arith, ints) in
    omega (arith, ints, ap (λ t. t * d) s)

-- a card that holds the sums of the items keeps the bounds
pub bounds : (items : List Item) (c : Tally) → Divided items → Totals items c → Bounds (exact_sum items) c
bounds items c h t =
    let l = held items h in
    let e = exact_sum items in
    record {
      denominator_positive = l.den_pos;
      sum_not_below_low = rw t.low_is_the_sum_of_floors (let p = l.num_is in omega (arith, ints));
      sum_not_above_high = rw t.high_is_the_sum_of_ceilings (law_above e.num _ _ e.den l.r _ l.num_is l.high_is l.r_le);
      spread_is_near_and_far = rw (t.high_is_the_sum_of_ceilings, t.low_is_the_sum_of_floors, t.near_counts_inexact_near, t.far_counts_inexact_far) (let s = l.high_is in omega (arith, ints));
      figure_close_to_sum = rw (t.figure_is_the_sum_of_values, t.near_counts_inexact_near, t.far_counts_inexact_far) (law_error e.num _ _ e.den l.r l.u _ l.num_is l.figure_is l.over l.under);
    }
