-- What a positive float's pattern is read as, with a sign set beside it: the digits times a power of two.
use Rattle.std.proofs.Common.{◌≡◌, ℕ, zero, suc, ◌+◌, ◌-◌, ◌*◌, ◌/◌, ◌%◌, ◌^◌, ◌<◌, ◌≤◌, Bool, true, false, refl, lt_of_lt_of_le, lt_of_le_of_lt, add-zero}
use Rattle.std.proofs.Common.{mod-lt, mod-eq_of_lt, mul-one, arith, lit≤, pow_pos, ne_eqb, le-leb}
use native.Mathlib.Nat.{mul-mod_left}
use lib.Bits.{bit_and, bit_or, and_mask, or_shifted_r}
use lib.Count.{count_leading_zeros, leading_top}
use lib.Ieee.{binary64, of_fields, of_bits}
use lib.Ieee.Exact.{HasValue, odd_sign}
use borrow.Author.Tests.{lt-leb}
use Rattle.rounding.specs.Near.{Taken, signed}
use Rattle.rounding.proofs.Powers.{one_shift, two_shifts, shift_under, shift_over, exponent_under}
use Rattle.rounding.proofs.Whole.{rescale}

-- ---- the three fields of a pattern b with a sign
by_fields : (b : ℕ) (s : Bool) → b < 2 ^ 63 → signed s b ≡ of_fields binary64 s (b / 2 ^ 52) (b % 2 ^ 52)
unfolding of_bits
by_fields b true h =
    let field : (b + 2 ^ 63) % 2 ^ 63 / 2 ^ 52 ≡ b / 2 ^ 52 = omega arith in
    let digits : (b + 2 ^ 63) % 2 ^ 52 ≡ b % 2 ^ 52 = omega arith in
    rw (le-leb (2 ^ 63) (b + 2 ^ 63) (omega arith), field, digits)
by_fields b false h = rw (add-zero b, lt-leb (2 ^ 63) b h, mod-eq_of_lt h)

low_fields : (s : Bool) (t : ℕ) → HasValue (of_fields binary64 s 0 t) s t (2 ^ 1074)
unfolding of_fields
low_fields s t = rw (mul-one t) at (odd_sign 53 s t 0 1074)

mid_fields : (s : Bool) (x t : ℕ) → 0 < x → x < 2047 → HasValue (of_fields binary64 s x t) s ((2 ^ 52 + t) * 2 ^ (x - 1)) (2 ^ 1074)
unfolding of_fields
mid_fields s zero t p h = absurd (omega arith)
mid_fields s (suc x) t p h =
    let less : suc x - 1 ≡ x = omega arith in
    rw (less, ne_eqb (suc x) 2047 (omega arith)) (odd_sign 53 s (2 ^ 52 + t) x 1074)

-- the value a of the fields in units of 2 ^ -1074, as v in units of 2 ^ -1136
read_as : (b : ℕ) (s : Bool) (a v : ℕ) → b < 2 ^ 63 → v ≡ a * 2 ^ 62 → HasValue (of_fields binary64 s (b / 2 ^ 52) (b % 2 ^ 52)) s a (2 ^ 1074)
    → HasValue (signed s b) s v (2 ^ 1136)
read_as b s a v h e i =
    rescale (signed s b) s a (2 ^ 1074) v (2 ^ 1136) (pow_pos 1074) (rw e (one_shift a 62 1074 1136 refl)) (rw (by_fields b s h) i)

-- the zeros above the leading digit of a subnormal, as the program counts them
abbrev pub lead : ℕ → ℕ
lead b = count_leading_zeros 64 (bit_and b (2 ^ 52 - 1))

-- ---- a subnormal
module _ (b : ℕ) (pos : 0 < b) (f : b / 2 ^ 52 ≡ 0) where
  abbrev t : ℕ
  t = b % 2 ^ 52

  abbrev z : ℕ
  z = count_leading_zeros 64 t

  -- z zeros, and the leading digit at j
  top : (j : ℕ) × (z + suc j ≡ 64) × (2 ^ j ≤ t) × (t < 2 ^ suc j)
  top = leading_top 64 t (omega arith) (omega arith)

  range : (12 ≤ z) × (z ≤ 63)
  range = omega (arith, top.1, exponent_under top.0 52 (lt_of_le_of_lt top.2 (mod-lt b (pow_pos 52))))

  most : t * 2 ^ (z - 1) < 2 ^ 63
  most = shift_under (suc top.0) (z - 1) 63 top.3 (omega (arith, top.1, range))

  taken : Taken b (t * 2 ^ (z - 1) % 2 ^ 64) (62 - (z - 1))
  taken = rw (mod-eq_of_lt (lt_of_lt_of_le most (lit≤ tt))) (record {
    least = shift_over top.0 (z - 1) 62 top.2 (omega (arith, top.1));
    most = most;
    whole = rw (← (one_shift t (z - 11) 10 (z - 1) (omega (arith, range)))) (mul-mod_left (t * 2 ^ (z - 11)) 1024);
    far = omega arith;
    value = λ s. read_as b s t (t * 2 ^ (z - 1) * 2 ^ (62 - (z - 1))) (omega arith) (one_shift t (z - 1) (62 - (z - 1)) 62 (omega (arith, range)))
        (rw f (low_fields s t));
  })

  -- as the program has it, with the mask
  pub lead_range : (12 ≤ lead b) × (lead b ≤ 63)
  lead_range = rw (and_mask b 52) range

  pub taken_masked : Taken b (bit_and b (2 ^ 52 - 1) * 2 ^ (lead b - 1) % 2 ^ 64) (62 - (lead b - 1))
  taken_masked = rw (and_mask b 52) taken

-- ---- a normal float
module _ (b : ℕ) (h : b < 0x7ff0_0000_0000_0000) (n : b / 2 ^ 52 ≡ 0 → ⊥) where
  abbrev x : ℕ
  x = b / 2 ^ 52

  abbrev d : ℕ
  d = b % 2 ^ 52

  pub taken_normal : Taken b ((2 ^ 52 + d) * 1024) (x + 51)
  taken_normal = record {
    least = omega arith;
    most = omega arith;
    whole = omega arith;
    far = omega arith;
    value = λ s. read_as b s ((2 ^ 52 + d) * 2 ^ (x - 1)) ((2 ^ 52 + d) * 1024 * 2 ^ (x + 51)) (omega arith)
        (two_shifts (2 ^ 52 + d) 10 (x + 51) (x - 1) 62 (omega arith)) (mid_fields s x d (omega arith) (omega arith));
  }

  -- as the program has it, with the masks
  pub normal_masked : Taken b (bit_or (bit_and b (2 ^ 52 - 1)) (2 ^ 52) * 1024 % 2 ^ 64) (x + 51)
  normal_masked =
      rw (and_mask b 52, or_shifted_r 1 52 d (mod-lt b (pow_pos 52)), mod-eq_of_lt (lt_of_lt_of_le taken_normal.most (lit≤ tt))) taken_normal
