-- The bit pattern of q * 2 ^ k units of 2 ^ -1074, infinities included, and what a pattern is read as.
use Rattle.std.proofs.Common.{◌≡◌, ℕ, zero, suc, ◌+◌, ◌-◌, ◌*◌, ◌/◌, ◌%◌, ◌^◌, ◌<◌, ◌≤◌, Bool, true, false, cond, not, T, ltb, ◌⊎◌, refl, ◌∙◌, inl, inr}
use Rattle.std.proofs.Common.{le_refl, lt_of_le_of_lt, eq-or-lt_of_le, mul-div_cancel, arith, lit<, lit≤, pow_pos, shl_lt, le-ltb, lt-ltb}
use lib.Ieee.{inf, binary64, size, odd, units, is_nan, of_bits, to_bits, nan_bits}
use lib.Ieee.Digits.{size-le}
use lib.Ieee.Fits.{odd-fits}
use lib.Ieee.Bits.{of_bits-to_bits, nan_bits_is, nan_bits_above}
use lib.Ieee.Exact.{odd_sign}
use Rattle.float.proofs.Itself.{bits_of_value}
use Rattle.rounding.specs.Near.{signed}
use Rattle.rounding.proofs.Powers.{two_powers, shift_under, shift_over}
use Rattle.rounding.proofs.Sticky.{size_gt}

-- ---- q * 2 ^ k, in the two fields
abbrev fields : ℕ → ℕ
fields n = (size n - 53) * 2 ^ 52 + n / 2 ^ (size n - 53)

in_place : (q k : ℕ) → q < 2 ^ 53 → (k ≡ 0) ⊎ (2 ^ 52 ≤ q) → size (q * 2 ^ k) - 53 ≡ k
in_place q k h (inl e) = omega (arith, size-le (q * 2 ^ k) (53 + k) (shl_lt 53 k h))
in_place q k h (inr l) =
    omega (arith, size-le (q * 2 ^ k) (53 + k) (shl_lt 53 k h), size_gt (q * 2 ^ k) (52 + k) (shift_over 52 k (52 + k) l (le_refl (52 + k))))

fields_below : (q k : ℕ) → q < 2 ^ 53 → (k ≡ 0) ⊎ (2 ^ 52 ≤ q) → fields (q * 2 ^ k) ≡ k * 2 ^ 52 + q
fields_below q k h w = rw (in_place q k h w, mul-div_cancel q (pow_pos k))

-- at q = 2 ^ 53 the carry goes on into the exponent's field
fields_of : (q k : ℕ) → q ≤ 2 ^ 53 → (k ≡ 0) ⊎ (2 ^ 52 ≤ q) → fields (q * 2 ^ k) ≡ k * 2 ^ 52 + q
fields_of q k h w = elim (eq-or-lt_of_le h) [
  | inl e ↦
      let carried : (k + 1) * 2 ^ 52 + 2 ^ 52 ≡ k * 2 ^ 52 + 2 ^ 53 = omega arith in
      rw (e, two_powers 53 k 52 (k + 1) (omega arith)) (fields_below (2 ^ 52) (k + 1) (lit< tt) (inr (le_refl (2 ^ 52))) ∙ carried)
  | inr l ↦ fields_below q k l w
]

-- ---- `units`, below the overflow and from it on
units_odd : (s : Bool) (q k : ℕ) → q * 2 ^ k < 2 ^ 2098 → units binary64 s q k ≡ odd 54 s q k 1074
unfolding units
units_odd s q k h = rw (lt-ltb (q * 2 ^ k) (2 ^ 2098) h)

units_inf : (s : Bool) (q k : ℕ) → 2 ^ 2098 ≤ q * 2 ^ k → units binary64 s q k ≡ inf s
unfolding units
units_inf s q k h = rw (le-ltb (q * 2 ^ k) (2 ^ 2098) h)

pub inf_bits : (s : Bool) → of_bits binary64 (0x7ff0_0000_0000_0000 + cond s (2 ^ 63) 0) ≡ inf s
unfolding of_bits
inf_bits true = refl
inf_bits false = refl

finite_bits : (s : Bool) (q k : ℕ) → q ≤ 2 ^ 53 → (k ≡ 0) ⊎ (2 ^ 52 ≤ q) → q * 2 ^ k < 2 ^ 2098 → signed s (k * 2 ^ 52 + q) ≡ units binary64 s q k
finite_bits s q k h w l =
    let v = odd 54 s q k 1074 in
    let bits : to_bits binary64 v ≡ k * 2 ^ 52 + q + cond s (2 ^ 63) 0 =
    omega (arith, bits_of_value v s (q * 2 ^ k) (odd_sign 54 s q k 1074), fields_of q k h w) in
    rw (units_odd s q k l, ← bits) (of_bits-to_bits binary64 v (odd-fits binary64 54 s q k (lt_of_le_of_lt h (lit< tt)) h l))

-- only 2 ^ 53 * 2 ^ 2045 reaches the overflow
pub packed : (s : Bool) (q k : ℕ) → q ≤ 2 ^ 53 → (k ≡ 0) ⊎ (2 ^ 52 ≤ q) → k ≤ 2045 → signed s (k * 2 ^ 52 + q) ≡ units binary64 s q k
packed s q k h w j = go (eq-or-lt_of_le h) (eq-or-lt_of_le j)
  where
    go : (q ≡ 2 ^ 53) ⊎ (q < 2 ^ 53) → (k ≡ 2045) ⊎ (k < 2045) → signed s (k * 2 ^ 52 + q) ≡ units binary64 s q k
    go (inr a) b = finite_bits s q k h w (shift_under 53 k 2098 a (omega arith))
    go (inl a) (inr b) = finite_bits s q k h w (shift_under 54 k 2098 (omega arith) (omega arith))
    go (inl a) (inl b) = rw (a, b, units_inf s (2 ^ 53) 2045 (lit≤ tt)) (inf_bits s)

pub packed_over : (s : Bool) (q k : ℕ) → (k ≡ 0) ⊎ (2 ^ 52 ≤ q) → 2045 < k → signed s 0x7ff0_0000_0000_0000 ≡ units binary64 s q k
packed_over s q k (inl e) j = absurd (omega arith)
packed_over s q k (inr l) j = rw (units_inf s q k (shift_over 52 k 2098 l (omega arith))) (inf_bits s)

-- ---- no NaN is written
units_real : (s : Bool) (q k : ℕ) → T (not (is_nan (units binary64 s q k)))
unfolding units odd is_nan
units_real s q k = go q (ltb (q * 2 ^ k) (2 ^ 2098))
  where
    go : (q : ℕ) (b : Bool) → T (not (is_nan (cond b (odd 54 s q k 1074) (inf s))))
    go q false = tt
    go zero true = tt
    go (suc q) true = tt

pub no_nan : (b : ℕ) (s : Bool) (q k : ℕ) → of_bits binary64 b ≡ units binary64 s q k → T (not (nan_bits binary64 b))
no_nan b s q k e = rw (nan_bits_is binary64 b, e) (units_real s q k)

-- and none has a pattern up to that of the infinity
pub small_real : (b : ℕ) → b ≤ 0x7ff0_0000_0000_0000 → T (not (nan_bits binary64 b))
small_real b h = rw (nan_bits_above binary64 b, le-ltb 0x7ff0_0000_0000_0000 (b % 2 ^ 63) (omega arith)) tt
