-- The cases that the root settles by tests on the float, and what those tests say of its bits.
use Rattle.std.proofs.Common.{◌≡◌, ℕ, zero, suc, ◌+◌, ◌*◌, ◌%◌, ◌^◌, ◌<◌, ◌≤◌, Bool, true, false, not, T, eqb, ltb, ℤ, sym, refl, ap, ◌∙◌, true≢false}
use Rattle.std.proofs.Common.{mod-eq_of_lt, le_antisymm, pos_of_ne-zero, zero-mul, arith, lit<, eqb→eq, ltb-false, ne_eqb}
use mathlib.Core.Bool.{false≢true}
use native.Mathlib.Nat.{eq_of_mul-eq-mul_right}
use lib.Ieee.{Float, nan, inf, fin, binary64, up, down, fits, is_nan, eq, lt, of_bits, to_bits}
use lib.Ieee.Fits.{up_pos, and_l}
use lib.Ieee.Bits.{of_bits-to_bits, to_bits-lt, nan_bits_is, nan_bits_above, is_false}
use Rattle.rounding.specs.Root.{root}
use Rattle.rounding.proofs.Special.{root_infinity, root-zero}
use Rattle.rounding.proofs.Packed.{inf_bits}

pub yes : {b : Bool} → b ≡ true → T b
yes h = rw h tt

-- ---- zero
no_factor : (m u : ℕ) → 0 < u → m * u ≡ 0 → m ≡ 0
no_factor m u h e = eq_of_mul-eq-mul_right u h m 0 (omega arith)

pub at_zero : (x : Float) → eq x (of_bits binary64 0) ≡ true → x ≡ root x
unfolding eq of_bits
at_zero nan h = absurd (false≢true h)
at_zero (inf s) h = absurd (false≢true h)
at_zero (fin s m e) h =
    let same = eqb→eq (m * up e * 1) (0 * down e) (and_l (eqb (m * up e * 1) (0 * down e)) _ (yes h)) in
    rw (no_factor m (up e) (up_pos e) (omega arith)) (sym (root-zero s e))

-- ---- neither above zero nor zero
not_zero : (s : Bool) (m : ℕ) (e : ℤ) → eq (fin s m e) (of_bits binary64 0) ≡ false → m ≡ 0 → ⊥
unfolding eq of_bits
not_zero true m e h z = true≢false (rw (z, zero-mul (up e), zero-mul (down e)) at h)
not_zero false m e h z = true≢false (rw (z, zero-mul (up e), zero-mul (down e)) at h)

pub no_root : (x : Float) → lt (of_bits binary64 0) x ≡ false → eq x (of_bits binary64 0) ≡ false → nan ≡ root x
unfolding lt of_bits root
no_root nan a b = refl
no_root (inf true) a b = refl
no_root (inf false) a b = absurd (true≢false a)
no_root (fin true m e) a b = rw (ne_eqb m 0 (not_zero true m e b))
no_root (fin false m e) a b =
    absurd (not_zero false m e b (no_factor m (up e) (up_pos e) (omega (arith, ltb-false (0 * down e) (m * up e * 1) a))))

-- ---- what is above zero
pub above_real : (x : Float) → lt (of_bits binary64 0) x ≡ true → T (not (is_nan x))
unfolding is_nan
above_real nan h = absurd (unfold lt of_bits in false≢true h)
above_real (inf s) h = tt
above_real (fin s m e) h = tt

same_fits : (m : ℕ) (e : ℤ) → T (fits binary64 (fin false m e)) → T (fits binary64 (fin true m e))
unfolding fits
same_fits zero e h = h
same_fits (suc m) e h = h

sign_bit : (m : ℕ) (e : ℤ) → to_bits binary64 (fin true m e) ≡ 2 ^ 63 + to_bits binary64 (fin false m e)
unfolding to_bits
sign_bit m e = omega arith

sign_clear : (x : Float) → T (fits binary64 x) → lt (of_bits binary64 0) x ≡ true → to_bits binary64 x < 2 ^ 63
unfolding lt of_bits
sign_clear nan F h = absurd (false≢true h)
sign_clear (inf true) F h = absurd (false≢true h)
sign_clear (inf false) F h = unfold to_bits in lit< tt
sign_clear (fin true m e) F h = absurd (false≢true h)
sign_clear (fin false m e) F h = omega (arith, sign_bit m e, to_bits-lt binary64 (fin true m e) (same_fits m e F))

-- ---- the bits of a float that its format holds, which is what owning an `f64` tells
from_bits : (x : Float) → fits binary64 x ≡ true → of_bits binary64 (to_bits binary64 x) ≡ x
from_bits x good = of_bits-to_bits binary64 x (yes good)

pub root_of_bits : (x : Float) → fits binary64 x ≡ true → root (of_bits binary64 (to_bits binary64 x)) ≡ root x
root_of_bits x good = ap root (from_bits x good)

module _ (x : Float) (good : fits binary64 x ≡ true) (h : lt (of_bits binary64 0) x ≡ true) where
  abbrev bits : ℕ
  bits = to_bits binary64 x

  not_nan : ltb 0x7ff0_0000_0000_0000 (bits % 2 ^ 63) ≡ false
  not_nan = sym (nan_bits_above binary64 bits) ∙ nan_bits_is binary64 bits ∙ ap is_nan (from_bits x good) ∙ is_false (is_nan x) (above_real x h)

  pub bits_positive : 0 < bits
  bits_positive = pos_of_ne-zero (λ (z : bits ≡ 0). true≢false (sym h ∙ rw (← (from_bits x good), z) (unfold lt of_bits in refl)))

  bits_at_most : bits ≤ 0x7ff0_0000_0000_0000
  bits_at_most = rw (mod-eq_of_lt (sign_clear x (yes good) h)) at (ltb-false 0x7ff0_0000_0000_0000 (bits % 2 ^ 63) not_nan)

  pub at_infinity : 0x7ff0_0000_0000_0000 ≤ bits → x ≡ root x
  at_infinity k =
      let is : x ≡ inf false = sym (from_bits x good) ∙ rw (le_antisymm bits_at_most k) (inf_bits false) in
      rw is (sym root_infinity)

-- what the check finds by itself for `root` and `root_pair`
pub ruleset by_tests = (at_zero, no_root, bits_positive, at_infinity, root_of_bits)
