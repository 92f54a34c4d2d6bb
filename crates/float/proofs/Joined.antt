-- Of two floats that are equal, min is the one whose bits are those of either, and max the one whose bits are those of both. Assumes nothing.
use mathlib.Core.Path.{◌≡◌, refl, sym, ◌∙◌}
use mathlib.Core.Bool.{Bool, true, false, cond, not, ◌&&◌, ◌||◌}
use Prim.Native.Nat.{ℕ, ◌^◌}
use lib.Dec.{T}
use lib.Bits.{bit_and, bit_or, and_self, or_self}
use lib.Ieee.{Float, binary64, is_nan, fits, of_bits, to_bits}
use lib.Ieee.Bits.{of_bits-to_bits}
use Rattle.float.specs.Operators.{when◌then◌else◌, ◌≺◌, ◌≈◌}
use Rattle.float.specs.Float.{negative, min, max}
use Rattle.float.proofs.Zeros.{one_of_sign, zeros_of_both_signs, equal_back, unequal_below, equal_below, equal_number}
use Rattle.float.proofs.Order.{not_both, refuted}

-- the bits of a zero
abbrev sign : Bool → ℕ
sign s = cond s (2 ^ 63) 0

-- a way to join bits by which two zeros have the sign of the right one where `right` says so, else that of the left one
module _ (join : ℕ → ℕ → ℕ) (right : Bool → Bool → Bool) (self : (a : ℕ) → join a a ≡ a)
    (of-signs : (s t : Bool) → join (sign s) (sign t) ≡ sign (when right s t then t else s))
    (x y : Float) (fits-x : T (fits binary64 x)) (fits-y : T (fits binary64 y)) (equal : x ≈ y ≡ true) where
  abbrev joined : Float
  joined = of_bits binary64 (join (to_bits binary64 x) (to_bits binary64 y))

  one_float : x ≡ y → (b : Bool) → joined ≡ (when b then y else x)
  unfolding when◌then◌else◌
  one_float same true = rw (same, self (to_bits binary64 y)) (of_bits-to_bits binary64 y fits-y)
  one_float same false = rw (← same, self (to_bits binary64 x)) (of_bits-to_bits binary64 x fits-x)

  two_zeros : negative y ≡ not (negative x) → joined ≡ (when right (negative x) (negative y) then y else x)
  unfolding when◌then◌else◌
  two_zeros opposed =
      let bits = zeros_of_both_signs x y equal opposed in
      rw (bits.0, bits.1, of-signs (negative x) (negative y)) (by_test (right (negative x) (negative y)) bits)
    where
      by_test : (b : Bool) → (to_bits binary64 x ≡ sign (negative x)) × (to_bits binary64 y ≡ sign (negative y))
          → of_bits binary64 (sign (when b then negative y else negative x)) ≡ (when b then y else x)
      by_test true bits = rw (← bits.1) (of_bits-to_bits binary64 y fits-y)
      by_test false bits = rw (← bits.0) (of_bits-to_bits binary64 x fits-x)

  right_or_left : joined ≡ (when right (negative x) (negative y) then y else x)
  right_or_left = by_signs (negative x) (negative y) refl refl
    where
      by_signs : (s t : Bool) → negative x ≡ s → negative y ≡ t → joined ≡ (when right (negative x) (negative y) then y else x)
      by_signs true true s t = one_float (one_of_sign x y fits-x fits-y equal (s ∙ sym t)) (right (negative x) (negative y))
      by_signs true false s t = two_zeros (rw (s, t))
      by_signs false true s t = two_zeros (rw (s, t))
      by_signs false false s t = one_float (one_of_sign x y fits-x fits-y equal (s ∙ sym t)) (right (negative x) (negative y))

-- the sign of either, for min, and of both, for max
either_sign : (s t : Bool) → bit_or (sign s) (sign t) ≡ sign (when t && not s then t else s)
unfolding when◌then◌else◌
either_sign true true = refl
either_sign true false = refl
either_sign false true = refl
either_sign false false = refl

both_signs : (s t : Bool) → bit_and (sign s) (sign t) ≡ sign (when s && not t then t else s)
unfolding when◌then◌else◌
both_signs true true = refl
both_signs true false = refl
both_signs false true = refl
both_signs false false = refl

module _ (x y : Float) (fits-x : T (fits binary64 x)) (fits-y : T (fits binary64 y)) (equal : x ≈ y ≡ true) where
  pub least_of_equal : of_bits binary64 (bit_or (to_bits binary64 x) (to_bits binary64 y)) ≡ min x y
  unfolding min
  least_of_equal =
      rw (equal_number x y equal, equal_below y x (equal_back x y equal))
      (right_or_left bit_or (λ s t. t && not s) or_self either_sign x y fits-x fits-y equal)

  pub greatest_of_equal : of_bits binary64 (bit_and (to_bits binary64 x) (to_bits binary64 y)) ≡ max x y
  unfolding max
  greatest_of_equal =
      rw (equal_number x y equal, equal_below x y equal) (right_or_left bit_and (λ s t. s && not t) and_self both_signs x y fits-x fits-y equal)

-- ---- and of two that are not equal `<` decides

module _ (x y : Float) (unequal : x ≈ y ≡ false) where
  pub least_of_unequal : (when is_nan x || y ≺ x then y else x) ≡ min x y
  unfolding min
  least_of_unequal = rw (unequal_below y x (refuted (λ (equal : y ≈ x ≡ true). not_both unequal (equal_back y x equal))))

  pub greatest_of_unequal : (when is_nan x || x ≺ y then y else x) ≡ max x y
  unfolding max
  greatest_of_unequal = rw (unequal_below x y unequal)
