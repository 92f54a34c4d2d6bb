-- Request 2, sentence by sentence: min and max are IEEE 754-2019's minimumNumber and maximumNumber (RULES 3.4). Assumes nothing.
use mathlib.Core.Path.{◌≡◌, refl}
use mathlib.Core.Logic.{◌⊎◌, inl, inr, ⊎_elim}
use mathlib.Core.Bool.{Bool, true, false}
use lib.Dec.{T}
use lib.Ieee.{Float, nan, binary64, lt, eq, neg, is_nan, fits, of_bits}
use Rattle.float.specs.Operators.{when◌then◌else◌}
use Rattle.float.specs.Float.{zero, negative, ◌⋖◌, ◌⋗◌, min, max, Picks}
use Rattle.float.proofs.Laws.{below_orders, above_orders, min_picks, max_picks, no_choice, commutative}

-- ---- the standard's sentence

-- one of the two is taken, and the other does not come before it
module _ {before : Float → Float → Bool} {pick : Float → Float → Float} (picks : Picks before pick) (x y : Float) where
  one-taken : ((pick x y ≡ x) × (before y x ≡ false)) ⊎ ((pick x y ≡ y) × (before x y ≡ false))
  one-taken =
      ⊎_elim (λ e. inl (e, rw e at (picks.none_before x y).1)) (λ e. inr (e, rw e at (picks.none_before x y).0)) (picks.one_of_two x y)

-- of two numbers the one that is not above the other
pub least-taken : (x y : Float) → ((min x y ≡ x) × (y ⋖ x ≡ false)) ⊎ ((min x y ≡ y) × (x ⋖ y ≡ false))
least-taken = one-taken min_picks

-- and the one that is not below the other
pub greatest_taken : (x y : Float) → ((max x y ≡ x) × (x ⋖ y ≡ false)) ⊎ ((max x y ≡ y) × (y ⋖ x ≡ false))
greatest_taken = one-taken max_picks

-- of a number and a NaN the number, and of two NaN a NaN
pub min_past_nan : (x : Float) → (min nan x ≡ x) × (min x nan ≡ x)
min_past_nan x = (min_picks.past_nan_left x, min_picks.past_nan_right x)

pub max_past_nan : (x : Float) → (max nan x ≡ x) × (max x nan ≡ x)
max_past_nan x = (max_picks.past_nan_left x, max_picks.past_nan_right x)

-- ---- zeros have an order now

pub zeros-ordered : (neg zero ⋖ zero ≡ true) × (zero ⋖ neg zero ≡ false)
unfolding ◌⋖◌ negative lt eq neg zero of_bits
zeros-ordered = (refl, refl)

pub least_zero : (min zero (neg zero) ≡ neg zero) × (min (neg zero) zero ≡ neg zero)
unfolding min when◌then◌else◌ is_nan ◌⋖◌ negative lt eq neg zero of_bits
least_zero = (refl, refl)

pub greatest_zero : (max zero (neg zero) ≡ zero) × (max (neg zero) zero ≡ zero)
unfolding max when◌then◌else◌ is_nan ◌⋖◌ negative lt eq neg zero of_bits
greatest_zero = (refl, refl)

-- ---- so nothing is left open, and the order of the two does not matter

module _ (x y : Float) (fits-x : T (fits binary64 x)) (fits-y : T (fits binary64 y)) where
  pub min_decided : (f : Float → Float → Float) → Picks ◌⋖◌ f → f x y ≡ min x y
  min_decided f p = no_choice below_orders x y fits-x fits-y p min_picks

  pub max_decided : (f : Float → Float → Float) → Picks ◌⋗◌ f → f x y ≡ max x y
  max_decided f p = no_choice above_orders x y fits-x fits-y p max_picks

  pub min_commutative : min x y ≡ min y x
  min_commutative = commutative below_orders x y fits-x fits-y min_picks

  pub max_commutative : max x y ≡ max y x
  max_commutative = commutative above_orders x y fits-x fits-y max_picks
