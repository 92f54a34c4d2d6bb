-- What a caller uses of min and max, of abs, and of a number compared with one that is not negative. Assumes nothing.
use mathlib.Core.Path.{◌≡◌, refl, sym, ◌∙◌}
use mathlib.Core.Logic.{◌⊎◌, inl, inr, ⊎_elim}
use mathlib.Core.Bool.{Bool, true, false, ◌&&◌, ◌||◌, false≢true}
use Prim.Native.Nat.{◌*◌}
use native.Mathlib.Nat.{zero-mul}
use native.Mathlib.Omega.{arith}
use borrow.Author.Tests.{le-ltb}
use lib.Dec.{T}
use lib.Ieee.{Float, nan, inf, fin, binary64, up, down, lt, is_nan, fits, of_bits}
use Rattle.float.specs.Operators.{when◌then◌else◌, ◌≺◌, ◌≈◌}
use Rattle.float.specs.Float.{zero, abs, finite, negative, ◌⋖◌, ◌⋗◌, min, max, Picks}
use Rattle.float.proofs.Nans.{one_nan}
use Rattle.float.proofs.Order.{not_both, refuted, carries_over}
use Rattle.float.proofs.Zeros.{nan_below_none, none_below_nan, below_one_way, below_decides}

-- ---- min and max

-- an order of the numbers that goes one way, and puts one of any two floats that differ before the other
pub record Orders (before : Float → Float → Bool) : Type 0 where
  pub nan_before_none : (y : Float) → before nan y ≡ false
  pub one_way : (x y : Float) → before x y ≡ true → before y x ≡ false
  pub decides : (x y : Float) → T (fits binary64 x) → T (fits binary64 y) → is_nan x ≡ false → is_nan y ≡ false
      → before x y ≡ false → before y x ≡ false → x ≡ y

pub below_orders : Orders ◌⋖◌
below_orders = record { nan_before_none = nan_below_none; one_way = below_one_way; decides = below_decides }

pub above_orders : Orders ◌⋗◌
above_orders = record {
  nan_before_none = none_below_nan;
  one_way = λ x y. below_one_way y x;
  decides = λ x y p q c d h k. below_decides x y p q c d k h;
}

-- what min and max share: the right one where the left one is NaN or the right one comes before it
unfoldable pick : (Float → Float → Bool) → Float → Float → Float
pick before x y = when is_nan x || before y x then y else x

module _ {before : Float → Float → Bool} (orders : Orders before) where
  past_nan_right : (x : Float) → pick before x nan ≡ x
  unfolding pick is_nan when◌then◌else◌
  past_nan_right nan = refl
  past_nan_right (inf s) = rw (orders.nan_before_none (inf s))
  past_nan_right (fin s m e) = rw (orders.nan_before_none (fin s m e))

  not_itself : (x : Float) → before x x ≡ false
  not_itself x = refuted (λ (h : before x x ≡ true). not_both (orders.one_way x x h) h)

  none_before : (x y : Float) → (before x (pick before x y) ≡ false) × (before y (pick before x y) ≡ false)
  unfolding pick when◌then◌else◌
  none_before x y = by_tests (is_nan x) (before y x) refl refl
    where
      by_tests : (n b : Bool) → is_nan x ≡ n → before y x ≡ b → let z = when n || b then y else x in (before x z ≡ false) × (before y z ≡ false)
      by_tests true b n t = (rw (one_nan x n) (orders.nan_before_none y), not_itself y)
      by_tests false true n t = (orders.one_way y x t, not_itself y)
      by_tests false false n t = (not_itself x, t)

  picks : Picks before (pick before)
  unfolding pick is_nan when◌then◌else◌
  picks = record {
    past_nan_left = λ y. refl;
    past_nan_right = past_nan_right;
    one_of_two = λ x y. one_of_two (is_nan x || before y x) x y;
    none_before = none_before;
  }
    where
      one_of_two : (b : Bool) (x y : Float) → ((when b then y else x) ≡ x) ⊎ ((when b then y else x) ≡ y)
      one_of_two true x y = inr refl
      one_of_two false x y = inl refl

pub min_picks : Picks ◌⋖◌ min
unfolding min pick
min_picks = picks below_orders

pub max_picks : Picks ◌⋗◌ max
unfolding max pick
max_picks = picks above_orders

-- ---- the laws leave no choice

module _ {before : Float → Float → Bool} (orders : Orders before) (x y : Float) (fits-x : T (fits binary64 x)) (fits-y : T (fits binary64 y)) where
  module _ {f g : Float → Float → Float} (p : Picks before f) (q : Picks before g) where
    left_and_right : is_nan x ≡ false → is_nan y ≡ false → f x y ≡ x → g x y ≡ y → x ≡ y
    left_and_right c d e e' = orders.decides x y fits-x fits-y c d (rw e' at (q.none_before x y).0) (rw e at (p.none_before x y).1)

  module _ {f g : Float → Float → Float} (p : Picks before f) (q : Picks before g) where
    of_numbers : is_nan x ≡ false → is_nan y ≡ false → f x y ≡ g x y
    of_numbers c d =
        ⊎_elim
        (λ e. ⊎_elim (λ e'. e ∙ sym e') (λ e'. e ∙ left_and_right p q c d e e' ∙ sym e') (q.one_of_two x y))
        (λ e. ⊎_elim (λ e'. e ∙ sym (left_and_right q p c d e' e) ∙ sym e') (λ e'. e ∙ sym e') (q.one_of_two x y))
        (p.one_of_two x y)

    pub no_choice : f x y ≡ g x y
    no_choice = by_tests (is_nan x) (is_nan y) refl refl
      where
        by_tests : (m n : Bool) → is_nan x ≡ m → is_nan y ≡ n → f x y ≡ g x y
        by_tests true n c d = rw (one_nan x c) (p.past_nan_left y ∙ sym (q.past_nan_left y))
        by_tests false true c d = rw (one_nan y d) (p.past_nan_right x ∙ sym (q.past_nan_right x))
        by_tests false false c d = of_numbers c d

  pub commutative : {pick : Float → Float → Float} → Picks before pick → pick x y ≡ pick y x
  commutative p = no_choice p (exchanged p)
    where
      exchanged : {pick : Float → Float → Float} → Picks before pick → Picks before (λ x y. pick y x)
      exchanged p = record {
        past_nan_left = p.past_nan_right;
        past_nan_right = p.past_nan_left;
        one_of_two = λ x y. ⊎_elim inr inl (p.one_of_two y x);
        none_before = λ x y. ((p.none_before y x).1, (p.none_before y x).0);
      }

-- ---- sizes

pub abs_not_negative : (x : Float) → lt (abs x) zero ≡ false
unfolding lt abs zero of_bits
abs_not_negative nan = refl
abs_not_negative (inf s) = refl
abs_not_negative (fin s m e) = le-ltb (m * up e * 1) (0 * down e) (rw zero-mul (omega arith))

-- what is above a size, a number that is not negative, is above zero
pub above_size : (r s : Float) → lt s zero ≡ false → lt s r ≡ true → lt zero r ≡ true
unfolding is_nan zero of_bits
above_size r s h k = carries_over zero s r refl h k

-- so what is not above zero is above no size
pub above_no_size : (r s : Float) → lt s zero ≡ false → lt zero r ≡ false → lt s r ≡ false
above_no_size r s h k = refuted (λ (above : lt s r ≡ true). not_both k (above_size r s h above))

-- no size is a -0, so a comparison takes the larger of a size and any number
pub larger_size : (x y : Float) → finite x ≡ true → max (abs x) y ≡ (when abs x ≺ y then y else abs x)
unfolding finite max abs is_nan negative ◌⋖◌
larger_size nan y h = absurd (false≢true h)
larger_size (inf s) y h = absurd (false≢true h)
larger_size (fin s m e) y h = by_tests (fin false m e ≺ y) (fin false m e ≈ y)
  where
    by_tests : (p q : Bool) → (when p || q && false then y else fin false m e) ≡ (when p then y else fin false m e)
    by_tests true q = refl
    by_tests false true = refl
    by_tests false false = refl
