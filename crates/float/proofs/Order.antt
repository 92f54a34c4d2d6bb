-- The order of floats, infinities, zeros of both signs and NaN included: `<` goes one way only, and it carries over from one comparison to the next.
-- Assumes nothing.
use mathlib.Core.Path.{◌≡◌, refl, sym, ◌∙◌}
use mathlib.Core.Logic.{◌⊎◌, inl, inr, ⊎_elim}
use mathlib.Core.Bool.{Bool, true, false, cond, ◌&&◌, ◌||◌, true≢false, false≢true, and-eq-true_iff}
use Prim.Native.Nat.{ℕ, ◌+◌, ◌*◌, ◌≤◌, ◌<◌}
use native.Mathlib.Nat.{le_of_lt, le_of_eq, zero-add, add-zero, add_comm, add-mul, zero-mul, mul_assoc, mul_comm}
use native.Mathlib.Nat.{mul_left_comm, mul-le-mul_right, mul-lt-mul_of_pos_right, lt_of_mul-lt-mul_right}
use native.Mathlib.Omega.{arith}
use borrow.Author.Tests.{ltb-true, ltb-false, lt-ltb, le-ltb, eqb-true}
use lib.Dec.{ltb, eqb}
use lib.IntN.{ℤ}
use lib.Ieee.{Float, nan, inf, fin, up, down, below, level, lt, le, is_nan}
use lib.Ieee.Fits.{down_pos}

pub not_both : {b : Bool} → b ≡ false → b ≡ true → ⊥
not_both h k = false≢true (sym h ∙ k)

pub refuted : {b : Bool} → (b ≡ true → ⊥) → b ≡ false
refuted {b = true} f = absurd (f refl)
refuted {b = false} f = refl

pub neither : (a b : Bool) → a || b ≡ false → (a ≡ false) × (b ≡ false)
neither true b h = absurd (true≢false h)
neither false b h = (refl, h)

-- ---- `<` of finite numbers as `<` of natural numbers, whatever the signs

-- ±a is plus - minus
abbrev plus : Bool → ℕ → ℕ
plus s a = cond s 0 a

abbrev minus : Bool → ℕ → ℕ
minus s a = cond s a 0

-- ±m * 2 ^ e brought to one denominator with ±n * 2 ^ d, and what is subtracted of the other brought over to its side
abbrev side : Bool → ℕ → ℤ → Bool → ℕ → ℤ → ℕ
side s m e t n d = plus s (m * up e) * down d + minus t (n * up d) * down e

lt_sides : (s : Bool) (m : ℕ) (e : ℤ) (t : Bool) (n : ℕ) (d : ℤ) → lt (fin s m e) (fin t n d) ≡ ltb (side s m e t n d) (side t n d s m e)
unfolding lt
lt_sides false m e false n d = simp (zero-mul, add-zero)
lt_sides false m e true n d = sym (le-ltb (side false m e true n d) (side true n d false m e) (simp zero-mul (omega arith)))
lt_sides true m e false n d = simp (zero-mul, add_comm)
lt_sides true m e true n d = simp (zero-mul, zero-add)

ruleset products = (add-mul, mul_assoc, mul_comm, mul_left_comm)

-- (p - n) / d is at most (p' - n') / d', which is below (p'' - n'') / d''
through : (p n d p' n' d' p'' n'' d'' : ℕ) → 0 < d → p * d' + n' * d ≤ p' * d + n * d' → p' * d'' + n'' * d' < p'' * d' + n' * d''
    → p * d'' + n'' * d < p'' * d + n * d''
through p n d p' n' d' p'' n'' d'' positive h k =
    let h' = simp products at (mul-le-mul_right d'' h) in
    let k' = simp products at (mul-lt-mul_of_pos_right k positive) in
    lt_of_mul-lt-mul_right d' (simp products (omega arith))

-- ---- what is not above a number is below all that is above that number

pub below_nan : (x : Float) → lt x nan ≡ false
unfolding lt
below_nan nan = refl
below_nan (inf s) = refl
below_nan (fin s m e) = refl

below_least : (x : Float) → lt x (inf true) ≡ false
unfolding lt
below_least nan = refl
below_least (inf true) = refl
below_least (inf false) = refl
below_least (fin s m e) = refl

above_most : (x : Float) → lt (inf false) x ≡ false
unfolding lt
above_most nan = refl
above_most (inf s) = refl
above_most (fin s m e) = refl

pub carries_over : (x y z : Float) → is_nan x ≡ false → lt y x ≡ false → lt y z ≡ true → lt x z ≡ true
unfolding lt is_nan
carries_over nan y z c h k = absurd (true≢false c)
carries_over (inf true) y nan c h k = absurd (not_both (below_nan y) k)
carries_over (inf true) y (inf true) c h k = absurd (not_both (below_least y) k)
carries_over (inf true) y (inf false) c h k = refl
carries_over (inf true) y (fin u l f) c h k = refl
carries_over (inf false) nan z c h k = absurd (false≢true k)
carries_over (inf false) (inf true) z c h k = absurd (true≢false h)
carries_over (inf false) (inf false) z c h k = absurd (not_both (above_most z) k)
carries_over (inf false) (fin t n d) z c h k = absurd (true≢false h)
carries_over (fin s m e) nan z c h k = absurd (false≢true k)
carries_over (fin s m e) (inf true) z c h k = absurd (true≢false h)
carries_over (fin s m e) (inf false) z c h k = absurd (not_both (above_most z) k)
carries_over (fin s m e) (fin t n d) nan c h k = absurd (false≢true k)
carries_over (fin s m e) (fin t n d) (inf u) c h k = k
carries_over (fin s m e) (fin t n d) (fin u l f) c h k =
    lt_sides s m e u l f
    ∙ lt-ltb (side s m e u l f) (side u l f s m e)
    (through (plus s (m * up e)) (minus s (m * up e)) (down e) (plus t (n * up d)) (minus t (n * up d)) (down d)
    (plus u (l * up f)) (minus u (l * up f)) (down f) (down_pos e)
    (ltb-false (side t n d s m e) (side s m e t n d) (sym (lt_sides t n d s m e) ∙ h))
    (ltb-true (side t n d u l f) (side u l f t n d) (sym (lt_sides t n d u l f) ∙ k)))

-- ---- what is at most a number is not above it

either : (p q : Bool) → p || q ≡ true → (p ≡ true) ⊎ (q ≡ true)
either true q h = inl refl
either false q h = inr h

sizes_not_above : (s : Bool) (a : ℕ) (t : Bool) (b : ℕ) → below s a t b || level s a t b ≡ true → below t b s a ≡ false
sizes_not_above false a false b h =
    le-ltb b a
    (⊎_elim (λ l. le_of_lt (ltb-true a b l)) (λ q. le_of_eq (eqb-true a b ((and-eq-true_iff (eqb a b) true).0 q).0))
    (either (ltb a b) (eqb a b && true) h))
sizes_not_above false a true b h =
    let both = (and-eq-true_iff (eqb a b) (eqb a 0)).0 h in
    le-ltb 0 (b + a) (omega (arith, eqb-true a b both.0, eqb-true a 0 both.1))
sizes_not_above true a false b h = refl
sizes_not_above true a true b h =
    le-ltb a b
    (⊎_elim (λ l. le_of_lt (ltb-true b a l)) (λ q. le_of_eq (sym (eqb-true a b ((and-eq-true_iff (eqb a b) true).0 q).0)))
    (either (ltb b a) (eqb a b && true) h))

pub not_above_lem : (x y : Float) → le x y ≡ true → lt y x ≡ false
unfolding le
not_above_lem nan y h = absurd (false≢true h)
not_above_lem (inf s) nan h = absurd (false≢true h)
not_above_lem (inf true) (inf t) h = below_least (inf t)
not_above_lem (inf false) (inf true) h = absurd (false≢true h)
not_above_lem (inf false) (inf false) h = refl
not_above_lem (inf true) (fin t n d) h = refl
not_above_lem (inf false) (fin t n d) h = absurd (false≢true h)
not_above_lem (fin s m e) nan h = absurd (false≢true h)
not_above_lem (fin s m e) (inf true) h = absurd (false≢true h)
not_above_lem (fin s m e) (inf false) h = refl
not_above_lem (fin s m e) (fin t n d) h = sizes_not_above s (m * up e * down d) t (n * up d * down e) h

pub lt_asym : (x y : Float) → lt x y ≡ true → lt y x ≡ false
unfolding le
lt_asym x y h = not_above_lem x y (rw h)
