-- What `root` and `fused` give where nothing is rounded: at a NaN, at an infinity, at a zero, and below zero.
use Rattle.std.proofs.Common.{◌≡◌, ℕ, ◌+◌, ◌*◌, Bool, true, false, not, ℤ, pos, refl, ap, arith, ltb-true, ne_eqb}
use mathlib.Core.Bool.{false≢true}
use lib.Ieee.{Float, nan, inf, fin, binary64, up, down, unlike, add, mul, lt, of_bits}
use Rattle.rounding.specs.Root.{root}
use Rattle.rounding.specs.Fused.{product, fused}

-- ---- the root

pub root_nan : root nan ≡ nan
unfolding root
root_nan = refl

pub root_infinity : root (inf false) ≡ inf false
unfolding root
root_infinity = refl

-- +0 and -0 are their own roots
pub root-zero : (s : Bool) (e : ℤ) → root (fin s 0 e) ≡ fin s 0 e
unfolding root
root-zero s e = refl

-- 0.0, as MIR has it
pub zero_is : of_bits binary64 0 ≡ fin false 0 (pos 0)
unfolding of_bits
zero_is = refl

-- a number below zero has no root
pub root_below_zero : (x : Float) → lt x (of_bits binary64 0) ≡ true → root x ≡ nan
unfolding lt of_bits root
root_below_zero nan h = absurd (false≢true h)
root_below_zero (inf true) h = refl
root_below_zero (inf false) h = absurd (false≢true h)
root_below_zero (fin true m e) h =
    let some : m ≡ 0 → ⊥ = λ z. omega (arith, ltb-true 0 (m * up e * 1 + 0 * down e) h, ap (λ (x : ℕ). x * up e) z) in
    rw (ne_eqb m 0 some)
root_below_zero (fin false m e) h = absurd (omega (arith, ltb-true (m * up e * 1) (0 * down e) h))

-- ---- the fused multiply-add

pub fused_nan_x : (y z : Float) → fused nan y z ≡ nan
unfolding fused product add
fused_nan_x y z = refl

pub fused_nan_y : (x z : Float) → fused x nan z ≡ nan
unfolding fused product mul add
fused_nan_y nan z = refl
fused_nan_y (inf s) z = refl
fused_nan_y (fin s m e) z = refl

add_nan : (x : Float) → add binary64 x nan ≡ nan
unfolding add
add_nan nan = refl
add_nan (inf s) = refl
add_nan (fin s m e) = refl

pub fused_nan_z : (x y : Float) → fused x y nan ≡ nan
unfolding fused
fused_nan_z x y = add_nan (product x y)

-- an infinite factor: the product is exact, infinite or NaN
pub fused_infinite_x : (s : Bool) (y z : Float) → fused (inf s) y z ≡ add binary64 (mul binary64 (inf s) y) z
unfolding fused product
fused_infinite_x s y z = refl

pub fused_infinite_y : (x : Float) (t : Bool) (z : Float) → fused x (inf t) z ≡ add binary64 (mul binary64 x (inf t)) z
unfolding fused product mul
fused_infinite_y nan t z = refl
fused_infinite_y (inf s) t z = refl
fused_infinite_y (fin s m e) t z = refl

-- an infinity times a zero
pub fused_infinity_by_zero : (s t : Bool) (e : ℤ) (z : Float) → fused (inf s) (fin t 0 e) z ≡ nan
unfolding fused product mul add
fused_infinity_by_zero s t e z = refl

pub fused-zero_by_infinity : (s t : Bool) (e : ℤ) (z : Float) → fused (fin s 0 e) (inf t) z ≡ nan
unfolding fused product mul add
fused-zero_by_infinity s t e z = refl

-- an infinite addend, beside a finite product and beside the other infinity
pub fused_infinite_z : (s : Bool) (m : ℕ) (e : ℤ) (t : Bool) (n : ℕ) (d : ℤ) (u : Bool) → fused (fin s m e) (fin t n d) (inf u) ≡ inf u
unfolding fused product add
fused_infinite_z s m e t n d u = refl

pub fused_opposed_infinities : (s t : Bool) → fused (inf s) (inf t) (inf (not (unlike s t))) ≡ nan
unfolding fused product mul add
fused_opposed_infinities true true = refl
fused_opposed_infinities true false = refl
fused_opposed_infinities false true = refl
fused_opposed_infinities false false = refl
