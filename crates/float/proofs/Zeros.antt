-- Numbers that are equal are one float, but for zeros of both signs: so the order in which -0 is below +0 goes one way, and it orders any two
-- floats that differ. Assumes nothing.
use mathlib.Core.Path.{◌≡◌, refl, sym, ap, ◌∙◌}
use mathlib.Core.Bool.{Bool, true, false, cond, not, ◌&&◌, ◌||◌, beq, true≢false, false≢true, and-eq-true_iff, or-true, or-false}
use Prim.Native.Nat.{ℕ, zero, suc, ◌+◌, ◌*◌, ◌^◌, ◌<◌}
use native.Mathlib.Nat.{zero-lt-suc, add-zero, zero-mul, mul-pos, le_antisymm}
use native.Mathlib.Omega.{arith}
use borrow.Author.Tests.{ltb-false, eqb-true, eq-eqb, not-true}
use lib.Dec.{T, eqb}
use lib.IntN.{ℤ}
use lib.Ieee.{Float, nan, inf, fin, binary64, up, down, size, round, below, level, lt, eq, le, is_nan, fits, to_bits}
use lib.Ieee.Fits.{down_pos}
use lib.Ieee.Scale.{round_same}
use Rattle.float.specs.Operators.{◌≺◌, ◌≈◌}
use Rattle.float.specs.Float.{negative, ◌⋖◌}
use Rattle.float.proofs.Itself.{rounds_to_itself, bits_of_value}
use Rattle.float.proofs.Order.{not_both, refuted, neither, not_above_lem, lt_asym, below_nan}

-- ---- numbers that are equal

equal_sizes : (s : Bool) (a : ℕ) (t : Bool) (b : ℕ) → level s a t b ≡ true → a ≡ b
equal_sizes s a t b h = eqb-true a b ((and-eq-true_iff (eqb a b) (beq s t || eqb a 0)).0 h).0

-- of one sign they are one float
pub one_of_sign : (x y : Float) → T (fits binary64 x) → T (fits binary64 y) → x ≈ y ≡ true → negative x ≡ negative y → x ≡ y
unfolding eq negative
one_of_sign nan y p q h k = absurd (false≢true h)
one_of_sign (inf s) nan p q h k = absurd (false≢true h)
one_of_sign (inf s) (inf t) p q h k = ap inf k
one_of_sign (inf s) (fin t n d) p q h k = absurd (false≢true h)
one_of_sign (fin s m e) nan p q h k = absurd (false≢true h)
one_of_sign (fin s m e) (inf t) p q h k = absurd (false≢true h)
one_of_sign (fin s m e) (fin t n d) p q h k =
    sym (rounds_to_itself s m e p)
    ∙ round_same binary64 s (m * up e) (down e) (n * up d) (down d) (down_pos e) (down_pos d)
    (equal_sizes s (m * up e * down d) t (n * up d * down e) h)
    ∙ ap (λ (u : Bool). round binary64 u (n * up d) (down d)) k
    ∙ rounds_to_itself t n d q

-- of both signs they are zeros, whose bits are the sign alone
opposed_vanishes : (s t : Bool) (a b : ℕ) → level s a t b ≡ true → t ≡ not s → a ≡ 0
opposed_vanishes true true a b h k = absurd (true≢false k)
opposed_vanishes true false a b h k = eqb-true a 0 ((and-eq-true_iff (eqb a b) (eqb a 0)).0 h).1
opposed_vanishes false true a b h k = eqb-true a 0 ((and-eq-true_iff (eqb a b) (eqb a 0)).0 h).1
opposed_vanishes false false a b h k = absurd (false≢true k)

factor_vanishes : (a k : ℕ) → 0 < k → a * k ≡ 0 → a ≡ 0
factor_vanishes zero k p h = refl
factor_vanishes (suc a) k p h = absurd (omega (arith, h, mul-pos (zero-lt-suc a) p))

bits_of_zero : (s : Bool) (m : ℕ) (e : ℤ) (k : ℕ) → 0 < k → m * up e * k ≡ 0 → to_bits binary64 (fin s m e) ≡ cond s (2 ^ 63) 0
unfolding size
bits_of_zero s m e k p h =
    let none = factor_vanishes (m * up e) k p h in
    bits_of_value (fin s m e) s 0 (refl, rw (none, zero-mul (2 ^ 1074), zero-mul (down e))) ∙ simp add-zero

pub zeros_of_both_signs : (x y : Float) → x ≈ y ≡ true → negative y ≡ not (negative x)
    → (to_bits binary64 x ≡ cond (negative x) (2 ^ 63) 0) × (to_bits binary64 y ≡ cond (negative y) (2 ^ 63) 0)
unfolding eq negative
zeros_of_both_signs nan y h k = absurd (false≢true h)
zeros_of_both_signs (inf s) nan h k = absurd (false≢true h)
zeros_of_both_signs (inf true) (inf true) h k = absurd (true≢false k)
zeros_of_both_signs (inf true) (inf false) h k = absurd (false≢true h)
zeros_of_both_signs (inf false) (inf true) h k = absurd (false≢true h)
zeros_of_both_signs (inf false) (inf false) h k = absurd (false≢true k)
zeros_of_both_signs (inf s) (fin t n d) h k = absurd (false≢true h)
zeros_of_both_signs (fin s m e) nan h k = absurd (false≢true h)
zeros_of_both_signs (fin s m e) (inf t) h k = absurd (false≢true h)
zeros_of_both_signs (fin s m e) (fin t n d) h k =
    let none = opposed_vanishes s t (m * up e * down d) (n * up d * down e) h k in
    let as-much = equal_sizes s (m * up e * down d) t (n * up d * down e) h in
    (bits_of_zero s m e (down d) (down_pos d) none, bits_of_zero t n d (down e) (down_pos e) (sym as-much ∙ none))

-- ---- equal, or one below the other

level_back : (s : Bool) (a : ℕ) (t : Bool) (b : ℕ) → level s a t b ≡ true → level t b s a ≡ true
level_back s a t b h = let as-much = equal_sizes s a t b h in rw as-much (signs_back s t (rw as-much at h))
  where
    signs_back : (s t : Bool) → level s b t b ≡ true → level t b s b ≡ true
    signs_back true true h = h
    signs_back true false h = h
    signs_back false true h = h
    signs_back false false h = h

pub equal_back : (x y : Float) → x ≈ y ≡ true → y ≈ x ≡ true
unfolding eq
equal_back nan y h = absurd (false≢true h)
equal_back (inf s) nan h = absurd (false≢true h)
equal_back (inf true) (inf true) h = h
equal_back (inf true) (inf false) h = h
equal_back (inf false) (inf true) h = h
equal_back (inf false) (inf false) h = h
equal_back (inf s) (fin t n d) h = absurd (false≢true h)
equal_back (fin s m e) nan h = absurd (false≢true h)
equal_back (fin s m e) (inf t) h = absurd (false≢true h)
equal_back (fin s m e) (fin t n d) h = level_back s (m * up e * down d) t (n * up d * down e) h

pub equal_number : (x y : Float) → x ≈ y ≡ true → is_nan x ≡ false
unfolding eq is_nan
equal_number nan y h = absurd (false≢true h)
equal_number (inf s) y h = refl
equal_number (fin s m e) y h = refl

equal_not_above : (x y : Float) → x ≈ y ≡ true → y ≺ x ≡ false
unfolding le
equal_not_above x y h = not_above_lem x y (rw h (or-true (lt x y)))

equal_not_below : (x y : Float) → x ≈ y ≡ true → x ≺ y ≡ false
equal_not_below x y h = equal_not_above y x (equal_back x y h)

sizes_level : (s : Bool) (a : ℕ) (t : Bool) (b : ℕ) → below s a t b ≡ false → below t b s a ≡ false → level s a t b ≡ true
sizes_level false a false b h k = rw (eq-eqb a b (le_antisymm (ltb-false b a k) (ltb-false a b h)))
sizes_level false a true b h k =
    let none = ltb-false 0 (b + a) k in rw (eq-eqb a b (omega (arith, none)), eq-eqb a 0 (omega (arith, none)))
sizes_level true a false b h k =
    let none = ltb-false 0 (a + b) h in rw (eq-eqb a b (omega (arith, none)), eq-eqb a 0 (omega (arith, none)))
sizes_level true a true b h k = rw (eq-eqb a b (le_antisymm (ltb-false b a h) (ltb-false a b k)))

neither_below : (x y : Float) → is_nan x ≡ false → is_nan y ≡ false → x ≺ y ≡ false → y ≺ x ≡ false → x ≈ y ≡ true
unfolding is_nan lt eq
neither_below nan y c d h k = absurd (true≢false c)
neither_below (inf s) nan c d h k = absurd (true≢false d)
neither_below (inf true) (inf true) c d h k = refl
neither_below (inf true) (inf false) c d h k = absurd (true≢false h)
neither_below (inf false) (inf true) c d h k = absurd (true≢false k)
neither_below (inf false) (inf false) c d h k = refl
neither_below (inf true) (fin t n d') c d h k = absurd (true≢false h)
neither_below (inf false) (fin t n d') c d h k = absurd (true≢false k)
neither_below (fin s m e) nan c d h k = absurd (true≢false d)
neither_below (fin s m e) (inf true) c d h k = absurd (true≢false k)
neither_below (fin s m e) (inf false) c d h k = absurd (true≢false h)
neither_below (fin s m e) (fin t n d') c d h k = sizes_level s (m * up e * down d') t (n * up d' * down e) h k

-- ---- the order in which -0 is below +0

-- `<` decides between numbers that are not equal, and the signs between those that are
pub unequal_below : (x y : Float) → x ≈ y ≡ false → x ⋖ y ≡ x ≺ y
unfolding ◌⋖◌
unequal_below x y h = rw h (or-false (x ≺ y))

pub equal_below : (x y : Float) → x ≈ y ≡ true → x ⋖ y ≡ negative x && not (negative y)
unfolding ◌⋖◌
equal_below x y h = rw (h, equal_not_below x y h)

pub nan_below_none : (y : Float) → nan ⋖ y ≡ false
unfolding ◌⋖◌ lt eq
nan_below_none y = refl

pub none_below_nan : (x : Float) → x ⋖ nan ≡ false
unfolding ◌⋖◌ eq
none_below_nan nan = nan_below_none nan
none_below_nan (inf s) = rw (below_nan (inf s))
none_below_nan (fin s m e) = rw (below_nan (fin s m e))

pub below_one_way : (x y : Float) → x ⋖ y ≡ true → y ⋖ x ≡ false
unfolding ◌⋖◌
below_one_way x y = by_test (x ≺ y) refl
  where
    by_test : (b : Bool) → x ≺ y ≡ b → b || x ≈ y && (negative x && not (negative y)) ≡ true → y ≺ x || y ≈ x && (negative y && not (negative x)) ≡ false
    by_test true below h = rw (lt_asym x y below, refuted (λ (equal : y ≈ x ≡ true). not_both (equal_not_above y x equal) below))
    by_test false below h =
        let equal = (and-eq-true_iff (x ≈ y) (negative x && not (negative y))).0 h in
        let signs = (and-eq-true_iff (negative x) (not (negative y))).0 equal.1 in
        rw (equal_not_above x y equal.0, equal_back x y equal.0, not-true (negative y) signs.1)

pub below_decides : (x y : Float) → T (fits binary64 x) → T (fits binary64 y) → is_nan x ≡ false → is_nan y ≡ false → x ⋖ y ≡ false → y ⋖ x ≡ false → x ≡ y
unfolding ◌⋖◌
below_decides x y p q c d h k =
    let one = neither (x ≺ y) (x ≈ y && (negative x && not (negative y))) h in
    let other = neither (y ≺ x) (y ≈ x && (negative y && not (negative x))) k in
    let equal = neither_below x y c d one.0 other.0 in
    one_of_sign x y p q equal (signs (negative x) (negative y) (rw equal at one.1) (rw (equal_back x y equal) at other.1))
  where
    signs : (s t : Bool) → s && not t ≡ false → t && not s ≡ false → s ≡ t
    signs true true h k = refl
    signs true false h k = absurd (true≢false h)
    signs false true h k = absurd (true≢false k)
    signs false false h k = refl
