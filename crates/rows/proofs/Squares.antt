-- Two squares that compare equal, zeros of either sign among them, have roots by which every row is normalised alike; and a number compares equal to
-- itself. Assumes nothing.
use mathlib.Core.Path.{◌≡◌, refl, sym, ap, ap₂, subst, ◌∙◌}
use mathlib.Core.Bool.{Bool, true, false, not, cond, ◌||◌, beq, and-eq-true_iff, false≢true}
use Prim.Native.Nat.{ℕ, zero, suc, ◌*◌, ◌/◌, ◌^◌, ◌<◌}
use native.Mathlib.Nat.{mul_comm, mul_right_comm, mul-pos, mul-div-mul_right, zero-mul, zero-lt-suc}
use native.Mathlib.Omega.{arith}
use borrow.Author.Tests.{eqb-true, le-ltb}
use lib.Dec.{T, eqb, eqb-suc-zero}
use lib.IntN.{ℤ}
use lib.Ieee.{Float, nan, inf, fin, up, down, lt, eq, ne, is_nan, of_bits}
use lib.Ieee.Fits.{up_pos, down_pos}
use Rattle.float.specs.Operators.{when◌then◌else◌}
use Rattle.float.specs.Float as float
use Rattle.float.proofs.Nans.{nan_test}
use Rattle.rounding.specs.Root.{root, root_units}
use Rattle.rounding.proofs.Special.{root-zero}
use Rattle.rows.specs.declared.Row.{Row}
use Rattle.rows.specs.Rows.{zeros, normalized_by}

-- a / c and b / d are one fraction, and so the whole parts of k times it are one
same_whole : (a b c d k : ℕ) → 0 < c → 0 < d → a * d ≡ b * c → a * k / c ≡ b * k / d
same_whole a b c d k c-positive d_positive h =
    sym (mul-div-mul_right (a * k) c d_positive)
    ∙ ap₂ (λ (x y : ℕ). x / y) (mul_right_comm a k d ∙ ap (λ (x : ℕ). x * k) h ∙ mul_right_comm b c k) (mul_comm c d)
    ∙ mul-div-mul_right (b * k) d c-positive

root_other : (s : Bool) (m : ℕ) (e : ℤ) → root (fin s (suc m) e) ≡ cond s nan (root_units (suc m * up e * 4 ^ 1074 / down e))
unfolding root
root_other s m e = rw (eqb-suc-zero m)

-- a norm that is a zero of either sign leaves no row
zero_norm : (s : Bool) (e : ℤ) (r : Row) → normalized_by (fin s 0 e) r ≡ zeros
unfolding normalized_by when◌then◌else◌ float.zero of_bits lt
zero_norm true e r = refl
zero_norm false e r = rw (le-ltb (0 * 1 * down e) (0 * up e * 1) (simp zero-mul (omega arith)))

positive : (m : ℕ) (e d : ℤ) → 0 < suc m * up e * down d
positive m e d = mul-pos (mul-pos (zero-lt-suc m) (up_pos e)) (down_pos d)

same_sign : (s t : Bool) (a : ℕ) → 0 < a → beq s t || eqb a 0 ≡ true → s ≡ t
same_sign true true a h k = refl
same_sign false false a h k = refl
same_sign true false a h k = absurd (omega (arith, eqb-true a 0 k))
same_sign false true a h k = absurd (omega (arith, eqb-true a 0 k))

finite_alike : (s : Bool) (m : ℕ) (e : ℤ) (t : Bool) (n : ℕ) (d : ℤ) (r : Row)
    → (m * up e * down d ≡ n * up d * down e) × (beq s t || eqb (m * up e * down d) 0 ≡ true)
    → normalized_by (root (fin s m e)) r ≡ normalized_by (root (fin t n d)) r
finite_alike s zero e t zero d r h = rw (root-zero s e, root-zero t d, zero_norm s e, zero_norm t d)
finite_alike s zero e t (suc n) d r h = absurd (omega (arith, h.0, positive n d e))
finite_alike s (suc m) e t zero d r h = absurd (omega (arith, h.0, positive m e d))
finite_alike s (suc m) e t (suc n) d r h =
    rw (
      root_other s m e,
      root_other t n d,
      same_sign s t (suc m * up e * down d) (positive m e d) h.1,
      same_whole (suc m * up e) (suc n * up d) (down e) (down d) (4 ^ 1074) (down_pos e) (down_pos d) h.0,
    )

alike : (x y : Float) (r : Row) → eq x y ≡ true → normalized_by (root x) r ≡ normalized_by (root y) r
unfolding eq root
alike nan y r h = absurd (false≢true h)
alike (inf s) nan r h = absurd (false≢true h)
alike (inf true) (inf true) r h = refl
alike (inf true) (inf false) r h = absurd (false≢true h)
alike (inf false) (inf true) r h = absurd (false≢true h)
alike (inf false) (inf false) r h = refl
alike (inf s) (fin t n d) r h = absurd (false≢true h)
alike (fin s m e) nan r h = absurd (false≢true h)
alike (fin s m e) (inf t) r h = absurd (false≢true h)
alike (fin s m e) (fin t n d) r h =
    let a = m * up e * down d in
    let b = n * up d * down e in
    let both = (and-eq-true_iff (eqb a b) (beq s t || eqb a 0)).0 h in
    finite_alike s m e t n d r (eqb-true a b both.0, both.1)

-- so the root of a square serves for one that compares equal to it
pub kept-root : (square kept norm : Float) (r : Row) → eq square kept ≡ true → norm ≡ root kept → normalized_by norm r ≡ normalized_by (root square) r
kept-root square kept norm r h k = rw (k, alike square kept r h)

-- a number compares equal to itself
pub equals_itself : (x : Float) → T (not (is_nan x)) → eq x x ≡ true
unfolding ne
equals_itself x h = twice (eq x x) (subst (λ (t : Bool). T (not t)) (nan_test x) h)
  where
    twice : (t : Bool) → T (not (not t)) → t ≡ true
    twice true k = refl
    twice false k = absurd k
