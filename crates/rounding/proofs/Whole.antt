-- A finite binary64 value is a whole number of 2 ^ -1074, and two that fit and have one value are one value.
use Rattle.std.proofs.Common.{◌≡◌, ℕ, zero, suc, ◌-◌, ◌*◌, ◌/◌, ◌^◌, ◌<◌, ◌≤◌, Bool, true, false, T, ℤ, pos, negsuc, refl, ap, le_trans, mul-le-mul_right}
use Rattle.std.proofs.Common.{mul_assoc, le_antisymm, lt_of_mul-lt-mul_right, mul-lt-mul_of_pos_right, mul-pos, zero-mul, mul-one, mul_right_comm}
use Rattle.std.proofs.Common.{mul-div_cancel, arith, lit≤, eqb→eq, ltb→lt, leb→le, pow_pos, pow-add}
use native.Mathlib.Nat.{eq_of_mul-eq-mul_right}
use lib.Ieee.{Float, nan, inf, fin, binary64, up, down, fits, le}
use lib.Ieee.Fits.{up_pos, down_pos, and_l, and_r}
use lib.Ieee.Digits.{back}
use lib.Ieee.Exact.{HasValue}
use lib.Ieee.Positive.{positive, values_of_le}
use Rattle.float.proofs.Itself.{one_of_value, exponents_in_order}

-- from one fraction to another of the same size
pub rescale : (x : Float) (s : Bool) (w l a c : ℕ) → 0 < l → a * l ≡ w * c → HasValue x s w l → HasValue x s a c
rescale nan s w l a c p h v = v
rescale (inf t) s w l a c p h v = v
rescale (fin t m e) s w l a c p h v =
    (v.0, eq_of_mul-eq-mul_right l p (m * up e * c) (a * down e) (omega (arith, ap (λ (x : ℕ). x * c) v.1, ap (λ (x : ℕ). x * down e) h)))

-- ---- a finite value in units of 2 ^ -1074, and 0 for a NaN and an infinity
abbrev pub units_in : Float → ℕ
units_in nan = 0
units_in (inf s) = 0
units_in (fin s m e) = m * up e * 2 ^ 1074 / down e

-- nothing is lost: a power of two up to 2 ^ 1074 divides it, and the division leaves no rest
divided : (a d r u : ℕ) → 0 < d → r * d ≡ u → a * u ≡ a * u / d * d
divided a d r u h e = rw (← e, ← (mul_assoc a r d), mul-div_cancel (a * r) h)

no_rest : (a : ℕ) (e : ℤ) → down e ≤ 2 ^ 1074 → a * 2 ^ 1074 ≡ a * 2 ^ 1074 / down e * down e
no_rest a (pos k) h = divided a 1 (2 ^ 1074) (2 ^ 1074) (pow_pos 0) (mul-one (2 ^ 1074))
no_rest a (negsuc k) h =
    divided a (2 ^ suc k) (2 ^ (1074 - suc k)) (2 ^ 1074) (pow_pos (suc k))
    (rw (← (pow-add 2 (1074 - suc k) (suc k)), back 1074 (suc k) (exponents_in_order (suc k) 1074 h)))

-- what `fits` says of a finite value: it is a whole number of 2 ^ -1074, and it is below 2 ^ 1024
held : (s : Bool) (m : ℕ) (e : ℤ) → T (fits binary64 (fin s m e)) → (down e ≤ 2 ^ 1074) × (m * up e < 2 ^ 1024 * down e)
unfolding fits
held s zero e h = (
  le_trans {m = 1} (omega (arith, mul-le-mul_right (down e) (up_pos e), eqb→eq (up e * down e) 1 h)) (lit≤ tt),
  rw (zero-mul (up e)) (mul-pos (pow_pos 1024) (down_pos e)),
)
held s (suc m) e h =
    (leb→le (down e) (2 ^ 1074) (search (and_l, and_r)), ltb→lt (suc m * up e) (2 ^ 1024 * down e) (search (and_l, and_r)))

-- a value above zero in such units; from 2 ^ 2098 on it is an infinity
pub whole_positive : (x : Float) → T (fits binary64 x) → T (positive x) → HasValue x false (units_in x) (2 ^ 1074) × (units_in x < 2 ^ 2098)
whole_positive nan h p = absurd p
whole_positive (inf s) h p = absurd p
whole_positive (fin true m e) h p = absurd p
whole_positive (fin false m e) h p =
    let r = held false m e h in
    let whole = no_rest (m * up e) e r.0 in
    let below = mul-lt-mul_of_pos_right r.1 (pow_pos 1074) in
    ((refl, whole), lt_of_mul-lt-mul_right (down e) (rw (← whole) (rw (mul_right_comm (2 ^ 1024) (down e) (2 ^ 1074)) at below)))

-- of two that fit, each at most the other, there is one
pub le_antisym : (x y : Float) → T (positive x) → T (positive y) → T (fits binary64 x) → T (fits binary64 y) → T (le x y) → T (le y x) → x ≡ y
le_antisym x y p q f g h k =
    let a = (whole_positive x f p).0 in
    let b = (whole_positive y g q).0 in
    let u = 2 ^ 1074 in
    let same : units_in x ≡ units_in y =
    eq_of_mul-eq-mul_right u (pow_pos 1074) (units_in x) (units_in y)
    (le_antisymm (values_of_le x y (units_in x) u (units_in y) u p q a b h) (values_of_le y x (units_in y) u (units_in x) u q p b a k)) in
    one_of_value x y false (units_in x) f g a (rw same b)
