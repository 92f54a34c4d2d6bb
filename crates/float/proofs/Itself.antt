-- A float that fits is what its own value is rounded to, and there is one float for each value. Assumes nothing.
use mathlib.Core.Path.{◌≡◌, refl, sym, ap, ◌∙◌, subst}
use mathlib.Core.Bool.{Bool, cond}
use Prim.Native.Nat.{ℕ, zero, suc, ◌+◌, ◌-◌, ◌*◌, ◌/◌, ◌^◌, ◌≤◌, ◌<◌}
use native.Mathlib.Nat.{lt_of_lt_of_le, lt_of_not-le, not-le_of_lt, mul_assoc, mul-one, zero-mul, mul-div_cancel}
use native.Mathlib.Omega.{arith}
use lib.Dec.{T, ltb→lt, leb→le}
use lib.IntN.{ℤ, pos, negsuc}
use lib.Pow.{pow-add, pow_pos, pow_mono, pow-lt, shl_lt}
use lib.Ieee.{Float, nan, inf, fin, binary64, up, down, size, round, fits, of_bits, to_bits}
use lib.Ieee.Bits.{of_bits-to_bits}
use lib.Ieee.Digits.{back}
use lib.Ieee.Exact.{HasValue, round_exact}
use lib.Ieee.Fits.{down_pos, round-fits, and_l, and_r}
use lib.Ieee.Scale.{round_same}

-- a whole number of the smallest floats, as its bits
pub bits_of_value : (x : Float) (s : Bool) (a : ℕ) → HasValue x s a (2 ^ 1074)
    → to_bits binary64 x ≡ cond s (2 ^ 63) 0 + (size a - 53) * 2 ^ 52 + a / 2 ^ (size a - 53)
unfolding to_bits
bits_of_value nan s a h = absurd h
bits_of_value (inf t) s a h = absurd h
bits_of_value (fin t m e) s a h =
    let same : m * up e * 2 ^ 1074 / down e ≡ a = ap (λ (n : ℕ). n / down e) h.1 ∙ mul-div_cancel a (down_pos e) in
    ap (λ (n : ℕ). cond t (2 ^ 63) 0 + (size n - 53) * 2 ^ 52 + n / 2 ^ (size n - 53)) same
    ∙ ap (λ (b : Bool). cond b (2 ^ 63) 0 + (size a - 53) * 2 ^ 52 + a / 2 ^ (size a - 53)) h.0

pub one_of_value : (x y : Float) (s : Bool) (a : ℕ) → T (fits binary64 x) → T (fits binary64 y) → HasValue x s a (2 ^ 1074) → HasValue y s a (2 ^ 1074) → x ≡ y
one_of_value x y s a p q h k =
    sym (of_bits-to_bits binary64 x p) ∙ ap (of_bits binary64) (bits_of_value x s a h ∙ sym (bits_of_value y s a k)) ∙ of_bits-to_bits binary64 y q

-- m * 2 ^ e as m * 2 ^ j of the smallest floats
from_units : (s : Bool) (m : ℕ) (e : ℤ) (j : ℕ) → T (fits binary64 (fin s m e)) → m < 2 ^ 53 → m * 2 ^ j < 2 ^ 2098
    → m * up e * 2 ^ 1074 ≡ m * 2 ^ j * down e → round binary64 s (m * up e) (down e) ≡ fin s m e
from_units s m e j p short small h =
    round_same binary64 s (m * up e) (down e) (m * 2 ^ j) (2 ^ 1074) (down_pos e) (pow_pos 1074) h
    ∙ one_of_value (round binary64 s (m * 2 ^ j) (2 ^ 1074)) (fin s m e) s (m * 2 ^ j) (round-fits binary64 s (m * 2 ^ j) (2 ^ 1074)) p
    (round_exact binary64 s (m * 2 ^ j) (2 ^ 1074) m j (pow_pos 1074) short small refl)
    (refl, h)

pub exponents_in_order : (i j : ℕ) → 2 ^ i ≤ 2 ^ j → i ≤ j
exponents_in_order i j h =
    let not_above_lem = lt_of_not-le (λ (g : suc j ≤ i). not-le_of_lt (pow-lt {i = j} {j = i} g) h) in
    omega (arith, not_above_lem)

pub rounds_to_itself : (s : Bool) (m : ℕ) (e : ℤ) → T (fits binary64 (fin s m e)) → round binary64 s (m * up e) (down e) ≡ fin s m e
unfolding fits
rounds_to_itself s zero e p = from_units s zero e 0 p (pow_pos 53) (pow_pos 2098) (rw (zero-mul (up e), zero-mul (down e)))
rounds_to_itself s (suc m) (pos k) p =
    let short = ltb→lt (suc m) (2 ^ 53) (search (and_l, and_r)) in
    let small : suc m * 2 ^ k < 2 ^ 1024 = ltb→lt (suc m * 2 ^ k) (2 ^ 1024 * 1) (search (and_l, and_r)) in
    let h : suc m * 2 ^ k * 2 ^ 1074 ≡ suc m * 2 ^ (k + 1074) = rw (mul_assoc, ← pow-add 2 k 1074) in
    from_units s (suc m) (pos k) (k + 1074) p short (subst (λ (n : ℕ). n < 2 ^ 2098) h (shl_lt 1024 1074 small)) (h ∙ sym (mul-one (suc m * 2 ^ (k + 1074))))
rounds_to_itself s (suc m) (negsuc k) p =
    let short = ltb→lt (suc m) (2 ^ 53) (search (and_l, and_r)) in
    let in-range = exponents_in_order (suc k) 1074 (leb→le (2 ^ suc k) (2 ^ 1074) (search (and_l, and_r))) in
    let j = 1074 - suc k in
    let two : 2 ^ 1074 ≡ 2 ^ j * 2 ^ suc k = ap (λ (n : ℕ). 2 ^ n) (sym (back 1074 (suc k) in-range)) ∙ pow-add 2 j (suc k) in
    from_units s (suc m) (negsuc k) j p short (lt_of_lt_of_le (shl_lt 53 j short) (pow_mono {i = 53 + j} {j = 2098} (omega arith)))
    (rw (mul-one (suc m), two, mul_assoc (suc m)))
