-- The cases that the fused multiply-add settles by tests on the bits, and what those tests say of a float.
use Rattle.std.proofs.Common.{◌≡◌, ℕ, zero, suc, ◌+◌, ◌-◌, ◌*◌, ◌/◌, ◌%◌, ◌^◌, ◌<◌, Bool, true, false, cond, not, eqb, ltb, ℤ, pos, sym, refl, ap, ◌∙◌}
use Rattle.std.proofs.Common.{pos_of_ne-zero, mul-pos, mul-zero, zero-mul, mul-one, arith, lit<, ltb-false, eqb-true}
use mathlib.Core.Bool.{beq, false≢true}
use native.Mathlib.Nat.{mul-mul-mul_comm}
use lib.Bits.{bit_and, and_mask}
use lib.Ieee.{Float, nan, inf, fin, binary64, up, down, size, unlike, fits, is_nan, round, sum, add, mul, of_bits, to_bits}
use lib.Ieee.Fits.{up_pos, down_pos}
use lib.Ieee.Bits.{of_bits-to_bits, to_bits-lt, nan_bits_is, nan_bits_above}
use lib.Ieee.Exact.{HasValue, round_exact}
use borrow.Author.Tests.{eqb-false}
use Rattle.rounding.specs.Fused.{fused}
use Rattle.rounding.specs.Near.{Fuses}
use Rattle.rounding.proofs.Special.{fused_nan_x, fused_nan_y, fused_nan_z, fused_infinite_x, fused_infinite_y, fused_infinite_z}
use Rattle.float.proofs.Nans.{one_nan}
use Rattle.float.proofs.Itself.{bits_of_value}
use Rattle.rounding.proofs.RootCases.{yes}
use Rattle.rounding.proofs.Sums.{like, more}
use Rattle.rounding.proofs.Products.{add-values}
use Rattle.rounding.proofs.MeaningFused.{fused_rounds_once}
use Rattle.rounding.proofs.Packed.{inf_bits}

-- the bits without the sign, the sign, and a float that is neither a NaN nor an infinity
abbrev pub mag : Float → ℕ
mag x = bit_and (to_bits binary64 x) 0x7fff_ffff_ffff_ffff

abbrev pub sign : Float → Bool
sign x = eqb (to_bits binary64 x / 2 ^ 63) 1

abbrev pub Finite : Float → Type 0
Finite x = (s : Bool) × (m : ℕ) × (e : ℤ) × (x ≡ fin s m e)

-- ---- a NaN
pub x_nan : (x y z : Float) → true ≡ is_nan x → nan ≡ fused x y z
x_nan x y z h = rw (one_nan x (sym h)) (sym (fused_nan_x y z))

pub y_nan : (x y z : Float) → true ≡ is_nan y → nan ≡ fused x y z
y_nan x y z h = rw (one_nan y (sym h)) (sym (fused_nan_y x z))

pub z_nan : (x y z : Float) → true ≡ is_nan z → nan ≡ fused x y z
z_nan x y z h = rw (one_nan z (sym h)) (sym (fused_nan_z x y))

-- ---- a float by its bits
zero_bits : (s : Bool) → of_bits binary64 (0 + cond s (2 ^ 63) 0) ≡ fin s 0 (pos 0)
unfolding of_bits
zero_bits true = refl
zero_bits false = refl

module _ (x : Float) (F : fits binary64 x ≡ true) where
  abbrev B : ℕ
  B = to_bits binary64 x

  B_lt : B < 2 ^ 64
  B_lt = to_bits-lt binary64 x (yes F)

  back : of_bits binary64 (mag x + cond (sign x) (2 ^ 63) 0) ≡ x
  back = ap (λ (b : ℕ). of_bits binary64 b) (whole (sign x) refl) ∙ of_bits-to_bits binary64 x (yes F)
    where
      whole : (t : Bool) → sign x ≡ t → mag x + cond t (2 ^ 63) 0 ≡ B
      whole true h = omega (arith, and_mask B 63, eqb-true (B / 2 ^ 63) 1 h)
      whole false h = omega (arith, and_mask B 63, eqb-false (B / 2 ^ 63) 1 h, B_lt)

  by_mag : (a : ℕ) → mag x ≡ a → x ≡ of_bits binary64 (a + cond (sign x) (2 ^ 63) 0)
  by_mag a h = sym back ∙ ap (λ (a : ℕ). of_bits binary64 (a + cond (sign x) (2 ^ 63) 0)) h

  at_inf : mag x ≡ 0x7ff0_0000_0000_0000 → x ≡ inf (sign x)
  at_inf h = by_mag 0x7ff0_0000_0000_0000 h ∙ inf_bits (sign x)

  at_zero : mag x ≡ 0 → x ≡ fin (sign x) 0 (pos 0)
  at_zero h = by_mag 0 h ∙ zero_bits (sign x)

  pub mag_lt : false ≡ is_nan x → (mag x ≡ 0x7ff0_0000_0000_0000 → ⊥) → mag x < 0x7ff0_0000_0000_0000
  mag_lt r n =
      let not_nan : ltb 0x7ff0_0000_0000_0000 (B % 2 ^ 63) ≡ false =
      sym (nan_bits_above binary64 B) ∙ nan_bits_is binary64 B ∙ ap is_nan (of_bits-to_bits binary64 x (yes F)) ∙ sym r in
      omega (arith, and_mask B 63, ltb-false 0x7ff0_0000_0000_0000 (B % 2 ^ 63) not_nan)

-- the product's sign, as the program compares the two bits
signs : (x y : Float) → fits binary64 x ≡ true → fits binary64 y ≡ true
    → unlike (sign x) (sign y) ≡ not (eqb (to_bits binary64 x / 2 ^ 63) (to_bits binary64 y / 2 ^ 63))
signs x y F G = ap not (go (B x F / 2 ^ 63) (B y G / 2 ^ 63) (omega (arith, B_lt x F)) (omega (arith, B_lt y G)))
  where
    go : (p q : ℕ) → p < 2 → q < 2 → beq (eqb p 1) (eqb q 1) ≡ eqb p q
    go zero zero h k = refl
    go zero (suc zero) h k = refl
    go zero (suc (suc q)) h k = absurd (omega arith)
    go (suc zero) zero h k = refl
    go (suc zero) (suc zero) h k = refl
    go (suc zero) (suc (suc q)) h k = absurd (omega arith)
    go (suc (suc p)) q h k = absurd (omega arith)

-- ---- an infinite factor
pub x_inf : (x y z : Float) → fits binary64 x ≡ true → mag x ≡ 0x7ff0_0000_0000_0000 → add binary64 (mul binary64 x y) z ≡ fused x y z
x_inf x y z F h = rw (at_inf x F h) (sym (fused_infinite_x (sign x) y z))

pub y_inf : (x y z : Float) → fits binary64 y ≡ true → mag y ≡ 0x7ff0_0000_0000_0000 → add binary64 (mul binary64 x y) z ≡ fused x y z
y_inf x y z F h = rw (at_inf y F h) (sym (fused_infinite_y x (sign y) z))

-- ---- an infinite addend to finite factors
inf_mag : (s : Bool) → mag (inf s) ≡ 0x7ff0_0000_0000_0000
unfolding to_bits
inf_mag true = and_mask (2 ^ 63 + 0x7ff0_0000_0000_0000) 63
inf_mag false = and_mask (0 + 0x7ff0_0000_0000_0000) 63

finite : (x : Float) → false ≡ is_nan x → (mag x ≡ 0x7ff0_0000_0000_0000 → ⊥) → Finite x
unfolding is_nan
finite nan r n = absurd (false≢true r)
finite (inf s) r n = absurd (n (inf_mag s))
finite (fin s m e) r n = (s, m, e, refl)

z_inf_of : (x y z : Float) → Finite x → Finite y → fits binary64 z ≡ true → mag z ≡ 0x7ff0_0000_0000_0000 → z ≡ fused x y z
z_inf_of x y z a b F h = rw (a.3, b.3, at_inf z F h) (sym (fused_infinite_z a.0 a.1 a.2 b.0 b.1 b.2 (sign z)))

-- ---- a factor that is zero: x * y is exact
round-zero : (s : Bool) (a c : ℕ) → a ≡ 0 → 0 < c → HasValue (round binary64 s a c) s a c
round-zero s a c z C = round_exact binary64 s a c 0 0 C (lit< tt) (lit< tt) (rw z (sym (zero-mul c)))

mul_is : (s : Bool) (m : ℕ) (e : ℤ) (t : Bool) (n : ℕ) (d : ℤ)
    → mul binary64 (fin s m e) (fin t n d) ≡ round binary64 (unlike s t) (m * up e * (n * up d)) (down e * down d)
unfolding mul
mul_is s m e t n d = refl

zero-product : (s : Bool) (m : ℕ) (e : ℤ) (t : Bool) (n : ℕ) (d : ℤ) (u : Bool) (p : ℕ) (g : ℤ) → m * n ≡ 0
    → add binary64 (mul binary64 (fin s m e) (fin t n d)) (fin u p g) ≡ fused (fin s m e) (fin t n d) (fin u p g)
zero-product s m e t n d u p g z =
    let a = m * up e * (n * up d) in
    let c = down e * down d in
    let C : 0 < c = mul-pos (down_pos e) (down_pos d) in
    let zero : a ≡ 0 = rw (mul-mul-mul_comm m (up e) n (up d), z) (zero-mul (up e * up d)) in
    rw (mul_is s m e t n d)
    (add-values (round binary64 (unlike s t) a c) (fin u p g) (unlike s t) u a c (p * up g) (down g) C (down_pos g)
    (round-zero (unlike s t) a c zero C) (refl, refl)
    ∙ sym (fused_rounds_once s m e t n d u p g))

x_zero_of : (x y z : Float) → fits binary64 x ≡ true → mag x ≡ 0 → Finite y → Finite z → add binary64 (mul binary64 x y) z ≡ fused x y z
x_zero_of x y z F h b c = rw (at_zero x F h, b.3, c.3) (zero-product (sign x) 0 (pos 0) b.0 b.1 b.2 c.0 c.1 c.2 (zero-mul b.1))

y_zero_of : (x y z : Float) → Finite x → fits binary64 y ≡ true → mag y ≡ 0 → Finite z → add binary64 (mul binary64 x y) z ≡ fused x y z
y_zero_of x y z a F h c = rw (a.3, at_zero y F h, c.3) (zero-product a.0 a.1 a.2 (sign y) 0 (pos 0) c.0 c.1 c.2 (mul-zero a.1))

-- ---- an addend that is zero
sum-zero : (s t : Bool) (a b c : ℕ) → b ≡ 0 → 0 < a → sum binary64 s a t b c ≡ round binary64 s a c
sum-zero s t a b c z h = go (beq s t) refl
  where
    go : (x : Bool) → beq s t ≡ x → sum binary64 s a t b c ≡ round binary64 s a c
    go true k = like binary64 s t a b c k ∙ ap (λ (x : ℕ). round binary64 s x c) (omega arith)
    go false k = more binary64 s t a b c k (omega arith) ∙ ap (λ (x : ℕ). round binary64 s x c) (omega arith)

zero_addend : (s : Bool) (m : ℕ) (e : ℤ) (t : Bool) (n : ℕ) (d : ℤ) (u : Bool) → 0 < m * n
    → mul binary64 (fin s m e) (fin t n d) ≡ fused (fin s m e) (fin t n d) (fin u 0 (pos 0))
zero_addend s m e t n d u h =
    let a = m * up e * (n * up d) in
    let c = down e * down d in
    let some : 0 < a = rw (mul-mul-mul_comm m (up e) n (up d)) (mul-pos h (mul-pos (up_pos e) (up_pos d))) in
    sym (fused_rounds_once s m e t n d u 0 (pos 0)
    ∙ sum-zero (unlike s t) u (a * 1) (0 * c) (c * 1) (zero-mul c) (rw (mul-one a) some)
    ∙ rw (mul-one a, mul-one c, mul_is s m e t n d))

sized : (s : Bool) → bit_and (cond s (2 ^ 63) 0 + (size 0 - 53) * 2 ^ 52 + 0 / 2 ^ (size 0 - 53)) 0x7fff_ffff_ffff_ffff ≡ 0
unfolding size
sized true = and_mask (2 ^ 63) 63
sized false = and_mask 0 63

zero_mag : (s : Bool) (m : ℕ) (e : ℤ) → m ≡ 0 → mag (fin s m e) ≡ 0
zero_mag s m e z =
    rw (bits_of_value (fin s m e) s 0 (refl, rw (z, zero-mul (up e)) (sym (zero-mul (down e))))) (sized s)

nonzero : (x : Float) (a : Finite x) → (mag x ≡ 0 → ⊥) → 0 < a.1
nonzero x a n = pos_of_ne-zero (λ (z : a.1 ≡ 0). n (rw a.3 (zero_mag a.0 a.1 a.2 z)))

z_zero_of : (x y z : Float) → Finite x → Finite y → (mag x ≡ 0 → ⊥) → (mag y ≡ 0 → ⊥) → fits binary64 z ≡ true → mag z ≡ 0
    → mul binary64 x y ≡ fused x y z
z_zero_of x y z a b p q F h =
    let some : 0 < a.1 * b.1 = mul-pos (nonzero x a p) (nonzero y b q) in
    rw (a.3, b.3, at_zero z F h) (zero_addend a.0 a.1 a.2 b.0 b.1 b.2 (sign z) some)

-- ---- as the program tests for them
abbrev infinite : ℕ
infinite = 0x7ff0_0000_0000_0000

module _ (x y z : Float) where
  pub z_inf : false ≡ is_nan x → (mag x ≡ infinite → ⊥) → false ≡ is_nan y → (mag y ≡ infinite → ⊥) → fits binary64 z ≡ true → mag z ≡ infinite
      → z ≡ fused x y z
  z_inf a b c d F h = z_inf_of x y z (finite x a b) (finite y c d) F h

  pub x_zero : fits binary64 x ≡ true → mag x ≡ 0 → false ≡ is_nan y → (mag y ≡ infinite → ⊥) → false ≡ is_nan z → (mag z ≡ infinite → ⊥)
      → add binary64 (mul binary64 x y) z ≡ fused x y z
  x_zero F h a b c d = x_zero_of x y z F h (finite y a b) (finite z c d)

  pub y_zero : fits binary64 y ≡ true → mag y ≡ 0 → false ≡ is_nan x → (mag x ≡ infinite → ⊥) → false ≡ is_nan z → (mag z ≡ infinite → ⊥)
      → add binary64 (mul binary64 x y) z ≡ fused x y z
  y_zero F h a b c d = y_zero_of x y z (finite x a b) F h (finite z c d)

  pub z_zero : false ≡ is_nan x → (mag x ≡ infinite → ⊥) → false ≡ is_nan y → (mag y ≡ infinite → ⊥) → (mag x ≡ 0 → ⊥) → (mag y ≡ 0 → ⊥)
      → fits binary64 z ≡ true → mag z ≡ 0 → mul binary64 x y ≡ fused x y z
  z_zero a b c d p q F h = z_zero_of x y z (finite x a b) (finite y c d) p q F h

-- ---- none of these: the three floats by their bits
pub whole-fused : (x y z r : Float) → fits binary64 x ≡ true → fits binary64 y ≡ true → fits binary64 z ≡ true → (na : Bool)
    → na ≡ not (eqb (to_bits binary64 x / 2 ^ 63) (to_bits binary64 y / 2 ^ 63))
    → Fuses na (mag x) (mag y) (sign z) (mag z) r → r ≡ fused x y z
whole-fused x y z r F G H na h f = rw (back x F, back y G, back z H) at (f (sign x) (sign y) (signs x y F G ∙ sym h))

-- what the check finds by itself for `fused`
pub ruleset by_bits = (mag_lt, x_inf, y_inf, z_inf, x_zero, y_zero, z_zero)
