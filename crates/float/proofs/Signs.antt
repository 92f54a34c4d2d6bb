-- Signs: what comes of adding, subtracting and multiplying numbers that are not below zero, or not above it. Assumes nothing.
use mathlib.Core.Path.{◌≡◌, refl, ap, ap₂, ◌∙◌, subst}
use mathlib.Core.Bool.{Bool, true, false, not, cond, beq, ◌&&◌, true≢false, false≢true}
use Prim.Native.Nat.{ℕ, zero, suc, ◌+◌, ◌-◌, ◌*◌, ◌^◌, ◌≤◌, ◌<◌}
use native.Mathlib.Nat.{mul-pos, zero-mul, mul_comm}
use native.Mathlib.Omega.{arith}
use borrow.Author.Tests.{ltb-false, not-false, lt-ltb, le-ltb, ne_eqb}
use lib.Dec.{ltb, eqb}
use lib.IntN.{ℤ}
use lib.Ieee.{Float, nan, inf, fin, binary64, unlike, up, down, odd, units, round, neg, sum, add, sub, mul, lt, of_bits}
use lib.Ieee.Fits.{round_is, up_pos, down_pos}
use lib.Ieee.Positive.{first_pos}
use lib.Ieee.Scale.{round_same}
use Rattle.float.specs.Float as float

-- x has the sign s, negative where s is true, if it has one: NaN has none, and that of a zero does not count
data Sign (s : Bool) : Float → Type 0 where
  none : Sign s nan
  infinite : {t : Bool} → t ≡ s → Sign s (inf t)
  finite : {t : Bool} {m : ℕ} {e : ℤ} → (0 < m → t ≡ s) → Sign s (fin t m e)

either : {s : Bool} (b : Bool) {x y : Float} → Sign s x → Sign s y → Sign s (cond b x y)
either true h k = h
either false h k = k

-- ---- rounding

odd_sign : (s : Bool) (d q k l : ℕ) → Sign s (odd d s q k l)
unfolding odd
odd_sign s d zero k l = finite (λ _. refl)
odd_sign s d (suc q) k l = finite (λ _. refl)

units_sign : (s : Bool) (q k : ℕ) → Sign s (units binary64 s q k)
unfolding units
units_sign s q k = either (ltb (q * 2 ^ k) (2 ^ 2098)) (odd_sign s 54 q k 1074) (infinite refl)

round_sign : (s : Bool) (n d : ℕ) → Sign s (round binary64 s n d)
round_sign s n d = rw round_is (units_sign s _ _)

rounded : {s : Bool} (t : Bool) (n d : ℕ) → 0 < d → (0 < n → t ≡ s) → Sign s (round binary64 t n d)
unfolding round
rounded {s} t zero d positive h = subst (Sign s) (round_same binary64 t 0 1 0 d (omega arith) positive (simp zero-mul)) (finite (λ w. absurd (omega arith)))
rounded t (suc n) d positive h = subst (λ u. Sign u (round binary64 t (suc n) d)) (h (omega arith)) (round_sign t (suc n) d)

-- ---- sums

one_above : (a b : ℕ) → 0 < a + b → {A : Type 0} → (0 < a → A) → (0 < b → A) → A
one_above zero b h p q = q (omega arith)
one_above (suc a) b h p q = p (omega arith)

module _ {s : Bool} (a b c : ℕ) (positive : 0 < c) where
  alike : (t : Bool) → (0 < a → t ≡ s) → (0 < b → t ≡ s) → Sign s (round binary64 t (a + b) c)
  alike t h k = rounded t (a + b) c positive (λ p. one_above a b p h k)

  greater : (t : Bool) → (0 < a → t ≡ s) → b ≤ a → Sign s (round binary64 (t && ltb b a) (a - b) c)
  greater t h l = rounded (t && ltb b a) (a - b) c positive (λ p. rw (lt-ltb b a (omega arith)) (with_true t ∙ h (omega arith)))
    where
      with_true : (t : Bool) → t && true ≡ t
      with_true true = refl
      with_true false = refl

  opposed : (t u : Bool) → (0 < a → t ≡ s) → (0 < b → u ≡ s) → Sign s (cond (ltb a b) (round binary64 u (b - a) c) (round binary64 (t && ltb b a) (a - b) c))
  opposed t u h k = by_test (ltb a b) refl
    where
      by_test : (l : Bool) → ltb a b ≡ l → Sign s (cond l (round binary64 u (b - a) c) (round binary64 (t && ltb b a) (a - b) c))
      by_test true l = rounded u (b - a) c positive (λ p. k (omega arith))
      by_test false l = greater t h (ltb-false a b l)

  sum_sign : (t u : Bool) → (0 < a → t ≡ s) → (0 < b → u ≡ s) → Sign s (sum binary64 t a u b c)
  unfolding sum
  sum_sign false false h k = alike false h k
  sum_sign false true h k = opposed false true h k
  sum_sign true false h k = opposed true false h k
  sum_sign true true h k = alike true h k

whole_part : (m : ℕ) (e : ℤ) (k : ℕ) → 0 < m * up e * k → 0 < m
whole_part m e k h = first_pos m (up e) (first_pos (m * up e) k h)

add_sign : {s : Bool} {x y : Float} → Sign s x → Sign s y → Sign s (add binary64 x y)
unfolding add
add_sign none k = none
add_sign (infinite h) none = none
add_sign (infinite {t} h) (infinite {t = u} k) = either (beq t u) (infinite h) none
add_sign (infinite h) (finite k) = infinite h
add_sign (finite h) none = none
add_sign (finite h) (infinite k) = infinite k
add_sign (finite {t} {m} {e} h) (finite {t = u} {m = n} {e = d} k) =
    sum_sign (m * up e * down d) (n * up d * down e) (down e * down d) (mul-pos (down_pos e) (down_pos d)) t u
    (λ p. h (whole_part m e (down d) p)) (λ p. k (whole_part n d (down e) p))

neg_sign : {s : Bool} {x : Float} → Sign s x → Sign (not s) (neg x)
unfolding neg
neg_sign none = none
neg_sign (infinite h) = infinite (ap not h)
neg_sign (finite h) = finite (λ p. ap not (h p))

-- ---- products

-- the sign of a product with an infinity, where the other factor is not zero
times_infinity : {s t : Bool} (n : ℕ) → (0 < n → t ≡ s) → Sign s (cond (eqb n 0) nan (inf t))
times_infinity zero h = none
times_infinity (suc n) h = rw (ne_eqb (suc n) 0 (λ z. omega arith)) (infinite (h (omega arith)))

mul_sign : {s t : Bool} {x y : Float} → Sign s x → Sign t y → Sign (unlike s t) (mul binary64 x y)
unfolding mul
mul_sign none k = none
mul_sign (infinite h) none = none
mul_sign (infinite h) (infinite k) = infinite (ap₂ unlike h k)
mul_sign (infinite h) (finite {m = n} k) = times_infinity n (λ p. ap₂ unlike h (k p))
mul_sign (finite h) none = none
mul_sign (finite {m} h) (infinite k) = times_infinity m (λ p. ap₂ unlike (h p) k)
mul_sign (finite {t} {m} {e} h) (finite {t = u} {m = n} {e = d} k) =
    rounded (unlike t u) (m * up e * (n * up d)) (down e * down d) (mul-pos (down_pos e) (down_pos d))
    (λ p. ap₂ unlike (h (whole_part m e (n * up d) p)) (k (whole_part n d (m * up e) (rw (mul_comm (m * up e)) at p))))

-- ---- the order

not_below : (x : Float) → lt x float.zero ≡ false → Sign false x
unfolding lt float.zero of_bits
not_below nan h = none
not_below (inf s) h = infinite h
not_below (fin false m e) h = finite (λ _. refl)
not_below (fin true m e) h = finite (λ (p : 0 < m). absurd (omega (arith, ltb-false 0 (m * up e * 1 + 0 * down e) h, mul-pos p (up_pos e))))

never_below : {x : Float} → Sign false x → lt x float.zero ≡ false
unfolding lt float.zero of_bits
never_below none = refl
never_below (infinite h) = h
never_below (finite {t = false} {m} {e} h) = le-ltb (m * up e * 1) (0 * down e) (rw zero-mul (omega arith))
never_below (finite {t = true} {m = zero} {e} h) = le-ltb 0 (0 * up e * 1 + 0 * down e) (rw (zero-mul (up e), zero-mul (down e)) (omega arith))
never_below (finite {t = true} {m = suc m} h) = absurd (true≢false (h (omega arith)))

not_above_lem : (x : Float) → lt float.zero x ≡ false → Sign true x
unfolding lt float.zero of_bits
not_above_lem nan h = none
not_above_lem (inf s) h = infinite (not-false s h)
not_above_lem (fin true m e) h = finite (λ _. refl)
not_above_lem (fin false m e) h = finite (λ (p : 0 < m). absurd (omega (
  arith,
  ltb-false (0 * down e) (m * up e * 1) h,
  zero-mul (down e),
  mul-pos p (up_pos e),
)))

never_above : {x : Float} → Sign true x → lt float.zero x ≡ false
unfolding lt float.zero of_bits
never_above none = refl
never_above (infinite h) = ap not h
never_above (finite {t = true} h) = refl
never_above (finite {t = false} {m = zero} {e} h) = le-ltb (0 * down e) (0 * up e * 1) (rw (zero-mul (up e), zero-mul (down e)) (omega arith))
never_above (finite {t = false} {m = suc m} h) = absurd (false≢true (h (omega arith)))

-- ---- what a caller uses

pub sum_not_negative : (x y : Float) → lt x float.zero ≡ false → lt y float.zero ≡ false → lt (add binary64 x y) float.zero ≡ false
sum_not_negative x y h k = never_below (add_sign (not_below x h) (not_below y k))

pub product_not_negative : (x y : Float) → lt x float.zero ≡ false → lt y float.zero ≡ false → lt (mul binary64 x y) float.zero ≡ false
product_not_negative x y h k = never_below (mul_sign (not_below x h) (not_below y k))

pub difference_not_positive : (x y : Float) → lt float.zero x ≡ false → lt y float.zero ≡ false → lt float.zero (sub binary64 x y) ≡ false
unfolding sub
difference_not_positive x y h k = never_above (add_sign (not_above_lem x h) (neg_sign (not_below y k)))
