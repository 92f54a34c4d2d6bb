-- What `root` means to a reader who trusts `round` of a fraction: `root x` is what √x rounds to (`root_is_nearest`), and no other float is
-- (`root-alone_is_nearest`). The cases without rounding stand in `Special`.
use Rattle.std.proofs.Common.{◌≡◌, ℕ, ◌+◌, ◌*◌, ◌^◌, ◌<◌, ◌≤◌, true, false, T, sym, refl, ap, ◌∙◌, le_trans, le_of_eq, lt_of_lt_of_le, lt_of_le_of_lt}
use Rattle.std.proofs.Common.{mul-le-mul_right, mul-pos, le_of_mul-le-mul_right, arith, lit≤, lt→ltb, pow_pos, shl_lt, ltb-true}
use mathlib.Core.Bool.{false≢true}
use lib.Ieee.{Float, nan, inf, fin, binary64, up, down, round, fits, lt, le, of_bits}
use lib.Ieee.Fits.{round-fits}
use lib.Ieee.Positive.{num, den, positive, den_pos, value→cross, value_pos, first_pos, between}
use Rattle.rounding.specs.Root.{whole_root, doubled, root}
use Rattle.rounding.proofs.Powers.{shift_over}
use Rattle.rounding.proofs.Whole.{units_in, whole_positive, le_antisym}
use Rattle.rounding.proofs.Roots.{IsRoot, sq_lt_back, whole-root_is, root_at, units_is}
use Rattle.rounding.proofs.Between.{rounded, rounded_positive, under, over, some_under, some_over}

-- r is what √x rounds to, for an x above zero, which is num x / den x. √x may be no fraction, but fractions lie on both sides of it as close as
-- one likes: each with a square up to x rounds to at most r, each with a square from x on to at least that. A fraction a / c has the square
-- a * a / (c * c).
pub record RootRounded (x r : Float) : Type 0 where
  pub held : T (fits binary64 r)
  pub from_below : (a c : ℕ) → 0 < c → a * a * den x ≤ num x * (c * c) → T (le (round binary64 false a c) r)
  pub from_above : (a c : ℕ) → 0 < c → num x * (c * c) ≤ a * a * den x → T (le r (round binary64 false a c))

-- ---- above zero and below the infinity
above_zero : (x : Float) → lt (of_bits binary64 0) x ≡ true → lt x (inf false) ≡ true → T (positive x)
unfolding lt of_bits
above_zero nan h k = absurd (false≢true h)
above_zero (inf true) h k = absurd (false≢true h)
above_zero (inf false) h k = absurd (false≢true k)
above_zero (fin true m e) h k = absurd (false≢true h)
above_zero (fin false m e) h k = lt→ltb 0 m (first_pos m (up e) (omega (arith, ltb-true (0 * 1 * down e) (m * up e * 1) h)))

-- ---- a fraction's square beside x / d, and beside v * u, which is x / d times u * u
module _ (v x d u : ℕ) (h : x * u ≡ v * d) (D : 0 < d) where
  at_most : (a b : ℕ) → a * a * d ≤ x * b → a * u * (a * u) ≤ v * u * b
  at_most a b g = le_of_mul-le-mul_right {k = d} (omega (arith, mul-le-mul_right (u * u) g, ap (λ (y : ℕ). y * (u * b)) h)) D

  at_least : (a b : ℕ) → x * b ≤ a * a * d → v * u * b ≤ a * u * (a * u)
  at_least a b g = le_of_mul-le-mul_right {k = d} (omega (arith, mul-le-mul_right (u * u) g, ap (λ (y : ℕ). y * (u * b)) h)) D

  -- the other way: a / k units, where the square of a / k is beside v * u
  per_unit : (k : ℕ) → v * u * (k * k) * d ≡ x * (k * u * (k * u))
  per_unit k = omega (arith, ap (λ (y : ℕ). y * (u * (k * k))) h)

-- ---- x in units of 2 ^ -1074 is v, and the root of x in such units is that of n
module _ (x : Float) (fit : T (fits binary64 x)) (p : T (positive x)) where
  abbrev v : ℕ
  v = units_in x

  abbrev n : ℕ
  n = v * 2 ^ 1074

  abbrev Q : ℕ
  Q = whole_root 1586 n

  v_pos : 0 < v
  v_pos = value_pos x v (2 ^ 1074) p (pow_pos 1074) (whole_positive x fit p).0

  is : IsRoot n Q
  is = whole-root_is 1586 n (shl_lt 2098 1074 (whole_positive x fit p).1)

  big : 2 ^ 53 ≤ Q
  big = omega (arith, sq_lt_back (2 ^ 53) (Q + 1) (lt_of_le_of_lt (le_trans (lit≤ tt) (shift_over 0 1074 1074 v_pos (lit≤ tt))) is.1))

  root_is : root x ≡ rounded n Q
  root_is = root_at x v 1074 1074 refl v_pos (whole_positive x fit p).0 ∙ units_is n

  cross : num x * 2 ^ 1074 ≡ v * den x
  cross = value→cross x v (2 ^ 1074) (whole_positive x fit p).0

  nearest_here : RootRounded x (root x)
  nearest_here = rw root_is (record {
    held = round-fits binary64 false (doubled n Q) (2 ^ 1075);
    from_below = λ a c C h. under n Q a c C is big (at_most v (num x) (den x) (2 ^ 1074) cross (den_pos x) a (c * c) h);
    from_above = λ a c C h. over n Q a c C is big (at_least v (num x) (den x) (2 ^ 1074) cross (den_pos x) a (c * c) h);
  })

  root_positive : T (positive (rounded n Q))
  root_positive =
      rounded_positive n Q (lt_of_lt_of_le (pow_pos 53) big)
      (sq_lt_back Q (2 ^ 1586) (lt_of_le_of_lt is.0 (shl_lt 2098 1074 (whole_positive x fit p).1)))

  only_here : (r : Float) → RootRounded x r → r ≡ root x
  only_here r h =
      let u = some_under n Q is big in
      let o = some_over n Q is big in
      let low : T (le (rounded n Q) r) =
      rw u.4 at (h.from_below u.0 (u.1 * 2 ^ 1074) (mul-pos u.2 (pow_pos 1074))
      (le_trans (mul-le-mul_right (den x) u.3) (le_of_eq (per_unit v (num x) (den x) (2 ^ 1074) cross (den_pos x) u.1)))) in
      let high : T (le r (rounded n Q)) =
      rw o.4 at (h.from_above o.0 (o.1 * 2 ^ 1074) (mul-pos o.2 (pow_pos 1074))
      (le_trans (le_of_eq (sym (per_unit v (num x) (den x) (2 ^ 1074) cross (den_pos x) o.1))) (mul-le-mul_right (den x) o.3))) in
      le_antisym r (rounded n Q) (between (rounded n Q) r (rounded n Q) root_positive root_positive low high) root_positive h.held
      (round-fits binary64 false (doubled n Q) (2 ^ 1075)) high low
      ∙ sym root_is

-- ---- for every finite float above zero
pub root_is_nearest : (x : Float) → T (fits binary64 x) → lt (of_bits binary64 0) x ≡ true → lt x (inf false) ≡ true → RootRounded x (root x)
root_is_nearest x fit h k = nearest_here x fit (above_zero x h k)

pub root-alone_is_nearest : (x r : Float) → T (fits binary64 x) → lt (of_bits binary64 0) x ≡ true → lt x (inf false) ≡ true → RootRounded x r → r ≡ root x
root-alone_is_nearest x r fit h k = only_here x fit (above_zero x h k) r
