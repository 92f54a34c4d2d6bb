-- The whole part of a square root, and the root of a float by it.
use Rattle.std.proofs.Common.{◌≡◌, ℕ, zero, suc, ◌+◌, ◌-◌, ◌*◌, ◌/◌, ◌%◌, ◌^◌, ◌<◌, ◌≤◌, Bool, true, false, cond, eqb, leb, ◌⊎◌, sym, refl, ap, ◌∙◌, inl, inr}
use Rattle.std.proofs.Common.{true≢false, zero-le, le_refl, lt_of_lt_of_le, add-zero, mul-le-mul_right, mod-eq_of_lt, mul_assoc, eq-zero-or-pos, mul-le-mul}
use Rattle.std.proofs.Common.{mul-pos, lt_of_not-le, mul_right_comm, not-le_of_lt, mul-div_cancel, arith, lit≤, ltb→lt, pow_pos, pow-add, ne_eqb, eqb-true}
use Rattle.std.proofs.Common.{leb-false, leb-true}
use lib.Bits.{bit_and, and_mask}
use lib.Ieee.{Float, nan, inf, fin, binary64, up, down, units, round, of_bits}
use lib.Ieee.Fits.{down_pos}
use lib.Ieee.Exact.{HasValue}
use lib.Ieee.Nearest.{closest}
use lib.Ieee.Positive.{positive_of_value}
use borrow.Author.Tests.{eqb-false}
use Rattle.rounding.specs.Near.{Sticky, Taken, Radical}
use Rattle.rounding.specs.Root.{whole_root, next_root, doubled, root_units, root}
use Rattle.rounding.proofs.Powers.{one_shift, two_powers, shift_under, shift_over}
use Rattle.rounding.proofs.Sticky.{compare_lt, compare_gt, round_sticky, sticky_times}
use Rattle.rounding.proofs.Packed.{packed}
use Rattle.rounding.proofs.Rounding.{round_high}

-- ---- squares
pub sq_lt_back : (a b : ℕ) → a * a < b * b → a < b
sq_lt_back a b h = lt_of_not-le (λ (g : b ≤ a). not-le_of_lt h (mul-le-mul g g))

-- a number with an even square is even
pub even_square : (a : ℕ) → a * a % 2 ≡ 0 → a % 2 ≡ 0
even_square a h = go (eq-zero-or-pos (a % 2))
  where
    go : (a % 2 ≡ 0) ⊎ (0 < a % 2) → a % 2 ≡ 0
    go (inl z) = z
    go (inr p) = let odd : a ≡ 2 * (a / 2) + 1 = omega arith in absurd (omega (arith, ap (λ (x : ℕ). x * x) odd))

-- ---- the whole part of the root
abbrev pub IsRoot : ℕ → ℕ → Type 0
IsRoot n q = (q * q ≤ n) × (n < (q + 1) * (q + 1))

next_root_lem : (n q : ℕ) → q * q ≤ n → n < (q + 2) * (q + 2) → IsRoot n (next_root n q)
next_root_lem n q lo hi = go (leb ((q + 1) * (q + 1)) n) refl
  where
    go : (b : Bool) → leb ((q + 1) * (q + 1)) n ≡ b → IsRoot n (cond b (q + 1) q)
    go true e = omega (arith, leb-true ((q + 1) * (q + 1)) n e)
    go false e = omega (arith, leb-false ((q + 1) * (q + 1)) n e)

pub whole-root_is : (k n : ℕ) → n < 4 ^ k → IsRoot n (whole_root k n)
unfolding whole_root
whole-root_is zero n h = (zero-le, h)
whole-root_is (suc k) n h =
    let r : IsRoot (n / 4) (whole_root k (n / 4)) = whole-root_is k (n / 4) (omega arith) in
    next_root_lem n (2 * whole_root k (n / 4)) (omega arith) (omega arith)

-- 2 q where nothing is left, and 2 q + 1 else: it stands for twice the root
abbrev pub marked : ℕ → ℕ → ℕ
marked q r = 2 * q + cond (eqb r 0) 0 1

bit : (b : Bool) → cond b 0 1 ≤ 1
bit true = zero-le
bit false = le_refl 1

-- ---- the root Q of n = (q * q + r) * p * p, by q: q * p ≤ Q < (q + 1) * p
module _ (n q r p Q : ℕ) (n_is : n ≡ (q * q + r) * (p * p)) (pos : 0 < p) (small : r ≤ 2 * q) (is : IsRoot n Q) where
  least : q * p ≤ Q
  least = omega (arith, sq_lt_back (q * p) (Q + 1) (omega arith))

  most : Q < (q + 1) * p
  most = sq_lt_back Q ((q + 1) * p) (omega (arith, mul-le-mul_right (p * p) small, mul-pos pos pos))

  -- Q is q * p where nothing is left, and above it where something is and Q * Q is n
  exact : r ≡ 0 → Q < q * p + 1
  exact z = sq_lt_back Q (q * p + 1) (omega (arith, ap (λ (x : ℕ). x * (p * p)) z))

  no_square : r ≡ 0 → (Q * Q ≡ n → ⊥) → ⊥
  no_square z d = omega (arith, least, sq_lt_back Q (q * p) (omega (arith, ap (λ (x : ℕ). x * (p * p)) z)))

  above : (r ≡ 0 → ⊥) → Q * Q ≡ n → q * p < Q
  above d e = sq_lt_back (q * p) Q (omega (arith, mul-pos {m = r} (omega arith) (mul-pos pos pos)))

  root_sticky : Sticky (doubled n Q) p (marked q r)
  root_sticky = go (eqb (Q * Q) n) refl (eqb r 0) refl
    where
      go : (b : Bool) → eqb (Q * Q) n ≡ b → (c : Bool) → eqb r 0 ≡ c → Sticky (2 * Q + cond b 0 1) p (2 * q + cond c 0 1)
      go true d true e = inl (omega (arith, least, exact (eqb-true r 0 e)))
      go false d true e = absurd (no_square (eqb-true r 0 e) (eqb-false (Q * Q) n d))
      go true d false e = inr (omega (arith, most, above (eqb-false r 0 e) (eqb-true (Q * Q) n d)))
      go false d false e = inr (omega (arith, least, most))

-- ---- the bounds of q, the root of w * 2 ^ 54
root_big : (w q : ℕ) → 2 ^ 52 ≤ w → IsRoot (w * 2 ^ 54) q → 2 ^ 53 ≤ q
root_big w q h is = omega (arith, sq_lt_back (2 ^ 53) (q + 1) (omega arith))

root-small : (w q : ℕ) → w < 2 ^ 54 → IsRoot (w * 2 ^ 54) q → q < 2 ^ 54
root-small w q h is = sq_lt_back q (2 ^ 54) (omega arith)

-- no tie: where q is odd something is left, so a fourth of `marked q r` is nearest to half of q, rounded up
nearest_half : (w q r : ℕ) → q * q + r ≡ w * 2 ^ 54 → closest (marked q r * 512) 2048 ≡ (q + 1) / 2
nearest_half w q r e = go (eqb r 0) refl (eq-zero-or-pos (q % 2))
  where
    go : (b : Bool) → eqb r 0 ≡ b → (q % 2 ≡ 0) ⊎ (0 < q % 2) → closest ((2 * q + cond b 0 1) * 512) 2048 ≡ (q + 1) / 2
    go b t (inl o) = rw (compare_lt ((2 * q + cond b 0 1) * 512 % 2048 * 2) 2048 (omega (arith, bit b))) (omega (arith, bit b))
    go true t (inr o) = absurd (omega (arith, even_square q (omega (arith, eqb-true r 0 t))))
    go false t (inr o) = rw (compare_gt ((2 * q + 1) * 512 % 2048 * 2) 2048 (omega arith)) (omega arith)

-- ---- the root of a float of the value A / 2 ^ l: 4 ^ 1074 is 2 ^ 2148
pub root_at : (x : Float) (A l r : ℕ) → l + r ≡ 2148 → 0 < A → HasValue x false A (2 ^ l) → root x ≡ root_units (A * 2 ^ r)
unfolding root
root_at nan A l r s h v = absurd v
root_at (inf t) A l r s h v = absurd v
root_at (fin true m e) A l r s h v = absurd (true≢false v.0)
root_at (fin false m e) A l r s h v =
    let some : m ≡ 0 → ⊥ = omega (arith, ltb→lt 0 m (positive_of_value (fin false m e) A (2 ^ l) v h)) in
    let value : m * up e * 2 ^ 2148 ≡ A * 2 ^ r * down e =
    sym (one_shift (m * up e) l r 2148 s) ∙ ap (λ (y : ℕ). y * 2 ^ r) v.1 ∙ mul_right_comm A (down e) (2 ^ r) in
    rw (ne_eqb m 0 some, value, mul-div_cancel (A * 2 ^ r) (down_pos e))

pub units_is : (n : ℕ) → root_units n ≡ round binary64 false (doubled n (whole_root 1586 n)) (2 ^ 1075)
unfolding root_units
units_is n = refl

-- x times powers of two whose exponents add up alike
regrouped : (x a b c d e f : ℕ) → a + b + c ≡ d + e + (f + f) → x * 2 ^ a * 2 ^ b * 2 ^ c ≡ x * 2 ^ d * 2 ^ e * (2 ^ f * 2 ^ f)
regrouped x a b c d e f s = simp (mul_assoc, ← pow-add, s)

-- ---- the whole: m * 2 ^ e / 2 ^ 1136 has the root that the program packs
module _ {b m e : ℕ} (t : Taken b m e) where
  abbrev half : ℕ
  half = (e - e % 2) / 2

  abbrev w : ℕ
  w = m / 1024 * 2 ^ (e % 2)

  w_least : 2 ^ 52 ≤ w
  w_least = shift_over 52 (e % 2) 52 (omega arith) (omega arith)

  w_most : w < 2 ^ 54
  w_most = shift_under 53 (e % 2) 54 (omega arith) (omega arith)

  half-most : half + 485 ≤ 2045
  half-most = omega arith

  -- m * 2 ^ e / 2 ^ 1136 in units of 4 ^ -1074
  abbrev n : ℕ
  n = m * 2 ^ e * 2 ^ 1012

  n_is : n ≡ w * 2 ^ 54 * (2 ^ (half + 484) * 2 ^ (half + 484))
  n_is =
      let whole : m ≡ m / 1024 * 2 ^ 10 = omega arith in
      ap (λ (x : ℕ). x * 2 ^ e * 2 ^ 1012) whole ∙ regrouped (m / 1024) 10 e 1012 (e % 2) 54 (half + 484) (omega arith)

  n_most : n < 4 ^ 1586
  n_most = rw (one_shift m e 1012 (e + 1012) refl) (shift_under 63 (e + 1012) 3172 t.most (omega arith))

  value : HasValue (of_bits binary64 b) false (m * 2 ^ e) (2 ^ 1136)
  value = rw (add-zero b) at (t.value false)

  module _ (q : ℕ) (is : IsRoot (w * 2 ^ 54) q) where
    abbrev r : ℕ
    r = w * 2 ^ 54 - q * q

    abbrev J : ℕ
    J = marked q r

    r_is : q * q + r ≡ w * 2 ^ 54
    r_is = omega arith

    J_least : 2 ^ 54 ≤ J
    J_least = omega (arith, root_big w q w_least is)

    J_most : J < 2 ^ 55
    J_most = omega (arith, root-small w q w_most is, bit (eqb r 0))

    sticky : Sticky (doubled n (whole_root 1586 n) * 2 ^ 2336) (2 ^ 1075 * 2 ^ (half + 1745)) J
    sticky =
        let p = 2 ^ (half + 484) in
        rw (two_powers 1075 (half + 1745) (half + 484) 2336 (omega arith))
        (sticky_times (doubled n (whole_root 1586 n)) p (2 ^ 2336) J (pow_pos 2336)
        (root_sticky n q r p (whole_root 1586 n) (n_is ∙ ap (λ (x : ℕ). x * (p * p)) (sym r_is)) (pow_pos (half + 484)) (omega arith)
        (whole-root_is 1586 n n_most)))

    marked_root : round binary64 false (J * 512 * 2 ^ (half + 1736)) (2 ^ 2336) ≡ root_units n
    marked_root =
        rw (one_shift J 9 (half + 1736) (half + 1745) (omega arith), units_is n)
        (sym (round_sticky binary64 false (doubled n (whole_root 1586 n)) (2 ^ 1075) J (half + 1745) 2336 (pow_pos 1075) J_least sticky))

    q_units : units binary64 false ((q + 1) / 2) (half + 485) ≡ root_units n
    q_units =
        let less : half + 485 ≡ half + 1736 - 1251 = omega arith in
        rw (← (nearest_half w q r r_is), less)
        (round_high false (J * 512) (half + 1736) (mul-le-mul_right 512 J_least) (shift_under 55 9 64 J_most (lit≤ tt)) (omega arith) ∙ marked_root)

    q_packed : of_bits binary64 ((half + 485) * 2 ^ 52 + (q + 1) / 2) ≡ units binary64 false ((q + 1) / 2) (half + 485)
    q_packed =
        rw (add-zero ((half + 485) * 2 ^ 52 + (q + 1) / 2))
        at (packed false ((q + 1) / 2) (half + 485) (omega (arith, root-small w q w_most is)) (inr (omega (arith, root_big w q w_least is))) half-most)

    pub root_bits : of_bits binary64 ((half + 485) * 2 ^ 52 + (q + 1) / 2) ≡ root (of_bits binary64 b)
    root_bits = q_packed ∙ q_units ∙ sym (root_at (of_bits binary64 b) (m * 2 ^ e) 1136 1012 refl (mul-pos {m = m} (omega arith) (pow_pos e)) value)

  -- as the program has it, with a mask and a shift that lose nothing
  pub radical : Radical b (m / 1024 * 2 ^ bit_and e 1 % 2 ^ 64) ((e - bit_and e 1) / 2)
  radical = rw (and_mask e 1, mod-eq_of_lt {n = w} {m = 2 ^ 64} (lt_of_lt_of_le w_most (lit≤ tt))) (record {
    small = w_most;
    near = half-most;
    reads = root_bits;
  })
