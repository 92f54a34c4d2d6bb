-- Rounding sees no more of a fraction than a whole number near it: one that is equal to it, or one that is odd and less than 1 away (`Sticky`).
-- `closest_sticky` says so of the nearest multiple of a number that four divides, and `round_sticky` of `round`.
use Rattle.std.proofs.Common.{◌≡◌, ℕ, ◌+◌, ◌-◌, ◌*◌, ◌/◌, ◌%◌, ◌^◌, ◌<◌, ◌≤◌, Bool, not, T, ◌⊎◌, sym, refl, ap, ◌∙◌, ap₂, inl, inr, lt_of_lt_of_le}
use Rattle.std.proofs.Common.{mul-le-mul_right, mod-lt, mul_assoc, div-lt_iff_lt-mul, eq-zero-or-pos, lt_of_mul-lt-mul_right, mul-lt-mul_of_pos_right}
use Rattle.std.proofs.Common.{mul-pos, lt_of_not-le, div-add-mod', le-div_iff_mul-le, not-le_of_lt, le_of_mul-le-mul_right, arith, eqb→eq, leb→le, pow_pos}
use Rattle.std.proofs.Common.{pow_mono, pow-add}
use Prim.Native.Nat.{compare, Ordering}
use native.Mathlib.Nat.{le_dest, div-eq_of_lt-le}
use lib.Dec.{is_le, compare_is_eq, nleb→lt, eqb_refl}
use lib.Arith.{lt_of_le-ne}
use lib.Ieee.{Format, prec, low, size, nearest, units, round}
use lib.Ieee.Digits.{size-lt, size-le, size_reaches}
use lib.Ieee.Fits.{round_is, two, two-le_pos}
use lib.Ieee.Nearest.{closest, closest_same}
use lib.Ieee.Order.{drop}
use lib.Ieee.Scale.{round_same}
use Rattle.rounding.specs.Near.{Sticky}
use Rattle.rounding.proofs.Powers.{exponent_under}

-- ---- a fraction multiplied through has the same stand-in
pub sticky_times : (a b c J : ℕ) → 0 < c → Sticky a b J → Sticky (a * c) (b * c) J
sticky_times a b c J C (inl e) = inl (rw e (mul_assoc J b c))
sticky_times a b c J C (inr s) = inr (s.0, omega (arith, mul-lt-mul_of_pos_right s.1 C), omega (arith, mul-lt-mul_of_pos_right s.2 C))

-- a stand-in is bounded as its fraction is
pub sticky_least : (a b J K : ℕ) → 0 < b → K * b ≤ a → Sticky a b J → K ≤ J
sticky_least a b J K B h (inl e) = le_of_mul-le-mul_right (omega arith) B
sticky_least a b J K B h (inr s) = omega (arith, lt_of_mul-lt-mul_right b {m = K} {n = J + 1} (omega arith))

pub sticky_below : (a b J K : ℕ) → a < 2 * K * b → Sticky a b J → J < 2 * K
sticky_below a b J K h (inl e) = lt_of_mul-lt-mul_right b (omega arith)
sticky_below a b J K h (inr s) = omega (arith, lt_of_mul-lt-mul_right b {m = J} {n = 2 * K + 1} (omega arith))

-- ---- what `compare` says
abbrev pub Cmp : Ordering → ℕ → ℕ → Type 0
Cmp Ordering.lt a b = a < b
Cmp Ordering.eq a b = a ≡ b
Cmp Ordering.gt a b = b < a

pub cmp : (a b : ℕ) → Cmp (compare a b) a b
cmp a b = go (compare a b) (leb→le a b) (nleb→lt a b) (eqb→eq a b) (λ (e : a ≡ b). rw (← e) (eqb_refl a))
  where
    go : (o : Ordering) → (T (is_le o) → a ≤ b) → (T (not (is_le o)) → b < a) → (T (compare_is_eq o) → a ≡ b) → (a ≡ b → T (compare_is_eq o)) → Cmp o a b
    go Ordering.lt h k e n = lt_of_le-ne (h tt) n
    go Ordering.eq h k e n = e tt
    go Ordering.gt h k e n = k tt

pub compare_lt : (a b : ℕ) → a < b → compare a b ≡ Ordering.lt
compare_lt a b h = go (compare a b) (cmp a b)
  where
    go : (o : Ordering) → Cmp o a b → o ≡ Ordering.lt
    go Ordering.lt c = refl
    go Ordering.eq c = absurd (omega arith)
    go Ordering.gt c = absurd (omega arith)

pub compare_eq : (a b : ℕ) → a ≡ b → compare a b ≡ Ordering.eq
compare_eq a b h = go (compare a b) (cmp a b)
  where
    go : (o : Ordering) → Cmp o a b → o ≡ Ordering.eq
    go Ordering.lt c = absurd (omega arith)
    go Ordering.eq c = refl
    go Ordering.gt c = absurd (omega arith)

pub compare_gt : (a b : ℕ) → b < a → compare a b ≡ Ordering.gt
compare_gt a b h = go (compare a b) (cmp a b)
  where
    go : (o : Ordering) → Cmp o a b → o ≡ Ordering.gt
    go Ordering.lt c = absurd (omega arith)
    go Ordering.eq c = absurd (omega arith)
    go Ordering.gt c = refl

-- ---- the nearest multiple of 4 D: the rest of J by it is odd, so neither 0 nor the half, and on the same side of both as that of X / B
module _ (X B J D : ℕ) (Dp : 0 < D) (o : J % 2 ≡ 1) (hi : X < (J + 1) * B) (lo : J * B < X + B) where
  abbrev M : ℕ
  M = 4 * D

  abbrev q : ℕ
  q = J / M

  abbrev r : ℕ
  r = J % M

  J_is : q * M + r ≡ J
  J_is = div-add-mod' J M

  times : (q * M + r) * B ≡ J * B
  times = ap (λ (z : ℕ). z * B) J_is

  r_odd : r % 2 ≡ 1
  r_odd = omega (arith, J_is)

  r_positive : 0 < r
  r_positive = omega (arith, r_odd)

  r_lt : r < M
  r_lt = mod-lt J (mul-pos (omega arith) Dp)

  quot : X / (B * M) ≡ q
  quot = div-eq_of_lt-le (B * M) (omega (arith, times, mul-le-mul_right B r_positive)) (omega (arith, times, mul-le-mul_right B r_lt))

  rest_is : q * (B * M) + X % (B * M) ≡ X
  rest_is = rw quot at (div-add-mod' X (B * M))

  same_order : compare (X % (B * M) * 2) (B * M) ≡ compare (r * 2) M
  same_order = go (compare r (2 * D)) (cmp r (2 * D))
    where
      go : (c : Ordering) → Cmp c r (2 * D) → compare (X % (B * M) * 2) (B * M) ≡ compare (r * 2) M
      go Ordering.lt k =
          compare_lt (X % (B * M) * 2) (B * M) (omega (arith, rest_is, times, mul-le-mul_right B k)) ∙ sym (compare_lt (r * 2) M (omega arith))
      go Ordering.eq k = absurd (omega (arith, r_odd))
      go Ordering.gt k =
          compare_gt (X % (B * M) * 2) (B * M) (omega (arith, rest_is, times, mul-le-mul_right B k)) ∙ sym (compare_gt (r * 2) M (omega arith))

  closest_near : closest X (B * (4 * D)) ≡ closest J (4 * D)
  closest_near = ap₂ nearest quot same_order

pub closest_sticky : (X B J D : ℕ) → 0 < B → 0 < D → Sticky X B J → closest X (B * (4 * D)) ≡ closest J (4 * D)
closest_sticky X B J D Bp Dp (inl e) =
    closest_same X (B * (4 * D)) J (4 * D) (mul-pos Bp (mul-pos (omega arith) Dp)) (mul-pos (omega arith) Dp) (rw e (mul_assoc J B (4 * D)))
closest_sticky X B J D Bp Dp (inr s) = closest_near X B J D Dp s.0 s.1 s.2

-- ---- `round`, where k is the number of digits that it drops: the fraction is below 2 ^ (prec + k) units, and it is 2 ^ (prec - 1 + k) at least unless k is 0
abbrev pub Window : ℕ → ℕ → ℕ → ℕ → Type 0
Window p k n c = (n < 2 ^ (p + k) * c) × ((k ≡ 0) ⊎ (2 ^ (p - 1 + k) * c ≤ n))

pub size_gt : (n j : ℕ) → 2 ^ j ≤ n → j < size n
size_gt n j h = lt_of_not-le (λ (g : size n ≤ j). not-le_of_lt (lt_of_lt_of_le (size-lt n) (pow_mono g)) h)

drop_at : (p k n c : ℕ) → 0 < p → 0 < c → Window p k n c → drop p n c ≡ k
drop_at p k n c P C w =
    let most : size (n / c) ≤ p + k = size-le (n / c) (p + k) ((div-lt_iff_lt-mul C).1 w.0) in
    elim w.1 [
      | inl e ↦ omega arith
      | inr h ↦ omega (arith, size_gt (n / c) (p - 1 + k) ((le-div_iff_mul-le C).1 h))
    ]

pub round_at : (f : Format) (s : Bool) (a c k : ℕ) → 0 < c → Window (prec f) k (a * 2 ^ low f) c
    → round f s a c ≡ units f s (closest (a * 2 ^ low f) (c * 2 ^ k)) k
round_at f s a c k C w = rw (round_is f s a c, drop_at (prec f) k (a * 2 ^ low f) c (two-le_pos (prec f) (two f)) C w)

-- every fraction has its window
window_of : (p n c : ℕ) → 0 < p → 0 < c → Window p (drop p n c) n c
window_of p n c P C = (
  (div-lt_iff_lt-mul C).0 (lt_of_lt_of_le (size-lt (n / c)) (pow_mono (omega arith))),
  elim (eq-zero-or-pos (drop p n c)) [
    | inl z ↦ inl z
    | inr h ↦ inr ((le-div_iff_mul-le C).0 (size_reaches (n / c) (p - 1 + drop p n c) (omega arith)))
  ],
)

-- ---- n is less than b away from J b, for an odd J, and 4 D times b is the unit of what is kept: J b and n have the same window
module _ (p k n b J c D : ℕ) (B : 0 < b) (o : J % 2 ≡ 1) (hi : n < (J + 1) * b) (lo : J * b < n + b) (four : c * 2 ^ k ≡ b * (4 * D)) where
  cut : (i : ℕ) → 2 ^ (i + k) * c ≡ 2 ^ i * (4 * D) * b
  cut i = rw (pow-add 2 i k) (omega (arith, ap (λ (x : ℕ). 2 ^ i * x) four))

  same_window : Window p k (J * b) c → Window p k n c
  same_window w = (omega (arith, cut p, mul-le-mul_right b below), elim w.1 [ inl z ↦ inl z | inr h ↦ inr (least h) ])
    where
      below : J < 2 ^ p * (4 * D)
      below = lt_of_mul-lt-mul_right b (omega (arith, cut p, w.0))

      least : 2 ^ (p - 1 + k) * c ≤ J * b → 2 ^ (p - 1 + k) * c ≤ n
      least h =
          let y : 2 ^ (p - 1) * (4 * D) ≤ J = le_of_mul-le-mul_right (omega (arith, cut (p - 1))) B in
          let z : 2 ^ (p - 1) * (4 * D) < J = omega arith in
          omega (arith, cut (p - 1), mul-le-mul_right b z)

-- ---- J is an odd number that stands for a / c in units of 2 ^ (e - L). Over d, both are a number of units b: a / c is n / d, and J is J b / d
module _ (f : Format) (s : Bool) (a c J e L : ℕ) (C : 0 < c) (big : 2 ^ (prec f + 1) ≤ J)
    (st : (J % 2 ≡ 1) × (a * 2 ^ L < (J + 1) * (c * 2 ^ e)) × (J * (c * 2 ^ e) < a * 2 ^ L + c * 2 ^ e)) where
  abbrev p : ℕ
  p = prec f

  abbrev l : ℕ
  l = low f

  abbrev b : ℕ
  b = c * 2 ^ e * 2 ^ l

  abbrev n : ℕ
  n = a * 2 ^ L * 2 ^ l

  abbrev d : ℕ
  d = c * 2 ^ L

  abbrev k : ℕ
  k = drop p (J * b) d

  b_positive : 0 < b
  b_positive = mul-pos (mul-pos C (pow_pos e)) (pow_pos l)

  d_positive : 0 < d
  d_positive = mul-pos C (pow_pos L)

  w : Window p k (J * b) d
  w = window_of p (J * b) d (two-le_pos p (two f)) d_positive

  -- two digits of J at least are dropped
  gap : (m : ℕ) × (e + l + 2 + m ≡ L + k)
  gap =
      let h : p + 1 + (e + l) < p + k + L =
      exponent_under (p + 1 + (e + l)) (p + k + L) (lt_of_mul-lt-mul_right c
      (rw (pow-add 2 (p + 1) (e + l), pow-add 2 e l, pow-add 2 (p + k) L) (omega (arith, mul-le-mul_right b big, w.0)))) in
      le_dest {n = e + l + 2} (omega arith)

  abbrev D : ℕ
  D = 2 ^ gap.0

  four : d * 2 ^ k ≡ b * (4 * D)
  four =
      let both : 2 ^ L * 2 ^ k ≡ 2 ^ e * 2 ^ l * 4 * D =
      rw (← pow-add 2 L k, ← gap.1, pow-add 2 (e + l + 2) gap.0, pow-add 2 (e + l) 2, pow-add 2 e l) in
      omega (arith, ap (λ (x : ℕ). c * x) both)

  hi : n < (J + 1) * b
  hi = omega (arith, mul-lt-mul_of_pos_right st.1 (pow_pos l))

  lo : J * b < n + b
  lo = omega (arith, mul-lt-mul_of_pos_right st.2 (pow_pos l))

  round-near : round f s a c ≡ round f s (J * 2 ^ e) (2 ^ L)
  round-near =
      round_same f s a c (a * 2 ^ L) d C d_positive (omega arith)
      ∙ round_at f s (a * 2 ^ L) d k d_positive (same_window p k n b J d D b_positive st.0 hi lo four w)
      ∙ ap (λ (z : ℕ). units f s z k) (rw four (closest_sticky n b J D b_positive (pow_pos gap.0) (inr (st.0, hi, lo))
      ∙ sym (closest_sticky (J * (c * 2 ^ e) * 2 ^ l) b J D b_positive (pow_pos gap.0) (inl (mul_assoc J (c * 2 ^ e) (2 ^ l))))))
      ∙ sym (round_at f s (J * (c * 2 ^ e)) d k d_positive (rw (mul_assoc J (c * 2 ^ e) (2 ^ l)) w))
      ∙ round_same f s (J * (c * 2 ^ e)) d (J * 2 ^ e) (2 ^ L) d_positive (pow_pos L) (omega arith)

-- J stands for the fraction a / c in units of 2 ^ (e - L), and has two digits more than the format keeps: it rounds as a / c does
pub round_sticky : (f : Format) (s : Bool) (a c J e L : ℕ) → 0 < c → 2 ^ (prec f + 1) ≤ J → Sticky (a * 2 ^ L) (c * 2 ^ e) J
    → round f s a c ≡ round f s (J * 2 ^ e) (2 ^ L)
round_sticky f s a c J e L C big (inl x) = round_same f s a c (J * 2 ^ e) (2 ^ L) C (pow_pos L) (omega arith)
round_sticky f s a c J e L C big (inr x) = round-near f s a c J e L C big x
