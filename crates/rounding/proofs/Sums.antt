-- The sum of two numbers with signs, one of which may be a sticky number that stands for it.
use Rattle.std.proofs.Common.{◌≡◌, ℕ, suc, ◌+◌, ◌-◌, ◌*◌, ◌/◌, ◌%◌, ◌^◌, ◌<◌, ◌≤◌, Bool, true, false, cond, ◌&&◌, ltb, ◌⊎◌, sym, refl, ap, ◌∙◌, ap₂, inl, inr}
use Rattle.std.proofs.Common.{le_trans, lt_of_lt_of_le, le_of_lt, mul-le-mul_right, mul_assoc, mul_comm, add-mul, add_comm}
use Rattle.std.proofs.Common.{lt_of_mul-lt-mul_right, mul-le-mul_left, mul-lt-mul_of_pos_right, div-add-mod', le-mul_of_pos_right, arith, lit≤, pow_pos}
use Rattle.std.proofs.Common.{pow_mono, ltb-false, ltb-true, le-ltb, lt-ltb}
use mathlib.Core.Bool.{beq}
use Rattle.std.proofs.Math.Bool.{and-true, and-false}
use Rattle.std.proofs.lemmas.Bool.{cases_lt}
use native.Mathlib.Nat.{mul-sub}
use lib.Ieee.{Format, binary64, round, sum, of_bits}
use lib.Ieee.Positive.{first_pos}
use lib.Ieee.Scale.{round_same}
use Rattle.rounding.specs.Near.{Sticky, Multiplied, Raised}
use Rattle.rounding.proofs.Powers.{pow_back}
use Rattle.rounding.proofs.Sticky.{round_sticky, sticky_times, sticky_below}

-- ---- `sum`, by its cases
module _ (f : Format) (s t : Bool) (a b c : ℕ) where
  sum_is : sum f s a t b c ≡ cond (beq s t) (round f s (a + b) c) (cond (ltb a b) (round f t (b - a) c) (round f (s && ltb b a) (a - b) c))
  unfolding sum
  sum_is = refl

  pub like : beq s t ≡ true → sum f s a t b c ≡ round f s (a + b) c
  like h = rw (sum_is, h)

  pub less : beq s t ≡ false → a < b → sum f s a t b c ≡ round f t (b - a) c
  less h k = rw (sum_is, h, lt-ltb a b k)

  pub more : beq s t ≡ false → b < a → sum f s a t b c ≡ round f s (a - b) c
  more h k = rw (sum_is, h, le-ltb a b (le_of_lt k), lt-ltb b a k, and-true s)

  pub level : beq s t ≡ false → a ≡ b → sum f s a t b c ≡ round f false 0 c
  level h k = rw (sum_is, h, le-ltb a b (omega arith), le-ltb b a (omega arith), and-false s) (ap (λ (x : ℕ). round f false x c) (omega arith))

-- ---- two sums that agree in all that `sum` looks at
pub record Alike (f : Format) (a b c a' b' c' : ℕ) : Type 0 where
  pub under : ltb a b ≡ ltb a' b'
  pub over : ltb b a ≡ ltb b' a'
  pub added : (s : Bool) → round f s (a + b) c ≡ round f s (a' + b') c'
  pub right : (s : Bool) → round f s (b - a) c ≡ round f s (b' - a') c'
  pub left : (s : Bool) → round f s (a - b) c ≡ round f s (a' - b') c'

pub alike : {f : Format} {a b c a' b' c' : ℕ} → Alike f a b c a' b' c' → (s t : Bool) → sum f s a t b c ≡ sum f s a' t b' c'
alike {f} {a} {b} {c} {a'} {b'} {c'} x s t =
    rw (sum_is f s t a b c, sum_is f s t a' b' c', x.under, x.over, x.added s, x.right t, x.left (s && ltb b' a'))

swapped : {f : Format} {a b c a' b' c' : ℕ} → Alike f a b c a' b' c' → Alike f b a c b' a' c'
swapped {f} {a} {b} {c} {a'} {b'} {c'} x =
    record { under = x.over; over = x.under; added = λ s. rw (add_comm b a, add_comm b' a') (x.added s); right = x.left; left = x.right }

itself : {f : Format} {a b c : ℕ} → Alike f a b c a b c
itself = record { under = refl; over = refl; added = λ s. refl; right = λ s. refl; left = λ s. refl }

ltb_times : (a b k : ℕ) → 0 < k → ltb (a * k) (b * k) ≡ ltb a b
ltb_times a b k K = go (ltb a b) refl
  where
    go : (x : Bool) → ltb a b ≡ x → ltb (a * k) (b * k) ≡ x
    go true h = lt-ltb (a * k) (b * k) (mul-lt-mul_of_pos_right (ltb-true a b h) K)
    go false h = le-ltb (a * k) (b * k) (mul-le-mul_right k (ltb-false a b h))

minus_times : (a b k : ℕ) → a * k - b * k ≡ (a - b) * k
minus_times a b k = rw (mul_comm a k, mul_comm b k, ← mul-sub k a b) (mul_comm k (a - b))

-- the same values over another denominator
pub sum_same : (f : Format) (s t : Bool) (a b c a' b' c' : ℕ) → 0 < c → 0 < c' → a * c' ≡ a' * c → b * c' ≡ b' * c → sum f s a t b c ≡ sum f s a' t b' c'
sum_same f s t a b c a' b' c' C C' p q = alike (record {
  under = order a b a' b' p q;
  over = order b a b' a' q p;
  added = λ s. round_same f s (a + b) c (a' + b') c' C C' (omega arith);
  right = λ s. round_same f s (b - a) c (b' - a') c' C C' (off a b a' b' p q);
  left = λ s. round_same f s (a - b) c (a' - b') c' C C' (off b a b' a' q p);
}) s t
  where
    order : (x y x' y' : ℕ) → x * c' ≡ x' * c → y * c' ≡ y' * c → ltb x y ≡ ltb x' y'
    order x y x' y' h k = sym (ltb_times x y c' C') ∙ ap₂ ltb h k ∙ ltb_times x' y' c C

    off : (x y x' y' : ℕ) → x * c' ≡ x' * c → y * c' ≡ y' * c → (y - x) * c' ≡ (y' - x') * c
    off x y x' y' h k = rw (← minus_times y x c', h, k) (minus_times y' x' c)

-- ---- two numbers at one exponent, as the program adds them
zero-sum : round binary64 false 0 (2 ^ 2272) ≡ of_bits binary64 0
unfolding round of_bits
zero-sum = refl

module _ (s t : Bool) (P Q S e : ℕ) where
  pub aligned_like : beq s t ≡ true → S ≡ P + Q → round binary64 s (S * 2 ^ e) (2 ^ 2272) ≡ sum binary64 s (P * 2 ^ e) t (Q * 2 ^ e) (2 ^ 2272)
  aligned_like h k = sym (like binary64 s t (P * 2 ^ e) (Q * 2 ^ e) (2 ^ 2272) h ∙ rw (k, add-mul P Q (2 ^ e)))

  off : (P Q : ℕ) → S + P ≡ Q → Q * 2 ^ e - P * 2 ^ e ≡ S * 2 ^ e
  off P Q k = omega (arith, ap (λ (x : ℕ). x * 2 ^ e) k)

  pub aligned_less : beq s t ≡ false → P < Q → S + P ≡ Q → round binary64 t (S * 2 ^ e) (2 ^ 2272) ≡ sum binary64 s (P * 2 ^ e) t (Q * 2 ^ e) (2 ^ 2272)
  aligned_less h l k = sym (less binary64 s t (P * 2 ^ e) (Q * 2 ^ e) (2 ^ 2272) h (mul-lt-mul_of_pos_right l (pow_pos e)) ∙ rw (off P Q k))

  pub aligned_more : beq s t ≡ false → Q < P → S + Q ≡ P → round binary64 s (S * 2 ^ e) (2 ^ 2272) ≡ sum binary64 s (P * 2 ^ e) t (Q * 2 ^ e) (2 ^ 2272)
  aligned_more h l k = sym (more binary64 s t (P * 2 ^ e) (Q * 2 ^ e) (2 ^ 2272) h (mul-lt-mul_of_pos_right l (pow_pos e)) ∙ rw (off Q P k))

pub aligned_same : (s t : Bool) (P Q e : ℕ) → beq s t ≡ false → P ≡ Q → of_bits binary64 0 ≡ sum binary64 s (P * 2 ^ e) t (Q * 2 ^ e) (2 ^ 2272)
aligned_same s t P Q e h k = sym (level binary64 s t (P * 2 ^ e) (Q * 2 ^ e) (2 ^ 2272) h (rw k) ∙ zero-sum)

-- ---- X stands beside P 2 ^ e, and the odd Q for X / 2 ^ e
module _ (P Q X e L : ℕ) (even : P % 2 ≡ 0) (gap : Q + 2 ^ 54 ≤ P)
    (st : (Q % 2 ≡ 1) × (X < (Q + 1) * 2 ^ e) × (Q * 2 ^ e < X + 2 ^ e)) where
  abbrev w : ℕ
  w = 2 ^ e

  to_round : (s : Bool) (a J : ℕ) → 2 ^ 54 ≤ J → Sticky a w J → round binary64 s (J * w) (2 ^ L) ≡ round binary64 s a (2 ^ L)
  to_round s a J big k = sym (round_sticky binary64 s a (2 ^ L) J e L (pow_pos L) big (rw (mul_comm (2 ^ L) w) (sticky_times a w (2 ^ L) J (pow_pos L) k)))

  room : (Q + 2 ^ 54) * w ≤ P * w
  room = mul-le-mul_right w gap

  stands_in : Alike binary64 (P * w) (Q * w) (2 ^ L) (P * w) X (2 ^ L)
  stands_in = record {
    under = le-ltb (P * w) (Q * w) (omega (arith, room)) ∙ sym (le-ltb (P * w) X (omega (arith, room)));
    over = lt-ltb (Q * w) (P * w) (omega (arith, room, pow_pos e)) ∙ sym (lt-ltb X (P * w) (omega (arith, room, pow_pos e)));
    added = λ s. rw (← add-mul P Q w) (to_round s (P * w + X) (P + Q) (omega arith) (inr (omega arith, omega arith, omega arith)));
    right = λ s. ap (λ (x : ℕ). round binary64 s x (2 ^ L)) (omega (arith, room));
    left = λ s. rw (minus_times P Q w) (to_round s (P * w - X) (P - Q) (omega arith) (inr (
      omega arith,
      omega (arith, room, minus_times P Q w),
      omega (arith, room, minus_times P Q w),
    )));
  }

sticky_alike : (P Q X e L : ℕ) → P % 2 ≡ 0 → Q + 2 ^ 54 ≤ P → Sticky X (2 ^ e) Q
    → Alike binary64 (P * 2 ^ e) (Q * 2 ^ e) (2 ^ L) (P * 2 ^ e) X (2 ^ L)
sticky_alike P Q X e L even gap (inl x) = rw x itself
sticky_alike P Q X e L even gap (inr n) = stands_in P Q X e L even gap n

-- ---- a number with z zeros at its end: dropping up to z digits is exact, and dropping more leaves a small number
exact_only : (X k b J : ℕ) → X ≡ k * b → Sticky X b J → X ≡ J * b
exact_only X k b J h (inl e) = e
exact_only X k b J h (inr s) =
    let up : k < J + 1 = lt_of_mul-lt-mul_right b (omega arith) in
    let down : J < k + 1 = lt_of_mul-lt-mul_right b (omega arith) in
    h ∙ ap (λ (x : ℕ). x * b) (omega arith)

far_or_exact : (X d J z K : ℕ) → X % 2 ^ z ≡ 0 → X < 2 * K * 2 ^ suc z → Sticky X (2 ^ d) J → (X ≡ J * 2 ^ d) ⊎ (J < 2 * K)
far_or_exact X d J z K ends most st = elim (cases_lt z d) [
  | inl g ↦ inr (sticky_below X (2 ^ d) J K (lt_of_lt_of_le most (mul-le-mul_left (2 * K) (pow_mono g))) st)
  | inr g ↦
      let is : X ≡ X / 2 ^ z * 2 ^ (z - d) * 2 ^ d = omega (arith, div-add-mod' X (2 ^ z), ap (λ (x : ℕ). X / 2 ^ z * x) (pow_back g)) in
      inl (exact_only X (X / 2 ^ z * 2 ^ (z - d)) (2 ^ d) J is st)
]

-- a stand-in is no longer than its number, and not 0
sticky_small : (X b J K : ℕ) → 0 < b → X < 2 * K → Sticky X b J → J < 2 * K
sticky_small X b J K B h st = sticky_below X b J K (lt_of_lt_of_le h (le-mul_of_pos_right (2 * K) B)) st

sticky_positive : (X b J : ℕ) → 0 < X → Sticky X b J → 0 < J
sticky_positive X b J h (inl e) = first_pos J b (omega arith)
sticky_positive X b J h (inr s) = omega arith

-- ---- X is shifted to P's exponent, where J stands for it
shifted : (P X J p x z K : ℕ) → P % 2 ≡ 0 → 2 * K + 2 ^ 54 ≤ P → X % 2 ^ z ≡ 0 → X < 2 * K * 2 ^ suc z → x ≤ p → Sticky X (2 ^ (p - x)) J
    → Alike binary64 (P * 2 ^ p) (J * 2 ^ p) (2 ^ 2272) (P * 2 ^ p) (X * 2 ^ x) (2 ^ 2272)
shifted P X J p x z K even room ends most h st =
    let there : Sticky (X * 2 ^ x) (2 ^ p) J = rw (pow_back h) at (sticky_times X (2 ^ (p - x)) (2 ^ x) J (pow_pos x) st) in
    elim (far_or_exact X (p - x) J z K ends most st) [
      | inl e ↦ rw (e, mul_assoc J (2 ^ (p - x)) (2 ^ x), pow_back h) itself
      | inr l ↦ sticky_alike P J (X * 2 ^ x) p 2272 even (omega arith) there
    ]

-- ---- as `sum_wide` has it: of a product and an addend the one with the smaller exponent is shifted
module _ (A C J ea ec : ℕ) (a : Multiplied A) (c : Raised C) where
  pub right : (s t : Bool) → ec ≤ ea → Sticky C (2 ^ (ea - ec)) J
      → sum binary64 s (A * 2 ^ ea) t (J * 2 ^ ea) (2 ^ 2272) ≡ sum binary64 s (A * 2 ^ ea) t (C * 2 ^ ec) (2 ^ 2272)
  right s t h st = alike (shifted A C J ea ec 74 (2 ^ 51) (omega (arith, a.ends)) (le_trans (lit≤ tt) a.least) c.ends c.most h st) s t

  pub left : (s t : Bool) → ea ≤ ec → Sticky A (2 ^ (ec - ea)) J
      → sum binary64 s (J * 2 ^ ec) t (C * 2 ^ ec) (2 ^ 2272) ≡ sum binary64 s (A * 2 ^ ea) t (C * 2 ^ ec) (2 ^ 2272)
  left s t h st = alike (swapped (shifted C A J ec ea 20 (2 ^ 104) (omega (arith, c.ends)) (le_trans (lit≤ tt) c.least) a.ends a.most h st)) s t
