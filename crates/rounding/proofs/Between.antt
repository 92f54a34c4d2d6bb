-- Where √n lies between two whole numbers of 2 ^ -1074, and what a fraction rounds to by its square: one up to n rounds to at most what
-- √n * 2 ^ -1074 rounds to, and one from n on to at least that.
use Rattle.std.proofs.Common.{◌≡◌, ℕ, suc, ◌+◌, ◌*◌, ◌^◌, ◌<◌, ◌≤◌, Bool, true, false, cond, T, eqb, sym, refl, ap, ◌∙◌, inl, inr, le_trans, le_of_eq}
use Rattle.std.proofs.Common.{le_refl, add-zero, mul-le-mul_right, mul_assoc, mul_comm, mul-le-mul_left, mul-lt-mul_of_pos_right, mul-pos, mul-one}
use Rattle.std.proofs.Common.{mul_left_comm, arith, pow_pos, eq-eqb, ne_eqb, eqb-true}
use lib.Arith.{lt_of_le-ne}
use lib.Ieee.{Float, binary64, round, le}
use lib.Ieee.Order.{round_mono}
use lib.Ieee.Positive.{positive, between}
use lib.Ieee.Scale.{round_same}
use borrow.Author.Tests.{eqb-false}
use Rattle.std.proofs.lemmas.Bool.{cases_lt}
use Rattle.rounding.specs.Near.{Sticky}
use Rattle.rounding.specs.Root.{doubled}
use Rattle.rounding.proofs.Sticky.{round_sticky}
use Rattle.rounding.proofs.Roots.{IsRoot, sq_lt_back}

sq_le_back : (a b : ℕ) → a * a ≤ b * b → a ≤ b
sq_le_back a b h = omega (arith, sq_lt_back a (b + 1) (omega arith))

-- what √n * 2 ^ -1074 rounds to, Q being the whole part of √n
abbrev pub rounded : ℕ → ℕ → Float
rounded n Q = round binary64 false (doubled n Q) (2 ^ 1075)

doubled-near : (n Q : ℕ) → (2 * Q ≤ doubled n Q) × (doubled n Q ≤ 2 * Q + 1)
doubled-near n Q = go (eqb (Q * Q) n)
  where
    go : (b : Bool) → (2 * Q ≤ 2 * Q + cond b 0 1) × (2 * Q + cond b 0 1 ≤ 2 * Q + 1)
    go true = omega arith
    go false = omega arith

-- ---- it is above zero and finite, for every n that a float has: 2 ^ -1074 is at most it, and 2 ^ 512 at least
smallest_positive : T (positive (round binary64 false 1 (2 ^ 1074)))
unfolding round
smallest_positive = tt

large_positive : T (positive (round binary64 false (2 ^ 512) 1))
unfolding round
large_positive = tt

pub rounded_positive : (n Q : ℕ) → 0 < Q → Q < 2 ^ 1586 → T (positive (rounded n Q))
rounded_positive n Q h k =
    let near = doubled-near n Q in
    let least : 2 ≤ doubled n Q = omega arith in
    let most : doubled n Q * 1 ≤ 2 * suc Q = omega arith in
    between (round binary64 false 1 (2 ^ 1074)) (rounded n Q) (round binary64 false (2 ^ 512) 1) smallest_positive large_positive
    (round_mono binary64 1 (2 ^ 1074) (doubled n Q) (2 ^ 1075) (pow_pos 1074) (pow_pos 1075) (mul-le-mul_right (2 ^ 1074) least))
    (round_mono binary64 (doubled n Q) (2 ^ 1075) (2 ^ 512) 1 (pow_pos 1075) (pow_pos 0) (le_trans most (mul-le-mul_left 2 k)))

-- ---- a / c is A / c times 2 ^ -1074
module _ (n Q a A c : ℕ) (C : 0 < c) (is : IsRoot n Q) (big : 2 ^ 53 ≤ Q) (twice : a * 2 ^ 1075 ≡ 2 * A) where
  -- strictly between Q and Q + 1: the same rounding
  inside : (Q * Q ≡ n → ⊥) → Q * c < A → A < (Q + 1) * c → round binary64 false a c ≡ rounded n Q
  inside ns lo hi =
      let st : Sticky (2 * A) c (2 * Q + 1) = inr (omega arith, omega arith, omega arith) in
      round_sticky binary64 false a c (2 * Q + 1) 0 1075 C (omega arith) (rw (twice, mul-one c) st)
      ∙ rw (ne_eqb (Q * Q) n ns, mul-one (2 * Q + 1))

  itself : (x : Float) → x ≡ rounded n Q → T (le x (rounded n Q)) × T (le (rounded n Q) x)
  itself x e =
      let l = round_mono binary64 (doubled n Q) (2 ^ 1075) (doubled n Q) (2 ^ 1075) (pow_pos 1075) (pow_pos 1075) (le_refl (doubled n Q * 2 ^ 1075)) in
      rw e (l, l)

  up_to : A * A ≤ n * (c * c) → T (le (round binary64 false a c) (rounded n Q))
  up_to h = elim (cases_lt (Q * c) A) [
    | inl g ↦ (itself (round binary64 false a c) (inside (ns g) g hi)).0
    | inr g ↦ round_mono binary64 a c (doubled n Q) (2 ^ 1075) C (pow_pos 1075) (rw twice (omega (arith, mul-le-mul_right c (doubled-near n Q).0)))
  ]
    where
      hi : A < (Q + 1) * c
      hi = sq_lt_back A ((Q + 1) * c) (omega (arith, mul-lt-mul_of_pos_right is.1 (mul-pos C C)))

      ns : Q * c < A → Q * Q ≡ n → ⊥
      ns g e = omega (arith, sq_le_back A (Q * c) (omega (arith, ap (λ (x : ℕ). x * (c * c)) e)))

  from : n * (c * c) ≤ A * A → T (le (rounded n Q) (round binary64 false a c))
  from h = go (eqb (Q * Q) n) refl
    where
      above : doubled n Q * c ≤ 2 * A → T (le (rounded n Q) (round binary64 false a c))
      above g = round_mono binary64 (doubled n Q) (2 ^ 1075) a c (pow_pos 1075) C (rw twice g)

      go : (b : Bool) → eqb (Q * Q) n ≡ b → T (le (rounded n Q) (round binary64 false a c))
      go true e = above (rw e (omega (arith, sq_le_back (Q * c) A (omega (arith, mul-le-mul_right (c * c) is.0)))))
      go false e =
          let ns = eqb-false (Q * Q) n e in
          let strict : Q * c < A = sq_lt_back (Q * c) A (omega (arith, mul-lt-mul_of_pos_right (lt_of_le-ne is.0 ns) (mul-pos C C))) in
          elim (cases_lt A ((Q + 1) * c)) [
            | inl g ↦ (itself (round binary64 false a c) (inside ns strict g)).1
            | inr g ↦ above (omega (arith, mul-le-mul_right c (doubled-near n Q).1))
          ]

two_A : (a : ℕ) → a * 2 ^ 1075 ≡ 2 * (a * 2 ^ 1074)
two_A a = sym (mul_assoc a (2 ^ 1074) 2) ∙ mul_comm (a * 2 ^ 1074) 2

module _ (n Q a c : ℕ) (C : 0 < c) (is : IsRoot n Q) (big : 2 ^ 53 ≤ Q) where
  pub under : a * 2 ^ 1074 * (a * 2 ^ 1074) ≤ n * (c * c) → T (le (round binary64 false a c) (rounded n Q))
  under = up_to n Q a (a * 2 ^ 1074) c C is big (two_A a)

  pub over : n * (c * c) ≤ a * 2 ^ 1074 * (a * 2 ^ 1074) → T (le (rounded n Q) (round binary64 false a c))
  over = from n Q a (a * 2 ^ 1074) c C is big (two_A a)

-- ---- two fractions that round as √n * 2 ^ -1074 does, one with a square up to n and one with a square from n on
abbrev pub Under : ℕ → ℕ → Type 0
Under n Q = (a : ℕ) × (k : ℕ) × (0 < k) × (a * a ≤ n * (k * k)) × (round binary64 false a (k * 2 ^ 1074) ≡ rounded n Q)

abbrev pub Over : ℕ → ℕ → Type 0
Over n Q = (a : ℕ) × (k : ℕ) × (0 < k) × (n * (k * k) ≤ a * a) × (round binary64 false a (k * 2 ^ 1074) ≡ rounded n Q)

-- Q itself, where its square is n
at_square : (n Q : ℕ) → Q * Q ≡ n → round binary64 false Q (1 * 2 ^ 1074) ≡ rounded n Q
at_square n Q e =
    round_same binary64 false Q (1 * 2 ^ 1074) (2 * Q) (2 ^ 1075) (pow_pos 1074) (pow_pos 1075) (two_A Q ∙ sym (mul_assoc 2 Q (2 ^ 1074)))
    ∙ rw (eq-eqb (Q * Q) n e, add-zero (2 * Q))

-- Q + 1 / 2 P and P - 1 / 2 P, where P is Q + 1, where √n lies between Q and P
module _ (n Q : ℕ) (is : IsRoot n Q) (big : 2 ^ 53 ≤ Q) (ns : Q * Q ≡ n → ⊥) where
  abbrev P : ℕ
  P = Q + 1

  -- of 2 ^ -1074 there are Q * 2 P in Q, and P * 2 P in P
  rounds : (a : ℕ) → 2 * (Q * P) < a → a < 2 * (P * P) → round binary64 false a (2 * P * 2 ^ 1074) ≡ rounded n Q
  rounds a lo hi =
      inside n Q a (a * 2 ^ 1074) (2 * P * 2 ^ 1074) (mul-pos (omega arith) (pow_pos 1074)) is big (two_A a) ns
      (rw (times Q) (mul-lt-mul_of_pos_right lo (pow_pos 1074))) (rw (times P) (mul-lt-mul_of_pos_right hi (pow_pos 1074)))
    where
      times : (x : ℕ) → x * (2 * P * 2 ^ 1074) ≡ 2 * (x * P) * 2 ^ 1074
      times x = rw (← mul_assoc x (2 * P) (2 ^ 1074), mul_left_comm x 2 P)

  close_under : Under n Q
  close_under =
      let next : Q * Q < n = lt_of_le-ne is.0 ns in
      (2 * (Q * P) + 1, 2 * P, omega arith, omega (arith, mul-le-mul_right (P * P) next), rounds (2 * (Q * P) + 1) (omega arith) (omega arith))

  close_over : Over n Q
  close_over = (
    2 * (Q * P) + (2 * Q + 1),
    2 * P,
    omega arith,
    omega (arith, mul-le-mul_right (P * P) is.1),
    rounds (2 * (Q * P) + (2 * Q + 1)) (omega arith) (omega arith),
  )

pub some_under : (n Q : ℕ) → IsRoot n Q → 2 ^ 53 ≤ Q → Under n Q
some_under n Q is big = go (eqb (Q * Q) n) refl
  where
    go : (b : Bool) → eqb (Q * Q) n ≡ b → Under n Q
    go true h = (Q, 1, pow_pos 0, rw (mul-one n) is.0, at_square n Q (eqb-true (Q * Q) n h))
    go false h = close_under n Q is big (eqb-false (Q * Q) n h)

pub some_over : (n Q : ℕ) → IsRoot n Q → 2 ^ 53 ≤ Q → Over n Q
some_over n Q is big = go (eqb (Q * Q) n) refl
  where
    go : (b : Bool) → eqb (Q * Q) n ≡ b → Over n Q
    go true h = let e = eqb-true (Q * Q) n h in (Q, 1, pow_pos 0, rw (mul-one n) (le_of_eq (sym e)), at_square n Q e)
    go false h = close_over n Q is big (eqb-false (Q * Q) n h)
