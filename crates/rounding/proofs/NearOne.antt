-- The root of a float at most 2 ^ 26 floats away from 1: its pattern lies half way between the float's own and that of 1, rounded down.
use Rattle.std.proofs.Common.{◌≡◌, ℕ, ◌+◌, ◌-◌, ◌*◌, ◌/◌, ◌%◌, ◌^◌, ◌<◌, ◌≤◌, refl, ap, ◌∙◌, mul-le-mul, mul-pos, mul-div_cancel, arith, lit<}
use Prim.Native.Nat.{compare, Ordering}
use lib.Ieee.{binary64, round, of_bits}
use Rattle.rounding.specs.Near.{Halved}
use Rattle.rounding.specs.Root.{whole_root, root_units, root}
use Rattle.rounding.proofs.Sticky.{Cmp, cmp}
use Rattle.rounding.proofs.Decode.{taken_normal}
use Rattle.rounding.proofs.Roots.{IsRoot, root_bits}

-- ---- where n is the square of q + 1 less that of a small k, q is the whole part of its root
root_under_square : (n k q : ℕ) → 0 < k → k ≤ 2 ^ 26 → 2 ^ 53 ≤ q → n + k * k ≡ (q + 1) * (q + 1) → IsRoot n q
root_under_square n k q pos near big e = omega (arith, mul-pos pos pos, mul-le-mul near near)

-- ---- the root of a float with the exponent's field x, where what the digits are taken of is such a number
root_of_field : (b x k q : ℕ) → b / 2 ^ 52 ≡ x → 0 < x → x < 2047 → 0 < k → k ≤ 2 ^ 26 → 2 ^ 53 ≤ q
    → (2 ^ 52 + b % 2 ^ 52) * 2 ^ ((x + 51) % 2) * 2 ^ 54 + k * k ≡ (q + 1) * (q + 1)
    → of_bits binary64 (((x + 51 - (x + 51) % 2) / 2 + 485) * 2 ^ 52 + (q + 1) / 2) ≡ root (of_bits binary64 b)
root_of_field b x k q f pos far k-pos near big e =
    root_bits (rw f at (taken_normal b (omega arith) (omega arith))) q (rw (mul-div_cancel (2 ^ 52 + b % 2 ^ 52) {n = 1024} (lit< tt))
    (root_under_square ((2 ^ 52 + b % 2 ^ 52) * 2 ^ ((x + 51) % 2) * 2 ^ 54) k q k-pos near big e))

-- ---- k floats above 1, at 1, and k floats below it
abbrev one : ℕ
one = 0x3ff0_0000_0000_0000

-- (2 ^ 52 + k) * 2 ^ 54 is the square of 2 ^ 53 + k less that of k
above_one : (b k q : ℕ) → b ≡ one + k → q + 1 ≡ 2 ^ 53 + k → 0 < k → k ≤ 2 ^ 26 → of_bits binary64 ((b + one) / 2) ≡ root (of_bits binary64 b)
above_one b k q e s pos near =
    ap (λ (a : ℕ). of_bits binary64 a) (omega arith)
    ∙ root_of_field b 1023 k q (omega arith) (lit< tt) (lit< tt) pos near (omega arith) (omega (arith, ap (λ (a : ℕ). a * a) s))

at_one : of_bits binary64 ((one + one) / 2) ≡ root (of_bits binary64 one)
unfolding root root_units whole_root round of_bits
at_one = refl

-- (2 ^ 53 - k) * 2 * 2 ^ 54 is the square of p - k less that of k, for p = 2 ^ 54
square_below : (n p k q : ℕ) → q + 1 + k ≡ p → n + 2 * p * k ≡ p * p → n + k * k ≡ (q + 1) * (q + 1)
square_below n p k q s e = omega (arith, ap (λ (a : ℕ). a * a) s, ap (λ (a : ℕ). a * k) s)

below_one : (b k q : ℕ) → b + k ≡ one → q + 1 + k ≡ 2 ^ 54 → 0 < k → k ≤ 2 ^ 26 → of_bits binary64 ((b + one) / 2) ≡ root (of_bits binary64 b)
below_one b k q e s pos near =
    ap (λ (a : ℕ). of_bits binary64 a) (omega arith)
    ∙ root_of_field b 1022 k q (omega arith) (lit< tt) (lit< tt) pos near (omega arith) (square_below _ (2 ^ 54) k q s (omega arith))

pub near-one : (b : ℕ) → one - 2 ^ 26 ≤ b → b ≤ one + 2 ^ 26 → Halved b
near-one b lo hi = record { small = omega arith; reads = go (compare b one) (cmp b one) }
  where
    go : (o : Ordering) → Cmp o b one → of_bits binary64 ((b + one) / 2) ≡ root (of_bits binary64 b)
    go Ordering.lt h = below_one b (one - b) (2 ^ 54 - (one - b) - 1) (omega arith) (omega arith) (omega arith) (omega arith)
    go Ordering.eq h = rw h at_one
    go Ordering.gt h = above_one b (b - one) (2 ^ 53 + (b - one) - 1) (omega arith) (omega arith) (omega arith) (omega arith)
