-- Shifts and masks of words, as the program takes them, and `Sticky`.
use Rattle.std.proofs.Common.{◌≡◌, ℕ, ◌+◌, ◌-◌, ◌*◌, ◌/◌, ◌%◌, ◌^◌, ◌<◌, ◌≤◌, refl, ◌∙◌, inr, lt_of_lt_of_le, lt_of_le_of_lt, mul-le-mul_right}
use Rattle.std.proofs.Common.{mod-eq_of_lt, div-mul-le_self, arith, pow_pos, pow_mono}
use native.Mathlib.Nat.{lt-div-mul-add}
use lib.Arith.{lt_of_le-ne}
use lib.Bits.{bit_or, or_step, or_zero_r}
use Rattle.rounding.specs.Near.{Sticky}

-- ---- the lowest bit set
pub or_one : (q : ℕ) → bit_or q 1 ≡ q + (1 - q % 2)
or_one q = rw (or_step q 1, or_zero_r (q / 2)) (omega arith)

-- a lies between q and q + 1 times b: q with its lowest bit set stands for a / b
pub sticky_up : (a b q : ℕ) → q * b < a → a < (q + 1) * b → Sticky a b (bit_or q 1)
sticky_up a b q lo hi =
    let near : (q ≤ bit_or q 1) × (bit_or q 1 ≤ q + 1) × (bit_or q 1 % 2 ≡ 1) = rw (or_one q) (omega arith) in
    inr (near.2, omega (arith, mul-le-mul_right b near.0), omega (arith, mul-le-mul_right b near.1))

-- ---- what is shifted out
back_fits : (a d : ℕ) → a < 2 ^ 64 → a / 2 ^ d * 2 ^ d % 2 ^ 64 ≡ a / 2 ^ d * 2 ^ d
back_fits a d h = mod-eq_of_lt (lt_of_le_of_lt (div-mul-le_self a (2 ^ d)) h)

pub shift_no : (a d : ℕ) → a < 2 ^ 64 → (a / 2 ^ d * 2 ^ d % 2 ^ 64 ≡ a → ⊥) → Sticky a (2 ^ d) (bit_or (a / 2 ^ d) 1)
shift_no a d h n =
    sticky_up a (2 ^ d) (a / 2 ^ d) (lt_of_le-ne (div-mul-le_self a (2 ^ d)) (λ (e : a / 2 ^ d * 2 ^ d ≡ a). n (back_fits a d h ∙ e)))
    (omega (arith, lt-div-mul-add {a = a} (pow_pos d)))

pub far_some : (a d : ℕ) → a < 2 ^ 64 → 64 ≤ d → (a ≡ 0 → ⊥) → Sticky a (2 ^ d) 1
far_some a d h l n = let k : a < 2 ^ d = lt_of_lt_of_le h (pow_mono l) in inr (refl, omega arith, omega arith)
