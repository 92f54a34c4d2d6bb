-- Numbers times powers of two: equal where the exponents add up alike, and within bounds by the sum of the exponents.
use Rattle.std.proofs.Common.{◌≡◌, ℕ, ◌+◌, ◌-◌, ◌*◌, ◌^◌, ◌<◌, ◌≤◌, sym, refl, ap, ◌∙◌, arith, le_trans, le_of_eq, lt_of_lt_of_le}
use Rattle.std.proofs.Common.{mul-le-mul_right, mul_assoc, lt_of_not-le, not-le_of_lt, pow_mono, pow-add, shl_lt}

pub one_shift : (x i j k : ℕ) → i + j ≡ k → x * 2 ^ i * 2 ^ j ≡ x * 2 ^ k
one_shift x i j k e = rw (← e, pow-add 2 i j, mul_assoc x (2 ^ i) (2 ^ j))

pub two_shifts : (x i j k l : ℕ) → i + j ≡ k + l → x * 2 ^ i * 2 ^ j ≡ x * 2 ^ k * 2 ^ l
two_shifts x i j k l e = one_shift x i j (k + l) e ∙ sym (one_shift x k l (k + l) refl)

pub three_shifts : (x i j k l : ℕ) → i + j + k ≡ l → x * 2 ^ i * 2 ^ j * 2 ^ k ≡ x * 2 ^ l
three_shifts x i j k l e = rw (one_shift x i j (i + j) refl) (one_shift x (i + j) k l e)

pub two_powers : (i j k l : ℕ) → i + j ≡ k + l → 2 ^ i * 2 ^ j ≡ 2 ^ k * 2 ^ l
two_powers i j k l e = rw (← (pow-add 2 i j), ← (pow-add 2 k l), e)

pub pow_back : {i j : ℕ} → j ≤ i → 2 ^ (i - j) * 2 ^ j ≡ 2 ^ i
pow_back {i} {j} h = sym (pow-add 2 (i - j) j) ∙ ap (λ (x : ℕ). 2 ^ x) (omega arith)

pub shift_under : {x : ℕ} (i j k : ℕ) → x < 2 ^ i → i + j ≤ k → x * 2 ^ j < 2 ^ k
shift_under i j k h l = lt_of_lt_of_le (shl_lt i j h) (pow_mono l)

pub shift_over : {x : ℕ} (i j k : ℕ) → 2 ^ i ≤ x → k ≤ i + j → 2 ^ k ≤ x * 2 ^ j
shift_over i j k h l = le_trans (pow_mono l) (le_trans (le_of_eq (pow-add 2 i j)) (mul-le-mul_right (2 ^ j) h))

pub exponent_under : (i j : ℕ) → 2 ^ i < 2 ^ j → i < j
exponent_under i j h = lt_of_not-le (λ (g : j ≤ i). not-le_of_lt h (pow_mono g))
