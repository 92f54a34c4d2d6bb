-- `rounding::pack::drop_eleven` meets its contract: each arm is what `nearest` gives as the remainder compares with the half.
use Rattle.std.proofs.Common.{◌≡◌, ℕ, ◌+◌, ◌*◌, ◌/◌, ◌%◌, ◌<◌, ◌≤◌, add-one, arith}
use lib.Bits.{bit_and, and_mask}
use lib.Ieee.Nearest.{closest}
use Rattle.rounding.proofs.Sticky.{compare_lt, compare_eq, compare_gt}
use Rattle.rounding.proofs.pack.drop_eleven.Goals as goal

down : (t : ℕ) → bit_and t 2047 < 1024 → t / 2048 ≡ closest t 2048
down t h = rw (compare_lt (t % 2048 * 2) 2048 (omega (arith, and_mask t 11)))

tie_even : (t : ℕ) → bit_and t 2047 ≡ 1024 → t / 2048 + bit_and (t / 2048) 1 ≡ closest t 2048
tie_even t h = rw (and_mask (t / 2048) 1, compare_eq (t % 2048 * 2) 2048 (omega (arith, and_mask t 11)))

up : (t : ℕ) → 1024 ≤ bit_and t 2047 → (bit_and t 2047 ≡ 1024 → ⊥) → t / 2048 + 1 ≡ closest t 2048
up t h n = rw (compare_gt (t % 2048 * 2) 2048 (omega (arith, and_mask t 11)), add-one (t / 2048))

pub returns-then-rest-lt1024 : goal.returns-then-rest-lt1024
returns-then-rest-lt1024 c = down c.args.t c.if-rest-lt1024.true

pub returns-then-rest-eq1024 : goal.returns-then-rest-eq1024
returns-then-rest-eq1024 c = tie_even c.args.t c.if-rest-eq1024.true

pub returns-else-rest-eq1024 : goal.returns-else-rest-eq1024
returns-else-rest-eq1024 c = up c.args.t c.if-rest-lt1024.false c.if-rest-eq1024.false
