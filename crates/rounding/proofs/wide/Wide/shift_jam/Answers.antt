-- `rounding::wide::Wide::shift_jam` meets its contract.
use Rattle.std.proofs.Common.{◌≡◌, ℕ, ◌+◌, ◌-◌, ◌*◌, ◌^◌, ◌<◌, ◌≤◌, mul_comm, zero-add, pow_pos}
use Rattle.rounding.specs.Near.{Sticky}
use Rattle.rounding.proofs.Powers.{pow_back}
use Rattle.rounding.proofs.Words.{jammed, sticky_word, sticky_trans, sticky_shift}
use Rattle.rounding.proofs.wide.Wide.shift_jam.Goals as goal

many : (hi lo d j r : ℕ) → lo < 2 ^ 64 → 64 ≤ d → j ≡ jammed hi lo → Sticky j (2 ^ (d - 64)) r → Sticky (hi * 2 ^ 64 + lo) (2 ^ d) (0 + r)
many hi lo d j r h k e t =
    rw (zero-add r, ← pow_back k, mul_comm (2 ^ (d - 64)) (2 ^ 64))
    (sticky_trans (hi * 2 ^ 64 + lo) (2 ^ 64) (d - 64) j r (pow_pos 64) (rw e (sticky_word hi lo h)) t)

pub returns-then-d-lt64 : goal.returns-then-d-lt64
returns-then-d-lt64 c = rw (← c.self.view_is, c.jam.ensures) (sticky_shift _ _ _ c.self.invariant c.if-d-lt64.true)

pub returns-else-d-lt64 : goal.returns-else-d-lt64
returns-else-d-lt64 c = rw (← c.self.view_is) (many _ _ _ _ _ c.self.invariant c.if-d-lt64.false c.jam-else-d-lt64.ensures c.shift_jam.ensures)
