-- `float::clamp` meets its contract, whether or not the lower bound raised the value. Assumes nothing.
use Rattle.float.specs.Operators.{when◌then◌else◌}
use Rattle.float.specs.Float.{clamp}
use Rattle.float.proofs.clamp.Goals.{else-x-low, then-x-low}
use Rattle.float.proofs.clamp.Goals as goal

pub returns-then-high-raised : goal.returns-then-high-raised
unfolding clamp when◌then◌else◌
returns-then-high-raised c =
    elim c.if-x-low.branch [
      | then-x-low w ↦ simp (w.if-x-low.true, ← w.raised-is, c.if-high-raised.true)
      | else-x-low w ↦ simp (w.if-x-low.false, ← w.raised-is, c.if-high-raised.true)
    ]

pub returns-else-high-raised : goal.returns-else-high-raised
unfolding clamp when◌then◌else◌
returns-else-high-raised c =
    elim c.if-x-low.branch [
      | then-x-low w ↦ simp (w.if-x-low.true, ← w.raised-is, c.if-high-raised.false)
      | else-x-low w ↦ simp (w.if-x-low.false, ← w.raised-is, c.if-high-raised.false)
    ]
