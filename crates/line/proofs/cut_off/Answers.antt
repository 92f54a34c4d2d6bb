-- `line::cut_off` meets its contract: the end that the sign of the coefficient selects is the one that the definition compares with.
use Rattle.float.specs.Operators.{when◌then◌else◌}
use Rattle.float.specs.Float.{zero}
use Rattle.line.specs.Line.{cut_off}
use Rattle.line.proofs.cut_off.Goals.{else-up, then-up}
use Rattle.line.proofs.cut_off.Goals as goal

pub returns-then-t-eps : goal.returns-then-t-eps
unfolding cut_off when◌then◌else◌
returns-then-t-eps c = rw (← c.coefficient_is_zero.ensures, c.if-coefficient_is_zero.true, c.if-t-eps.true)

pub returns-then-coefficient_is_zero : goal.returns-then-coefficient_is_zero
unfolding cut_off when◌then◌else◌
returns-then-coefficient_is_zero c = rw (← c.coefficient_is_zero.ensures, c.if-coefficient_is_zero.true, c.if-t-eps.false)

pub returns-then-up-2 : goal.returns-then-up-2
unfolding cut_off when◌then◌else◌ zero
returns-then-up-2 c =
    elim c.if-up.branch [
      | then-up w ↦ rw (← c.coefficient_is_zero.ensures, c.if-coefficient_is_zero.false, c.if-up-2.true, ← w.edge-is, c.if-t-edge.true)
      | else-up w ↦ cc
    ]

pub returns-then-t-edge : goal.returns-then-t-edge
unfolding cut_off when◌then◌else◌ zero
returns-then-t-edge c =
    elim c.if-up.branch [
      | then-up w ↦ cc
      | else-up w ↦ rw (← c.coefficient_is_zero.ensures, c.if-coefficient_is_zero.false, c.if-up-2.false, ← w.edge-is, c.if-t-edge.true)
    ]

pub returns : goal.returns
unfolding cut_off when◌then◌else◌ zero
returns c =
    elim c.if-up.branch [
      | then-up w ↦ rw (← c.coefficient_is_zero.ensures, c.if-coefficient_is_zero.false, w.if-up.true, ← w.edge-is, c.if-t-edge.false)
      | else-up w ↦ rw (← c.coefficient_is_zero.ensures, c.if-coefficient_is_zero.false, w.if-up.false, ← w.edge-is, c.if-t-edge.false)
    ]
