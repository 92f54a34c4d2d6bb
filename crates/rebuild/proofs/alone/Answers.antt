-- `rebuild::alone` meets its contract.
use Rattle.float.specs.Float.{zero}
use Rattle.rebuild.specs.Supports.{alone}
use Rattle.rebuild.proofs.alone.Goals.{then-r-2, else-r-2+then-r-3, else-r-2+else-r-3}
use Rattle.rebuild.proofs.alone.Goals as goal

pub returns-then-p-bound : goal.returns-then-p-bound
unfolding alone
returns-then-p-bound c = rw c.if-p-bound.true

pub returns-then-p-bound-2 : goal.returns-then-p-bound-2
unfolding alone zero
returns-then-p-bound-2 c =
    elim c.if-r-2.branch [
      | then-r-2 w ↦ rw (c.if-p-bound.false, c.if-r.true, w.if-r-2.true, c.if-p-bound-2.true)
      | else-r-2+then-r-3 w ↦ rw (c.if-p-bound.false, c.if-r.true, w.if-r-2.false, w.if-r-3.true, ← w.value-is, c.if-p-bound-2.true)
      | else-r-2+else-r-3 w ↦ cc
    ]

pub returns-then-r-4 : goal.returns-then-r-4
unfolding alone zero
returns-then-r-4 c =
    elim c.if-r-2.branch [
      | then-r-2 w ↦ cc
      | else-r-2+then-r-3 w ↦
          rw (c.if-p-bound.false, c.if-r.true, w.if-r-2.false, w.if-r-3.true, ← w.value-is, c.if-p-bound-2.false, c.if-r-4.true)
      | else-r-2+else-r-3 w ↦ rw (c.if-p-bound.false, c.if-r.true, w.if-r-2.false, w.if-r-3.false, c.if-r-4.true)
    ]

pub returns-else-r-4 : goal.returns-else-r-4
unfolding alone zero
returns-else-r-4 c =
    elim c.if-r-2.branch [
      | then-r-2 w ↦ cc
      | else-r-2+then-r-3 w ↦
          rw (c.if-p-bound.false, c.if-r.true, w.if-r-2.false, w.if-r-3.true, ← w.value-is, c.if-p-bound-2.false, c.if-r-4.false)
      | else-r-2+else-r-3 w ↦ rw (c.if-p-bound.false, c.if-r.true, w.if-r-2.false, w.if-r-3.false, c.if-r-4.false)
    ]

pub returns-else-r : goal.returns-else-r
unfolding alone zero
returns-else-r c = rw (c.if-p-bound.false, c.if-r.false)
