-- `once::begun` meets its contract.
use Rattle.float.specs.Operators.{when◌then◌else◌}
use Rattle.rows.specs.Constants.{lp_bound}
use Rattle.once.specs.Once.{begun}
use Rattle.once.proofs.begun.Goals.{else-level-via-then-level+else-bound, else-level-via-else-level}
use Rattle.once.proofs.begun.Goals as goal

pub returns-then-bound : goal.returns-then-bound
unfolding begun when◌then◌else◌ lp_bound
returns-then-bound c = rw (← c.settled-level.ensures, c.if-level.true, c.if-bound.true)

pub returns : goal.returns
unfolding begun when◌then◌else◌ lp_bound
returns c =
    rw (← c.settled-level.ensures) (elim c.else-level.branch [
      | else-level-via-then-level+else-bound w ↦ rw (w.if-level.true, w.if-bound.false)
      | else-level-via-else-level w ↦ rw w.if-level.false
    ])
