-- `once::lone` meets its contract.
use Rattle.float.specs.Operators.{when◌then◌else◌}
use Rattle.rows.specs.Constants.{eps_zero}
use Rattle.once.specs.Once.{lone}
use Rattle.once.proofs.lone.Goals.{else-abs-via-then-abs+else-r, else-abs-via-else-abs}
use Rattle.once.proofs.lone.Goals as goal

pub returns-then-r : goal.returns-then-r
unfolding lone when◌then◌else◌ eps_zero
returns-then-r c = rw (← c.abs.ensures, c.if-abs.true, c.if-r.true, ← c.nan.ensures, ← c.no_rows.ensures)

pub returns : goal.returns
unfolding lone when◌then◌else◌ eps_zero
returns c =
    elim c.else-abs.branch [
      | else-abs-via-then-abs+else-r w ↦ rw (← c.abs.ensures, w.if-abs.true, w.if-r.false)
      | else-abs-via-else-abs w ↦ rw (← c.abs.ensures, w.if-abs.false)
    ]
