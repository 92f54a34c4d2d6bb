-- `step::incre_step_2d` meets its contract.
use mathlib.Core.Path.{sym}
use Rattle.float.specs.Operators.{when◌then◌else◌}
use Rattle.readings.proofs.Laws.{within-pure, paid_then_answers, unpaid}
use Rattle.step.specs.Step.{step}
use Rattle.step.proofs.incre_step_2d.Goals as goal

pub returns-in_err-rest : goal.returns-in_err-rest
unfolding step
returns-in_err-rest c = unpaid _ 1 _ c.pay.ensures c.in_err-rest.was c.from_residual.ensures.1

pub returns-then-r-f : goal.returns-then-r-f
unfolding step when◌then◌else◌
returns-then-r-f c =
    paid_then_answers _ 1 _ c.pay.ensures c.in_ok-rest.was
    (rw (← c.row_at-r.ensures, ← c.no_boundary.ensures, c.if-no_boundary.true, c.if-r-f.true) (sym (within-pure _ _)))

pub returns-then-no_boundary : goal.returns-then-no_boundary
unfolding step when◌then◌else◌
returns-then-no_boundary c =
    paid_then_answers _ 1 _ c.pay.ensures c.in_ok-rest.was
    (rw (← c.row_at-r.ensures, ← c.no_boundary.ensures, c.if-no_boundary.true, c.if-r-f.false) (sym (within-pure _ _)))

pub returns-then-abs : goal.returns-then-abs
unfolding step when◌then◌else◌
returns-then-abs c =
    paid_then_answers _ 1 _ c.pay.ensures c.in_ok-rest.was
    (rw (← c.row_at-r.ensures, ← c.no_boundary.ensures, c.if-no_boundary.false, ← c.abs.ensures, ← c.abs-2.ensures, c.if-abs.true) c.steep_step.ensures)

pub returns : goal.returns
unfolding step when◌then◌else◌
returns c =
    paid_then_answers _ 1 _ c.pay.ensures c.in_ok-rest.was
    (rw (← c.row_at-r.ensures, ← c.no_boundary.ensures, c.if-no_boundary.false, ← c.abs.ensures, ← c.abs-2.ensures, c.if-abs.false) c.flat_step.ensures)
