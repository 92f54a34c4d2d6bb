-- `project::project_x_at_fixed_y` meets its contract.
use mathlib.Core.Path.{sym}
use Rattle.float.specs.Operators.{when◌then◌else◌}
use Rattle.readings.proofs.Laws.{within-pure, then_answers, ends_with_it}
use Rattle.project.specs.Project.{inside, project}
use Rattle.project.proofs.project_x_at_fixed_y.Goals as goal

pub returns-in_err-ok : goal.returns-in_err-ok
unfolding project
returns-in_err-ok c = ends_with_it _ _ _ c.works.ensures c.in_err-ok.was c.from_residual.ensures.1

pub returns-then-ok : goal.returns-then-ok
unfolding project when◌then◌else◌
returns-then-ok c = then_answers _ _ _ c.works.ensures c.in_ok-ok.was (rw c.if-ok.true (sym (within-pure _ _)))

pub returns-in_err-kept : goal.returns-in_err-kept
unfolding project when◌then◌else◌
returns-in_err-kept c =
    then_answers _ _ _ c.works.ensures c.in_ok-ok.was
    (rw c.if-ok.false (ends_with_it _ _ _ c.interval_of.ensures c.in_err-kept.was c.from_residual-in_err-kept.ensures.1))

pub returns-in-Some : goal.returns-in-Some
unfolding project when◌then◌else◌
returns-in-Some c =
    then_answers _ _ _ c.works.ensures c.in_ok-ok.was
    (rw c.if-ok.false (then_answers _ _ _ c.interval_of.ensures c.in_ok-kept.was (rw c.in-Some.is c.inside.ensures)))

pub returns-in-None : goal.returns-in-None
unfolding project inside when◌then◌else◌
returns-in-None c =
    then_answers _ _ _ c.works.ensures c.in_ok-ok.was
    (rw c.if-ok.false (then_answers _ _ _ c.interval_of.ensures c.in_ok-kept.was (rw c.in-None.is (sym (within-pure _ _)))))
