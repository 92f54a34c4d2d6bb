-- `rebuild::candidate` meets its contract.
use mathlib.Core.Path.{sym}
use Rattle.float.specs.Operators.{when◌then◌else◌}
use Rattle.readings.proofs.Laws.{within-pure, then_answers, ends_with_it}
use Rattle.step.specs.Step.{onward, ◌>>?◌}
use Rattle.rebuild.specs.Rebuild.{qualified, candidate}
use Rattle.rebuild.proofs.candidate.Goals as goal

pub returns-in_err-found : goal.returns-in_err-found
unfolding candidate ◌>>?◌
returns-in_err-found c =
    ends_with_it _ _ _ (rw c.no_rows.ensures at c.incre_step_2d.ensures) c.in_err-found.was c.from_residual.ensures.1

pub returns-in-Some : goal.returns-in-Some
unfolding candidate ◌>>?◌ onward qualified when◌then◌else◌
returns-in-Some c =
    then_answers _ _ _ (rw c.no_rows.ensures at c.incre_step_2d.ensures) c.in_ok-found.was
    (rw (c.in-Some.is, ← c.plausible.ensures, c.if-plausible.true, ← c.ordered.ensures) c.tested.ensures)

pub returns-in_default : goal.returns-in_default
unfolding candidate ◌>>?◌ onward qualified when◌then◌else◌
returns-in_default c =
    then_answers _ _ _ (rw c.no_rows.ensures at c.incre_step_2d.ensures) c.in_ok-found.was
    (rw (c.in-Some.is, ← c.plausible.ensures, c.if-plausible.false) (sym (within-pure _ _)))

pub returns-in_default-2 : goal.returns-in_default-2
unfolding candidate ◌>>?◌ onward
returns-in_default-2 c =
    then_answers _ _ _ (rw c.no_rows.ensures at c.incre_step_2d.ensures) c.in_ok-found.was (rw c.in_default.is (sym (within-pure _ _)))
