-- `once::both_passes` meets its contract.
use mathlib.Core.Path.{sym}
use Rattle.readings.proofs.Laws.{within-pure, then_answers, ends_with_it}
use Rattle.step.specs.Step.{onward, ◌>>?◌}
use Rattle.once.specs.Once.{passes}
use Rattle.once.proofs.both_passes.Goals as goal

pub returns-in_err-found : goal.returns-in_err-found
unfolding passes ◌>>?◌
returns-in_err-found c =
    ends_with_it _ _ _ (rw (c.no_rows.ensures, c.begun.ensures, c.frame-f.ensures) at c.forward.ensures)
    c.in_err-found.was c.from_residual.ensures.1

pub returns-in-None : goal.returns-in-None
unfolding passes ◌>>?◌ onward
returns-in-None c =
    then_answers _ _ _ (rw (c.no_rows.ensures, c.begun.ensures, c.frame-f.ensures) at c.forward.ensures)
    c.in_ok-found.was (rw c.in-None.is (sym (within-pure _ _)))

pub returns-in-Some : goal.returns-in-Some
unfolding passes ◌>>?◌ onward
returns-in-Some c =
    then_answers _ _ _ (rw (c.no_rows.ensures, c.begun.ensures, c.frame-f.ensures) at c.forward.ensures)
    c.in_ok-found.was (rw (c.in-Some.is, ← c.fresh.ensures, ← c.frame-f.ensures) c.deferred.ensures)
