-- `passes::pivot` meets its contract.
use mathlib.Core.Path.{◌∙◌}
use Rattle.float.specs.Operators.{when◌then◌else◌}
use Rattle.readings.proofs.Laws.{then_answers, ends_with_it}
use Rattle.passes.specs.Passes.{pivot}
use Rattle.passes.proofs.Tries.{trial_failed, trial_passed}
use Rattle.passes.proofs.pivot.Goals.{then-residual-f+in_ok-tried+else-is_none, else-residual-f}
use Rattle.passes.proofs.pivot.Goals as goal

pub returns-in_err-tried : goal.returns-in_err-tried
unfolding pivot when◌then◌else◌
returns-in_err-tried c =
    rw (← c.requires.of_row, c.if-residual-f.true)
    (ends_with_it _ _ _ c.incre_step_2d.ensures c.in_err-tried.was c.from_residual.ensures.1)

pub returns-then-is_none : goal.returns-then-is_none
unfolding pivot when◌then◌else◌
returns-then-is_none c =
    rw (← c.requires.of_row, c.if-residual-f.true)
    (then_answers _ _ _ c.incre_step_2d.ensures c.in_ok-tried.was
    (c.repair.ensures ∙ trial_failed _ _ _ _ _ _ _ (rw c.if-is_none.true at c.is_none.ensures)))

pub returns : goal.returns
unfolding pivot when◌then◌else◌
returns c =
    elim c.if-residual-f.branch [
      | then-residual-f+in_ok-tried+else-is_none w ↦
          rw (← c.requires.of_row, w.if-residual-f.true)
          (then_answers _ _ _ w.incre_step_2d.ensures w.in_ok-tried.was
          ((rw w.rest-is at c.incre_step_2d-2.ensures) ∙ trial_passed _ _ _ _ _ _ _ (rw w.if-is_none.false at w.is_none.ensures)))
      | else-residual-f w ↦ rw (← c.requires.of_row, w.if-residual-f.false, ← w.rest-is) c.incre_step_2d-2.ensures
    ]
