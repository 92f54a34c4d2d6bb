-- `passes::repair` meets its contract.
use mathlib.Core.Path.{sym, ◌∙◌}
use Rattle.readings.proofs.Laws.{then_answers, ends_with_it}
use Rattle.rows.specs.Constants.{repair_tol_scale}
use Rattle.passes.specs.Passes.{frame, repair}
use Rattle.passes.proofs.Tries.{found_at_once, tried_enough, tried_again}
use Rattle.passes.proofs.repair.Goals.{then-is_some-via-then-is_some, then-is_some-via-else-is_some+then-aim-f}
use Rattle.passes.proofs.repair.Goals as goal

pub returns-in_err-found : goal.returns-in_err-found
unfolding repair repair_tol_scale
returns-in_err-found c =
    ends_with_it _ _ _ (rw c.frame-aim.ensures at c.recover_prefix.ensures) c.in_err-found.was c.from_residual.ensures.1

pub returns-then-is_some : goal.returns-then-is_some
unfolding repair repair_tol_scale frame
returns-then-is_some c =
    then_answers _ _ _ (rw c.frame-aim.ensures at c.recover_prefix.ensures) c.in_ok-found.was
    (elim c.then-is_some.branch [
      | then-is_some-via-then-is_some w ↦ found_at_once _ _ _ _ _ _ _ (sym c.is_some.ensures ∙ w.if-is_some.true)
      | then-is_some-via-else-is_some+then-aim-f w ↦
          tried_enough _ _ _ _ _ _ (rw c.frame-aim.ensures at w.if-aim-f.true) _ (sym c.is_some.ensures ∙ w.if-is_some.false)
    ])

pub returns : goal.returns
unfolding repair repair_tol_scale frame
returns c =
    then_answers _ _ _ (rw c.frame-aim.ensures at c.recover_prefix.ensures) c.in_ok-found.was
    (c.recover_prefix-2.ensures
    ∙ tried_again _ _ _ _ _ _ (rw c.frame-aim.ensures at c.if-aim-f.false) _ (sym c.is_some.ensures ∙ c.if-is_some.false))
