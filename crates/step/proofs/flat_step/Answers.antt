-- `step::flat_step` meets its contract.
use mathlib.Core.Path.{sym}
use Rattle.float.specs.Float.{one}
use Rattle.readings.proofs.Laws.{within-pure, then_answers, ends_with_it}
use Rattle.step.specs.Step.{flat_step}
use Rattle.step.proofs.flat_step.Goals as goal

pub returns-in_err-t : goal.returns-in_err-t
unfolding flat_step one
returns-in_err-t c = ends_with_it _ _ _ c.lp_1d_core.ensures c.in_err-t.was c.from_residual.ensures.1

pub returns : goal.returns
unfolding flat_step one
returns c = then_answers _ _ _ c.lp_1d_core.ensures c.in_ok-t.was (rw (c.flat_end.ensures, c.uncrossed.ensures) (sym (within-pure _ _)))
