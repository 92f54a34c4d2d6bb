-- `step::steep_step` meets its contract.
use mathlib.Core.Path.{sym}
use Rattle.float.specs.Float.{one}
use Rattle.readings.proofs.Laws.{within-pure, then_answers, ends_with_it}
use Rattle.step.specs.Step.{steep_step}
use Rattle.step.proofs.steep_step.Goals as goal

pub returns-in_err-t : goal.returns-in_err-t
unfolding steep_step one
returns-in_err-t c = ends_with_it _ _ _ c.lp_1d_core.ensures c.in_err-t.was c.from_residual.ensures.1

pub returns : goal.returns
unfolding steep_step one
returns c = then_answers _ _ _ c.lp_1d_core.ensures c.in_ok-t.was (rw c.steep_end.ensures (sym (within-pure _ _)))
