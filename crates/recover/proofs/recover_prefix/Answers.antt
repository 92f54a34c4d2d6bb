-- `recover::recover_prefix` meets its contract.
use Rattle.readings.proofs.Laws.{then_answers, ends_with_it}
use Rattle.recover.specs.Recover.{recover}
use Rattle.recover.proofs.recover_prefix.Goals as goal

pub returns-in_err-fixed : goal.returns-in_err-fixed
unfolding recover
returns-in_err-fixed c = ends_with_it _ _ _ c.project_x_at_fixed_y.ensures c.in_err-fixed.was c.from_residual.ensures.1

pub returns : goal.returns
unfolding recover
returns c = then_answers _ _ _ c.project_x_at_fixed_y.ensures c.in_ok-fixed.was c.on_boundaries.ensures
