-- `once::one_round` meets its contract.
use mathlib.Core.Path.{sym}
use Rattle.readings.proofs.Laws.{within-pure, then_answers, ends_with_it}
use Rattle.once.specs.Once.{on_box, one_round}
use Rattle.once.proofs.one_round.Goals as goal

pub returns-in_err-found : goal.returns-in_err-found
unfolding one_round
returns-in_err-found c =
    rw (← c.widened-wide.ensures) (ends_with_it _ _ _ c.both_passes.ensures c.in_err-found.was c.from_residual.ensures.1)

pub returns-in-None : goal.returns-in-None
unfolding one_round on_box
returns-in-None c =
    rw (← c.widened-wide.ensures)
    (then_answers _ _ _ c.both_passes.ensures c.in_ok-found.was (rw c.in-None.is (sym (within-pure _ _))))

pub returns-in-Some : goal.returns-in-Some
unfolding one_round on_box
returns-in-Some c =
    rw (← c.widened-wide.ensures)
    (then_answers _ _ _ c.both_passes.ensures c.in_ok-found.was (rw (c.in-Some.is, c.is_saturated-sits_on_box.ensures) (sym (within-pure _ _))))
