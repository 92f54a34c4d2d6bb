-- `rebuild::tested` meets its contract.
use mathlib.Core.Path.{sym}
use Rattle.float.specs.Operators.{when◌then◌else◌}
use Rattle.readings.proofs.Laws.{within-pure, then_answers, ends_with_it, paid_then_answers, unpaid}
use Rattle.rebuild.specs.Rebuild.{tested}
use Rattle.rebuild.proofs.tested.Goals as goal

pub returns-in_err-ok : goal.returns-in_err-ok
unfolding tested
returns-in_err-ok c = ends_with_it _ _ _ c.none_above.ensures c.in_err-ok.was c.from_residual.ensures.1

pub returns-then-not-ok : goal.returns-then-not-ok
unfolding tested when◌then◌else◌
returns-then-not-ok c = then_answers _ _ _ c.none_above.ensures c.in_ok-ok.was (rw c.if-not-ok.true (sym (within-pure _ _)))

pub returns-in_err-over : goal.returns-in_err-over
unfolding tested when◌then◌else◌
returns-in_err-over c =
    then_answers _ _ _ c.none_above.ensures c.in_ok-ok.was
    (rw c.if-not-ok.false (unpaid _ 2 _ c.pay.ensures c.in_err-over.was c.from_residual-in_err-over.ensures.1))

pub returns-then-active_basis_supports_max_y : goal.returns-then-active_basis_supports_max_y
unfolding tested when◌then◌else◌
returns-then-active_basis_supports_max_y c =
    then_answers _ _ _ c.none_above.ensures c.in_ok-ok.was
    (rw c.if-not-ok.false
    (paid_then_answers _ 2 _ c.pay.ensures c.in_ok-over.was
    (rw (← c.active_basis_supports_max_y.ensures, c.if-active_basis_supports_max_y.true) (sym (within-pure _ _)))))

pub returns : goal.returns
unfolding tested when◌then◌else◌
returns c =
    then_answers _ _ _ c.none_above.ensures c.in_ok-ok.was
    (rw c.if-not-ok.false
    (paid_then_answers _ 2 _ c.pay.ensures c.in_ok-over.was
    (rw (← c.active_basis_supports_max_y.ensures, c.if-active_basis_supports_max_y.false) (sym (within-pure _ _)))))
