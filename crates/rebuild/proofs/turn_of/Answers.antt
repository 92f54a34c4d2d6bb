-- `rebuild::turn_of` meets its contract.
use mathlib.Core.Path.{◌≡◌, refl, sym}
use Rattle.float.specs.Operators.{when◌then◌else◌}
use Rattle.readings.proofs.Laws.{within-pure, then_answers, ends_with_it}
use Rattle.rebuild.specs.Rebuild.{judge, turn}
use Rattle.rebuild.proofs.turn_of.Goals as goal

pub returns-then-no_boundary : goal.returns-then-no_boundary
unfolding turn judge when◌then◌else◌
returns-then-no_boundary c =
    rw (← c.row_at-r.ensures, ← c.no_boundary.ensures, c.if-no_boundary.true)
    (then_answers _ _ _ (sym (within-pure _ _)) refl (sym (within-pure _ _)))

pub returns-in_err-found : goal.returns-in_err-found
unfolding turn when◌then◌else◌
returns-in_err-found c =
    rw (← c.row_at-r.ensures, ← c.no_boundary.ensures, c.if-no_boundary.false)
    (ends_with_it _ _ _ c.candidate.ensures c.in_err-found.was c.from_residual.ensures.1)

pub returns-in-None : goal.returns-in-None
unfolding turn judge when◌then◌else◌
returns-in-None c =
    rw (← c.row_at-r.ensures, ← c.no_boundary.ensures, c.if-no_boundary.false)
    (then_answers _ _ _ c.candidate.ensures c.in_ok-found.was (rw c.in-None.is (sym (within-pure _ _))))

pub returns-in-Some : goal.returns-in-Some
unfolding turn judge when◌then◌else◌
returns-in-Some c =
    rw (← c.row_at-r.ensures, ← c.no_boundary.ensures, c.if-no_boundary.false)
    (then_answers _ _ _ c.candidate.ensures c.in_ok-found.was (rw (c.in-Some.is, c.if-s-seed.true) (sym (within-pure _ _))))

pub returns-in-Some-2 : goal.returns-in-Some-2
unfolding turn judge when◌then◌else◌
returns-in-Some-2 c =
    let same : c.in-Some.s ≡ c.in-Some-2.s = cc (c.in-Some.is, c.in-Some-2.is) in
    rw (← c.row_at-r.ensures, ← c.no_boundary.ensures, c.if-no_boundary.false)
    (then_answers _ _ _ c.candidate.ensures c.in_ok-found.was
    (rw (c.in-Some.is, c.if-s-seed.false, same, ← c.better.ensures) (sym (within-pure _ _))))
