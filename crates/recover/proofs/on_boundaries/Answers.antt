-- `recover::on_boundaries` meets its contract.
use mathlib.Core.Path.{sym}
use Rattle.readings.proofs.Laws.{within-pure, then_answers, ends_with_it}
use Rattle.recover.specs.Recover.{rebuilt, on_boundaries}
use Rattle.recover.proofs.on_boundaries.Goals as goal

pub returns-in_err-found : goal.returns-in_err-found
unfolding on_boundaries
returns-in_err-found c =
    rw (← c.seed_of-seed.ensures, ← c.floor_of-floor.ensures)
    (ends_with_it _ _ _ c.rebuild_2d_prefix.ensures c.in_err-found.was c.from_residual.ensures.1)

pub returns-in-None : goal.returns-in-None
unfolding on_boundaries rebuilt
returns-in-None c =
    rw (← c.seed_of-seed.ensures, ← c.floor_of-floor.ensures)
    (then_answers _ _ _ c.rebuild_2d_prefix.ensures c.in_ok-found.was (rw (c.in-None.is, c.unmoved.ensures) (sym (within-pure _ _))))

pub returns-in-Some : goal.returns-in-Some
unfolding on_boundaries rebuilt
returns-in-Some c =
    rw (← c.seed_of-seed.ensures, ← c.floor_of-floor.ensures)
    (then_answers _ _ _ c.rebuild_2d_prefix.ensures c.in_ok-found.was (rw c.in-Some.is (sym (within-pure _ _))))
