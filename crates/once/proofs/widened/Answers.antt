-- `once::widened` meets its contract.
-- a finite start outside the box widens it by the larger of two sizes, which a comparison gives
use mathlib.Core.Path.{◌≡◌, sym, ◌∙◌}
use mathlib.Core.Bool.{true, ◌&&◌, ◌||◌, and-eq-true_iff}
use lib.Ieee.{Float}
use Rattle.float.specs.Operators.{when◌then◌else◌, ◌⊗◌, ◌≺◌, ◌≻◌}
use Rattle.float.specs.Float.{abs, finite}
use Rattle.float.proofs.Laws.{larger_size}
use Rattle.rows.specs.Constants.{lp_box_growth}
use Rattle.once.specs.declared.WarmStart.{WarmStart}
use Rattle.once.specs.Once.{widened}
use Rattle.once.proofs.widened.Goals.{then-x-bound-via-then-x-bound, then-x-bound-via-else-x-bound+then-y-bound, then-x-y, else-x-y}
use Rattle.once.proofs.widened.Goals as goal

outside : (start : WarmStart) (bound : Float) → finite start.x && finite start.y ≡ true
    → (abs start.x ≻ bound || abs start.y ≻ bound) ≡ true
    → lp_box_growth ⊗ (when abs start.x ≺ abs start.y then abs start.y else abs start.x) ≡ widened start bound
unfolding widened when◌then◌else◌
outside start bound both beyond =
    rw (both, beyond, larger_size start.x (abs start.y) ((and-eq-true_iff (finite start.x) (finite start.y)).0 both).0)

pub returns-then-not-both_finite : goal.returns-then-not-both_finite
unfolding widened when◌then◌else◌
returns-then-not-both_finite c =
    let both = rw c.settled-level.ensures at c.both_finite.ensures in
    rw (← both, c.if-not-both_finite.true)

pub returns-then-x-bound : goal.returns-then-x-bound
unfolding when◌then◌else◌ lp_box_growth
returns-then-x-bound c =
    let start = c.args.start in
    let bound = c.args.bound in
    let level = c.settled-level.ensures in
    let both = rw level at c.both_finite.ensures in
    let second = rw level at c.abs-y.ensures in
    let beyond : (abs start.x ≻ bound || abs start.y ≻ bound) ≡ true =
    rw (← c.abs-x.ensures, ← second) (elim c.then-x-bound.branch [
      | then-x-bound-via-then-x-bound w ↦ rw w.if-x-bound.true
      | then-x-bound-via-else-x-bound+then-y-bound w ↦ rw (w.if-x-bound.false, w.if-y-bound.true)
    ]) in
    let larger : c.if-x-y.larger ≡ (when abs start.x ≺ abs start.y then abs start.y else abs start.x) =
    rw (← c.abs-x.ensures, ← second) (elim c.if-x-y.branch [ then-x-y w ↦ rw w.if-x-y.true w.larger-is | else-x-y w ↦ rw w.if-x-y.false w.larger-is ]) in
    rw larger (outside start bound (sym both ∙ c.if-not-both_finite.false) beyond)

pub returns : goal.returns
unfolding widened when◌then◌else◌
returns c =
    let level = c.settled-level.ensures in
    let both = rw level at c.both_finite.ensures in
    let second = rw level at c.abs-y.ensures in
    let finite = c.if-not-both_finite.false in
    rw (← both, finite, ← c.abs-x.ensures, ← second, c.if-x-bound.false, c.if-y-bound.false)
