-- `float::min` meets its contract: of two that are equal by their bits, and of others by `<`, after a test for a NaN. Assumes nothing.
use mathlib.Core.Path.{sym, subst, ◌∙◌}
use lib.Dec.{T}
use Rattle.float.specs.Operators.{when◌then◌else◌}
use Rattle.float.proofs.Joined.{least_of_equal, least_of_unequal}
use Rattle.float.proofs.min.Goals.{else-is_nan, then-is_nan}
use Rattle.float.proofs.min.Goals as goal

pub returns-then-x-y : goal.returns-then-x-y
returns-then-x-y c =
    let a = c.args in
    let good = c.well_formed in
    c.float_of.ensures
    ∙ rw (c.bits_of.ensures, c.bits_of-then-x-y.ensures)
    (least_of_equal a.x a.y (subst T (sym good.0.1) tt) (subst T (sym good.1.0.1) tt) c.if-x-y.true)

pub returns-then-y-x : goal.returns-then-y-x
unfolding when◌then◌else◌
returns-then-y-x c =
    let a = c.args in
    rw (← least_of_unequal a.x a.y c.if-x-y.false)
    (elim c.if-is_nan.branch [
      | then-is_nan w ↦ simp (← c.is_nan.ensures.value, w.if-is_nan.true)
      | else-is_nan w ↦ simp (← c.is_nan.ensures.value, w.if-is_nan.false, ← w.value-is, c.if-y-x.true)
    ])

pub returns-else-y-x : goal.returns-else-y-x
unfolding when◌then◌else◌
returns-else-y-x c =
    let a = c.args in
    rw (← least_of_unequal a.x a.y c.if-x-y.false)
    (elim c.if-is_nan.branch [
      | then-is_nan w ↦ cc
      | else-is_nan w ↦ simp (← c.is_nan.ensures.value, w.if-is_nan.false, ← w.value-is, c.if-y-x.false)
    ])
