-- `float::max` meets its contract: of two that are equal by their bits, and of others by `<`, after a test for a NaN. Assumes nothing.
use mathlib.Core.Path.{sym, subst, ◌∙◌}
use lib.Dec.{T}
use Rattle.float.specs.Operators.{when◌then◌else◌}
use Rattle.float.proofs.Joined.{greatest_of_equal, greatest_of_unequal}
use Rattle.float.proofs.max.Goals.{else-is_nan, then-is_nan}
use Rattle.float.proofs.max.Goals as goal

pub returns-then-x-y : goal.returns-then-x-y
returns-then-x-y c =
    let a = c.args in
    let good = c.well_formed in
    c.float_of.ensures
    ∙ rw (c.bits_of.ensures, c.bits_of-then-x-y.ensures)
    (greatest_of_equal a.x a.y (subst T (sym good.0.1) tt) (subst T (sym good.1.0.1) tt) c.if-x-y.true)

pub returns-then-x-y-2 : goal.returns-then-x-y-2
unfolding when◌then◌else◌
returns-then-x-y-2 c =
    let a = c.args in
    rw (← greatest_of_unequal a.x a.y c.if-x-y.false)
    (elim c.if-is_nan.branch [
      | then-is_nan w ↦ simp (← c.is_nan.ensures.value, w.if-is_nan.true)
      | else-is_nan w ↦ simp (← c.is_nan.ensures.value, w.if-is_nan.false, ← w.value-is, c.if-x-y-2.true)
    ])

pub returns-else-x-y-2 : goal.returns-else-x-y-2
unfolding when◌then◌else◌
returns-else-x-y-2 c =
    let a = c.args in
    rw (← greatest_of_unequal a.x a.y c.if-x-y.false)
    (elim c.if-is_nan.branch [
      | then-is_nan w ↦ cc
      | else-is_nan w ↦ simp (← c.is_nan.ensures.value, w.if-is_nan.false, ← w.value-is, c.if-x-y-2.false)
    ])
