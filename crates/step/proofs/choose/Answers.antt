-- `step::choose` meets its contract.
use Rattle.float.specs.Operators.{when◌then◌else◌}
use Rattle.float.specs.Float.{zero}
use Rattle.step.specs.Step.{chosen}
use Rattle.step.proofs.choose.Goals as goal

pub returns-then-is_finite : goal.returns-then-is_finite
unfolding chosen when◌then◌else◌ zero
returns-then-is_finite c = simp (c.if-p.true, ← c.set_second-resting.ensures, ← c.is_finite.ensures, c.if-is_finite.true)

pub returns-then-p : goal.returns-then-p
unfolding chosen when◌then◌else◌ zero
returns-then-p c =
    simp (
      c.if-p.true,
      ← c.set_second-resting.ensures,
      ← c.is_finite.ensures,
      c.if-is_finite.false,
      ← c.max.ensures,
    )

pub returns-then-is_finite-2 : goal.returns-then-is_finite-2
unfolding chosen when◌then◌else◌ zero
returns-then-is_finite-2 c =
    simp (c.if-p.false, c.if-p-2.true, ← c.set_first-resting.ensures, ← c.is_finite-then-p-2.ensures, c.if-is_finite-2.true)

pub returns-then-p-2 : goal.returns-then-p-2
unfolding chosen when◌then◌else◌ zero
returns-then-p-2 c =
    simp (
      c.if-p.false,
      c.if-p-2.true,
      ← c.set_first-resting.ensures,
      ← c.is_finite-then-p-2.ensures,
      c.if-is_finite-2.false,
      ← c.min.ensures,
    )

pub returns-then-low : goal.returns-then-low
unfolding chosen when◌then◌else◌ zero
returns-then-low c = simp (c.if-p.false, c.if-p-2.false, c.if-low.true, ← c.set_first.ensures)

pub returns-then-high : goal.returns-then-high
unfolding chosen when◌then◌else◌ zero
returns-then-high c = simp (c.if-p.false, c.if-p-2.false, c.if-low.false, c.if-high.true, ← c.set_second.ensures)

pub returns : goal.returns
unfolding chosen when◌then◌else◌ zero
returns c =
    simp (
      c.if-p.false,
      c.if-p-2.false,
      c.if-low.false,
      c.if-high.false,
      ← c.no_rows.ensures,
      ← c.set_first-2.ensures,
    )
