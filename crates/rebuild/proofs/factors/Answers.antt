-- `rebuild::factors` meets its contract.
use Rattle.float.specs.Float.{zero}
use Rattle.rebuild.specs.Supports.{factors}
use Rattle.rebuild.proofs.factors.Goals.{else-is_finite, else-is_finite-2, then-is_finite, then-is_finite-2}
use Rattle.rebuild.proofs.factors.Goals as goal

pub returns-then-u : goal.returns-then-u
unfolding factors zero
returns-then-u c =
    elim c.if-is_finite-2.branch [
      | then-is_finite-2 v ↦
          elim c.if-is_finite.branch [
            | then-is_finite w ↦
                rw (
                  ← c.is_finite.ensures,
                  w.if-is_finite.true,
                  ← w.is_finite-then-is_finite.ensures,
                  ← w.value-is,
                  v.if-is_finite-2.true,
                  ← v.value-is,
                  c.if-u.true,
                )
            | else-is_finite w ↦ cc
          ]
      | else-is_finite-2 v ↦ cc
    ]

pub returns-else-u : goal.returns-else-u
unfolding factors zero
returns-else-u c =
    elim c.if-is_finite-2.branch [
      | then-is_finite-2 v ↦
          elim c.if-is_finite.branch [
            | then-is_finite w ↦
                rw (
                  ← c.is_finite.ensures,
                  w.if-is_finite.true,
                  ← w.is_finite-then-is_finite.ensures,
                  ← w.value-is,
                  v.if-is_finite-2.true,
                  ← v.value-is,
                  c.if-u.false,
                )
            | else-is_finite w ↦ cc
          ]
      | else-is_finite-2 v ↦
          elim c.if-is_finite.branch [
            | then-is_finite w ↦
                rw (← c.is_finite.ensures, w.if-is_finite.true, ← w.is_finite-then-is_finite.ensures, ← w.value-is, v.if-is_finite-2.false, c.if-u.false)
            | else-is_finite w ↦ rw (← c.is_finite.ensures, w.if-is_finite.false, c.if-u.false)
          ]
    ]
