-- `rebuild::plausible` meets its contract.
use Rattle.rebuild.specs.Rebuild.{plausible}
use Rattle.rebuild.proofs.Tests.{holds, fails}
use Rattle.rebuild.proofs.plausible.Goals.{then-not-is_finite-via-then-not-is_finite}
use Rattle.rebuild.proofs.plausible.Goals.{then-not-is_finite-via-else-not-is_finite+then-not-is_finite-2}
use Rattle.rebuild.proofs.plausible.Goals.{then-not-is_finite-via-else-not-is_finite+else-not-is_finite-2+then-p-floor}
use Rattle.rebuild.proofs.plausible.Goals.{then-not-is_finite-via-else-not-is_finite+else-not-is_finite-2+else-p-floor+then-p-top}
use Rattle.rebuild.proofs.plausible.Goals as goal

pub returns-then-not-is_finite : goal.returns-then-not-is_finite
unfolding plausible
returns-then-not-is_finite c =
    let finite-x = c.is_finite.ensures in
    elim c.then-not-is_finite.branch [
      | then-not-is_finite-via-then-not-is_finite w ↦ rw (fails finite-x w.if-not-is_finite.true)
      | then-not-is_finite-via-else-not-is_finite+then-not-is_finite-2 w ↦
          rw (holds finite-x w.if-not-is_finite.false, fails w.is_finite-else-not-is_finite.ensures w.if-not-is_finite-2.true)
      | then-not-is_finite-via-else-not-is_finite+else-not-is_finite-2+then-p-floor w ↦
          rw (holds finite-x w.if-not-is_finite.false, holds w.is_finite-else-not-is_finite.ensures w.if-not-is_finite-2.false, w.if-p-floor.true)
      | then-not-is_finite-via-else-not-is_finite+else-not-is_finite-2+else-p-floor+then-p-top w ↦
          rw (
            holds finite-x w.if-not-is_finite.false,
            holds w.is_finite-else-not-is_finite.ensures w.if-not-is_finite-2.false,
            w.if-p-floor.false,
            w.if-p-top.true,
          )
    ]

pub returns : goal.returns
unfolding plausible
returns c =
    rw (holds c.is_finite.ensures c.if-not-is_finite.false, holds c.is_finite-else-not-is_finite.ensures c.if-not-is_finite-2.false)
    (rw (c.if-p-floor.false, c.if-p-top.false) c.on_boundary.ensures)
