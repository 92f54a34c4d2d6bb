-- `rebuild::two_support` meets its contract.
use borrow.Author.Tests.{eq-eqb, ne_eqb}
use Rattle.float.specs.Operators.{when◌then◌else◌}
use Rattle.rebuild.specs.Supports.{two_support}
use Rattle.rebuild.proofs.Tests.{holds, fails}
use Rattle.rebuild.proofs.two_support.Goals.{then-not-among-via-then-not-among}
use Rattle.rebuild.proofs.two_support.Goals.{then-not-among-via-else-not-among+then-not-on_boundary}
use Rattle.rebuild.proofs.two_support.Goals.{then-not-among-via-else-not-among+else-not-on_boundary+then-not-on_boundary-2}
use Rattle.rebuild.proofs.two_support.Goals as goal

pub returns-then-not-among : goal.returns-then-not-among
unfolding two_support
returns-then-not-among c =
    let named = c.among.ensures in
    elim c.then-not-among.branch [
      | then-not-among-via-then-not-among w ↦ rw (fails named w.if-not-among.true)
      | then-not-among-via-else-not-among+then-not-on_boundary w ↦
          rw (holds named w.if-not-among.false, fails w.on_boundary.ensures w.if-not-on_boundary.true)
      | then-not-among-via-else-not-among+else-not-on_boundary+then-not-on_boundary-2 w ↦
          rw (
            holds named w.if-not-among.false,
            holds w.on_boundary.ensures w.if-not-on_boundary.false,
            fails w.on_boundary-else-not-on_boundary.ensures w.if-not-on_boundary-2.true,
          )
    ]

pub returns-then-i-j : goal.returns-then-i-j
unfolding two_support when◌then◌else◌
returns-then-i-j c =
    rw (holds c.among.ensures c.if-not-among.false, holds c.on_boundary.ensures c.if-not-on_boundary.false)
    (rw (holds c.on_boundary-else-not-on_boundary.ensures c.if-not-on_boundary-2.false, eq-eqb _ _ c.if-i-j.true) c.alone.ensures)

pub returns : goal.returns
unfolding two_support when◌then◌else◌
returns c =
    rw (holds c.among.ensures c.if-not-among.false, holds c.on_boundary.ensures c.if-not-on_boundary.false)
    (rw (holds c.on_boundary-else-not-on_boundary.ensures c.if-not-on_boundary-2.false, ne_eqb _ _ c.if-i-j.false) c.together.ensures)
