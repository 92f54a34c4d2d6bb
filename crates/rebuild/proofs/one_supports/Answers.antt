-- `rebuild::one_supports` meets its contract.
use borrow.Author.Tests.{eq-eqb, ne_eqb}
use Rattle.rebuild.specs.Supports.{one_supports}
use Rattle.rebuild.proofs.Tests.{holds, fails}
use Rattle.rebuild.proofs.one_supports.Goals.{then-pinned-i-via-then-pinned-i, then-pinned-i-via-else-pinned-i+then-not-on_boundary}
use Rattle.rebuild.proofs.one_supports.Goals as goal

pub returns-then-pinned-i : goal.returns-then-pinned-i
unfolding one_supports
returns-then-pinned-i c =
    elim c.then-pinned-i.branch [
      | then-pinned-i-via-then-pinned-i w ↦ rw (ne_eqb _ _ w.if-pinned-i.true)
      | then-pinned-i-via-else-pinned-i+then-not-on_boundary w ↦
          rw (eq-eqb _ _ w.if-pinned-i.false, fails w.on_boundary.ensures w.if-not-on_boundary.true)
    ]

pub returns : goal.returns
unfolding one_supports
returns c = rw (eq-eqb _ _ c.if-pinned-i.false, holds c.on_boundary.ensures c.if-not-on_boundary.false) c.alone.ensures
