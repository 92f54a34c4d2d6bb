-- `passes::worst_row` meets its contract: at each turn it stands at row i with the worst row so far and `rest` readings left.
use mathlib.Core.Path.{refl}
use lib.Ieee.{lt, of_bits}
use borrow.Author.Rules.{rules}
use Rattle.float.specs.Float.{zero}
use Rattle.passes.specs.Passes.{none}
use native.Mathlib.Omega.{arith}
use Rattle.readings.proofs.Laws.{pay_fits, pay_stops}
use Rattle.passes.proofs.Scan.{ends, stops, takes, passes_over, skips}
use Rattle.passes.proofs.worst_row.Goals.{then-can_exceed+then-e-w, then-can_exceed+else-e-w, else-can_exceed}
use Rattle.passes.proofs.worst_row.Goals as goal

pub loop-i-init : goal.loop-i-init
unfolding none zero of_bits lt
loop-i-init c = record { all = search rules; gives = refl; sized = refl }

pub returns-then-rest-eq0 : goal.returns-then-rest-eq0
returns-then-rest-eq0 c =
    stops c.loop-i.invariant c.loop-i-test.true refl (pay_stops c.loop-i.rest 1 (omega arith)) refl

pub loop-i-preserved : goal.loop-i-preserved
loop-i-preserved c =
    let scan = c.loop-i.invariant in
    let inside = c.loop-i-test.true in
    let read = c.row_at-r.ensures in
    elim c.if-can_exceed.branch [
      | then-can_exceed+then-e-w way ↦
          rw (way.w-is, way.excess-e.ensures, read)
          (takes scan inside refl (pay_fits c.loop-i.rest 1 (omega arith)) (rw (way.excess-e.ensures, read) at way.if-e-w.true))
      | then-can_exceed+else-e-w way ↦
          rw way.w-is (passes_over scan inside refl (pay_fits c.loop-i.rest 1 (omega arith)) (rw (way.excess-e.ensures, read) at way.if-e-w.false))
      | else-can_exceed way ↦
          let low = rw (c.can_exceed.ensures, c.residual.ensures, read) at way.if-can_exceed.false in
          rw way.w-is (skips scan inside refl (pay_fits c.loop-i.rest 1 (omega arith)) low)
    ]

pub returns : goal.returns
returns c = ends c.loop-i.invariant c.loop-i-test.false
