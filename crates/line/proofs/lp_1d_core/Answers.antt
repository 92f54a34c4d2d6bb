-- `line::lp_1d_core` meets its contract: what is left to do from row k on, with the readings left there, is the whole.
use mathlib.Core.Path.{refl}
use native.Mathlib.Omega.{arith}
use Rattle.readings.proofs.Laws.{pay_fits, pay_stops}
use Rattle.active.specs.Active.{set_first, set_second}
use Rattle.line.specs.Line.{without}
use Rattle.line.proofs.Reduction.{whole_line_lem, rows_end, row_stops, row_keeps, row_empties}
use Rattle.line.proofs.lp_1d_core.Goals.{in-Nothing, in-Above, in-Below}
use Rattle.line.proofs.lp_1d_core.Goals as goal

pub loop-k-init : goal.loop-k-init
loop-k-init c = record { gives = rw (whole_line_lem c.infinity-high.ensures c.fresh-start.ensures) }

pub returns-then-rest-eq0 : goal.returns-then-rest-eq0
returns-then-rest-eq0 c =
    row_stops c.loop-k.invariant c.loop-k-test.true c.requires refl (pay_stops c.loop-k.rest 1 (omega arith)) refl

pub returns-in-All : goal.returns-in-All
unfolding without
returns-in-All c =
    rw (c.void.ensures, c.between.ensures)
    (row_empties c.loop-k.invariant c.loop-k-test.true c.requires refl (pay_fits c.loop-k.rest 1 (omega arith))
    {cut = c.cut_off.result} (rw (← c.row_at.ensures, ← c.on_line-t.ensures) c.cut_off.ensures) (rw c.in-All.is))

pub loop-k-preserved : goal.loop-k-preserved
unfolding without set_first set_second
loop-k-preserved c =
    row_keeps c.loop-k.invariant c.loop-k-test.true c.requires refl (pay_fits c.loop-k.rest 1 (omega arith))
    {cut = c.cut_off.result} (rw (← c.row_at.ensures, ← c.on_line-t.ensures) c.cut_off.ensures)
    (elim c.match-cut_off.branch [
      | in-Nothing x ↦ rw x.in-Nothing.is (cc)
      | in-Above x ↦ rw x.in-Above.is (cc)
      | in-Below x ↦ rw x.in-Below.is (cc)
    ])

pub returns : goal.returns
returns c = rw (c.meeting.ensures, c.between-2.ensures) (rows_end c.loop-k.invariant c.loop-k-test.false)
