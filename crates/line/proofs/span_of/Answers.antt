-- `line::span_of` meets its contract: what is left to do from pair k on is the whole.
use mathlib.Core.Path.{refl}
use Rattle.active.specs.Active.{no_rows, set_first, set_second}
use Rattle.line.specs.Line.{without}
use Rattle.line.proofs.Reduction.{whole_line_lem}
use Rattle.line.proofs.Pairs.{pairs_end, pair_keeps, pair_empties}
use Rattle.line.proofs.span_of.Goals.{in-Nothing, in-Above, in-Below}
use Rattle.line.proofs.span_of.Goals as goal

pub loop-k-init : goal.loop-k-init
unfolding no_rows
loop-k-init c = record { gives = rw (whole_line_lem {act = no_rows} c.infinity-high.ensures refl) }

pub returns-in-All : goal.returns-in-All
unfolding without
returns-in-All c =
    rw (c.void.ensures, c.between.ensures)
    (pair_empties c.loop-k.invariant c.requires c.loop-k-test.true {cut = c.cut_off.result} (rw (← c.pair_at.ensures) c.cut_off.ensures) (rw c.in-All.is))

pub loop-k-preserved : goal.loop-k-preserved
unfolding without set_first set_second
loop-k-preserved c =
    pair_keeps c.loop-k.invariant c.requires c.loop-k-test.true {cut = c.cut_off.result} (rw (← c.pair_at.ensures) c.cut_off.ensures)
    (elim c.match-cut_off.branch [
      | in-Nothing x ↦ rw x.in-Nothing.is (cc)
      | in-Above x ↦ rw x.in-Above.is (cc)
      | in-Below x ↦ rw x.in-Below.is (cc)
    ])

pub returns : goal.returns
returns c = rw (c.meeting.ensures, c.between-2.ensures) (pairs_end c.loop-k.invariant c.requires c.loop-k-test.false)
