-- `line::span_of` meets its contract: what is left to do from pair k on is the whole.
use mathlib.Core.Bool.{false}
use Rattle.active.specs.Active.{no_rows}
use Rattle.line.specs.Line.{whole_line, lp1d_core, pairs_of}
use Rattle.line.proofs.Select.{span}
use Rattle.line.proofs.Pairs.{Pairs}
use Rattle.line.proofs.span_of.Given as goal

abbrev pub invariant-loop-k : goal.invariant-loop-k
invariant-loop-k l =
    Pairs l.autonan l.eps l.pairs l.k (span l.high l.low l.first l.second)
    (lp1d_core l.autonan false l.eps (pairs_of l.pairs) 0 (whole_line no_rows)).value
