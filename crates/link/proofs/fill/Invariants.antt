-- What `link::fill`'s loop keeps: what it has taken has left its state and its text. Each turn takes a byte.
use Prim.Native.Nat.{◌-◌}
use lib.ListN.{length}
use Rattle.reader.specs.Reader.{state}
use Rattle.link.proofs.Filling.{Filling}
use Rattle.link.proofs.fill.Given as goal

abbrev pub invariant-loop-from : goal.invariant-loop-from
invariant-loop-from l = Filling (state l.initial.now l.initial.head l.initial.rows) l.bytes l.initial.out (state l.now l.head l.rows) l.out l.from l.at

abbrev pub decreases-loop-from : goal.decreases-loop-from
decreases-loop-from l = length l.bytes - l.from
