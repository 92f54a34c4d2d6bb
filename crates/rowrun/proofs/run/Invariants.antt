-- `rowrun::run`: so far some bytes of the input are read, and their lines written.
use mathlib.Core.Path.{◌≡◌}
use lib.ListN.{length}
use Rattle.reader.specs.Reader.{state}
use Rattle.rowrun.proofs.Reading.{Reading}
use Rattle.rowrun.proofs.run.Given as goal

abbrev pub invariant-loop : goal.invariant-loop
invariant-loop g l =
    Reading (g.R.Read.remaining l.initial.source) (g.R.Read.remaining l.source) (g.W.Write.contents l.initial.sink) (g.W.Write.contents l.sink)
    (state l.link l.head l.rows) l.counter
    × (length l.input ≡ 131072) × (length l.out ≡ 65536)
