-- `rowrun::read_some` keeps the buffer's length, and a read that fails takes nothing.
use mathlib.Core.Path.{◌≡◌}
use lib.ListN.{length}
use Rattle.std.specs.Io.KnownBytes.{Keeps}
use Rattle.rowrun.proofs.read_some.Given as goal

abbrev pub invariant-loop : goal.invariant-loop
invariant-loop g l = (length l.input ≡ length l.initial.input) × Keeps (g.R.Read.remaining l.initial.source) (g.R.Read.remaining l.source)
