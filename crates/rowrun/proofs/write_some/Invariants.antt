-- `rowrun::write_some`: a write that fails writes nothing.
use Rattle.std.specs.Io.KnownBytes.{Keeps}
use Rattle.rowrun.proofs.write_some.Given as goal

abbrev pub invariant-loop : goal.invariant-loop
invariant-loop g l = Keeps (g.W.Write.contents l.initial.sink) (g.W.Write.contents l.sink)
