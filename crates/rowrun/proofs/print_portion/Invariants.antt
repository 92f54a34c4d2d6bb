-- `rowrun::print_portion` ends: each buffer of lines takes a byte. On its way the reader is as after the bytes taken so far, and listens,
-- and their lines are written.
use mathlib.Core.Path.{◌≡◌}
use Prim.Native.Nat.{◌-◌}
use lib.ListN.{length, take}
use Rattle.std.specs.Io.KnownBytes.{Appends}
use Rattle.reader.specs.Reader.{state, texts}
use Rattle.rowrun.proofs.Printing.{Printing}
use Rattle.rowrun.proofs.print_portion.Given as goal

abbrev pub invariant-loop-from : goal.invariant-loop-from
invariant-loop-from g l =
    let begun = state l.initial.link l.initial.head l.initial.rows in
    Printing begun l.bytes (state l.link l.head l.rows) l.from × (length l.out ≡ length l.initial.out)
    × Appends (g.W.Write.contents l.initial.sink) (g.W.Write.contents l.sink) (texts begun (take l.from l.bytes))

abbrev pub decreases-loop-from : goal.decreases-loop-from
decreases-loop-from g l = length l.bytes - l.from
