-- What `gather::read_floats`' loop keeps: the first i floats are stored.
use mathlib.Core.Path.{◌≡◌}
use lib.ListN.{take}
use Rattle.record.specs.Bytes.{floats as floatsOf}
use Rattle.gather.proofs.read_floats.Given as goal

abbrev pub invariant-loop-i : goal.invariant-loop-i
invariant-loop-i l = take l.i l.floats ≡ floatsOf l.i l.bytes
