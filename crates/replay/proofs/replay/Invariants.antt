-- `replay::replay` counts no more lines than there are bytes, and no more right ones than lines.
use Prim.Native.Nat.{◌+◌, ◌≤◌}
use lib.ListN.{length}
use Rattle.replay.proofs.replay.Given as goal

abbrev pub invariant-loop-line : goal.invariant-loop-line
invariant-loop-line g l =
    (goal.iterator-loop-line g).can_next l.line-iterator × (goal.iterator-loop-line g).is_finite l.line-iterator
    × (l.right ≤ l.lines) × (l.lines + length l.line-iterator.0.now ≤ length l.text)
