-- What `gather::push_bytes`' loop keeps: the word and the rows so far, with the bytes that are left, come to what all bytes come to.
use mathlib.Core.Path.{◌≡◌}
use Prim.Native.Nat.{◌+◌}
use lib.ListN.{drop}
use Rattle.gather.specs.Gather.{word_all, rows_all}
use Rattle.gather.proofs.push_bytes.Given as goal

abbrev pub invariant-loop-i : goal.invariant-loop-i
invariant-loop-i l =
    (word_all (l.before + l.i) l.now (drop l.i l.bytes) ≡ word_all l.before l.word l.bytes)
    × (rows_all (l.before + l.i) l.now l.rows (drop l.i l.bytes) ≡ rows_all l.before l.word l.initial.rows l.bytes)
