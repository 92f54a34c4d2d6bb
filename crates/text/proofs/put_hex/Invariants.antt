-- `text::put_hex` meets its contract. The loop's invariant: the first i digits are copied, and what is left gives the others.
use mathlib.Core.Path.{◌≡◌}
use Prim.Native.Nat.{◌-◌, ◌^◌, ◌<◌}
use lib.ListN.{drop}
use lib.Seq.{paste}
use Rattle.text.specs.Text.{hex_from, hex}
use Rattle.text.proofs.put_hex.Given as goal

abbrev pub invariant-loop-i : goal.invariant-loop-i
invariant-loop-i l =
    (l.rest < 2 ^ 64) × (l.out ≡ paste l.initial.out l.at (hex l.n) l.i) × (drop l.i (hex l.n) ≡ hex_from (16 - l.i) l.rest)
