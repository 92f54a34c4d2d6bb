-- `text::spell` meets its contract. The loop's invariant: the digits of what is left, and behind them those spelled, are the number's.
use mathlib.Core.Path.{◌≡◌}
use mathlib.Core.List.{◌++◌}
use Prim.Native.Nat.{◌+◌, ◌^◌, ◌≤◌, ◌<◌}
use lib.ListN.{length, drop}
use Rattle.text.specs.Text.{decimal_within, decimal}
use Rattle.text.proofs.spell.Given as goal

abbrev pub invariant-loop-rest : goal.invariant-loop-rest
invariant-loop-rest l =
    (l.at < 20) × (length l.digits ≡ 20) × (l.rest ≤ l.n) × (l.rest < 10 ^ (l.at + 1))
    × (decimal_within (l.at + 1) l.rest ++ drop (l.at + 1) l.digits ≡ decimal l.n)

abbrev pub decreases-loop-rest : goal.decreases-loop-rest
decreases-loop-rest l = l.rest
