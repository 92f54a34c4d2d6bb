-- Rows that are named are there: a search over rows below n, with candidates tested against at most n rows, finds active rows below n.
use Rattle.std.specs.Prelude.{Option, Some, None}
use mathlib.Core.List.{List, [], ◌∷◌}
use Prim.Native.Nat.{ℕ, ◌+◌, ◌≤◌, ◌<◌}
use native.Mathlib.Omega.{arith}
use lib.ListN.{length, take}
use lib.Ieee.{Float}
use Rattle.readings.specs.Readings.{Counted, pure}
use Rattle.readings.proofs.Gives.{◌gives◌, either, pure_gives, read_gives, if_gives, bind_gives, any_gives}
use Rattle.rows.specs.declared.Row.{Row}
use Rattle.rows.specs.declared.Point.{Point}
use Rattle.active.specs.declared.Active.{Active}
use Rattle.line.proofs.Named.{Below, BothBelow, no_rows_below}
use Rattle.step.specs.declared.Frame.{Frame}
use Rattle.step.specs.declared.State.{State}
use Rattle.step.proofs.Named.{StateBelow, FoundBelow, bind?_below, step_below}
use Rattle.rebuild.specs.Rebuild.{ordered_by, ordered, tested, qualified, candidate, better, judge, turn, rebuild}
use Rattle.rebuild.specs.declared.Turn.{Turn}
use Rattle.rebuild.specs.declared.Turn.TheVariants.{On, Won}

abbrev TurnBelow : ℕ → Turn → Type 0
TurnBelow n (On found) = FoundBelow n found
TurnBelow n (Won s) = StateBelow n s

module _ (n : ℕ) where
  -- what is found so far
  ordered_by_below : (first second : Option ℕ) → Below n first → Below n second → BothBelow n (ordered_by first second)
  unfolding ordered_by
  ordered_by_below None second h k = record { first = k; second = tt }
  ordered_by_below (Some i) second h k = record { first = h; second = k }

  ordered_below : {act : Active} → BothBelow n act → BothBelow n (ordered act)
  unfolding ordered
  ordered_below below = ordered_by_below _ _ below.first below.second

  better_below : (s : State) (found : Option State) → StateBelow n s → FoundBelow n found → FoundBelow n (better s found)
  unfolding better
  better_below s None h k = h
  better_below s (Some t) h k = either (FoundBelow n) _ h k

  judge_below : (top : Float) (best found : Option State) → FoundBelow n best → FoundBelow n found → TurnBelow n (judge top best found)
  unfolding judge
  judge_below top best None h k = h
  judge_below top best (Some s) h k = either (TurnBelow n) _ k (better_below s best k h)

  turn_cases : (t : Turn) {f : Option State → Counted (Option State)} → TurnBelow n t
      → ((found : Option State) → FoundBelow n found → f found gives FoundBelow n)
      → ◌gives◌ {A = Option State} (elim t [ On found ↦ f found | Won s ↦ pure (Some s) ]) (FoundBelow n)
  turn_cases (On found) h k = k found h
  turn_cases (Won s) h k = pure_gives (Some s) h

  -- the search
  module _ (R : List Row) (F : Frame) (upto : ℕ) (few : length (take upto R) ≤ n) (seed : Point) (floor : Float) where
    tested_below : (i : ℕ) (s : State) → StateBelow n s → tested R F upto i s gives FoundBelow n
    unfolding tested
    tested_below i s below = any_gives _ (λ ok. if_gives _ (read_gives 2 (pure_gives _ (either (FoundBelow n) _ below tt))) (pure_gives _ tt))

    candidate_below : (i : ℕ) (r : Row) → i < n → candidate R F upto seed floor i r gives FoundBelow n
    unfolding candidate qualified
    candidate_below i r h =
        bind?_below (step_below R F upto i _ few h no_rows_below) (λ s below. if_gives _ (tested_below i _ (ordered_below below)) (pure_gives _ tt))

    turn_below : (i : ℕ) (r : Row) (best : Option State) → i < n → FoundBelow n best → turn R F upto seed floor i r best gives TurnBelow n
    unfolding turn
    turn_below i r best h below =
        bind_gives (if_gives _ (pure_gives None tt) (candidate_below i r h)) (λ found below'. pure_gives _ (judge_below _ best found below below'))

    pub rebuild_below : (rows : List Row) (i : ℕ) (best : Option State) → i + length rows ≤ n → FoundBelow n best
        → rebuild R F upto seed floor rows i best gives FoundBelow n
    unfolding rebuild
    rebuild_below [] i best h below = pure_gives _ below
    rebuild_below (r ∷ rows) i best h below =
        bind_gives (turn_below i r best (omega arith) below) (λ t below'. turn_cases t below' (λ found. rebuild_below rows (i + 1) found (omega arith)))
