-- Rows that are named are there: the active rows that the forward pass gives are below the number of rows.
use Rattle.std.specs.Prelude.{Option, Some, None}
use mathlib.Core.List.{List, [], ◌∷◌}
use Prim.Native.Nat.{ℕ, ◌+◌, ◌-◌, ◌≤◌, ◌<◌}
use native.Mathlib.Omega.{arith}
use lib.ListN.{length, length-take}
use lib.Ieee.{Float}
use Rattle.readings.proofs.Gives.{◌gives◌, pure_gives, read_gives, if_gives, bind_gives, any_gives}
use Rattle.rows.specs.declared.Row.{Row}
use Rattle.step.specs.declared.Frame.{Frame}
use Rattle.step.specs.declared.State.{State}
use Rattle.step.specs.Step.{step}
use Rattle.step.proofs.Named.{StateBelow, FoundBelow, bind?_below, step_below}
use Rattle.recover.specs.Recover.{recover}
use Rattle.recover.proofs.Named.{recover_below}
use Rattle.passes.specs.Passes.{second_try, repair, after_trial, pivot, forward}

module _ (n : ℕ) (R : List Row) (few : length R ≤ n) (F : Frame) where
  -- where a step or a recovery starts
  module _ (s : State) (below : StateBelow n s) where
    pinned_below : (upto i : ℕ) → i < n → step R F upto i s gives FoundBelow n
    pinned_below upto i h = step_below R F upto i s (simp length-take (omega arith)) h below

    recovered_below : (G : Frame) (upto : ℕ) → recover R G upto s gives FoundBelow n
    recovered_below G upto = recover_below n s below R G upto (simp length-take (omega arith))

    second_try_below : (upto : ℕ) (ε : Float) (found : Option State) → FoundBelow n found → second_try R F upto s ε found gives FoundBelow n
    unfolding second_try
    second_try_below upto ε None h = if_gives _ (pure_gives _ tt) (recovered_below F upto)
    second_try_below upto ε (Some t) h = pure_gives _ h

    repair_below : (scale : Float) (upto : ℕ) → repair scale R F upto s gives FoundBelow n
    unfolding repair
    repair_below scale upto = bind_gives (recovered_below _ upto) (second_try_below upto _)

    after_trial_below : (scale : Float) (i : ℕ) (found : Option State) → i < n → after_trial scale R F i s found gives FoundBelow n
    unfolding after_trial
    after_trial_below scale i None h = repair_below scale (i + 1)
    after_trial_below scale i (Some t) h = pinned_below i i h

    pivot_below : (scale : Float) (r : Row) (i : ℕ) → i < n → pivot scale R F r i s gives FoundBelow n
    unfolding pivot
    pivot_below scale r i h = if_gives _ (any_gives _ (λ found. after_trial_below scale i found h)) (pinned_below i i h)

  pub forward_below : (scale : Float) (rows : List Row) (i : ℕ) (s : State) → length rows ≤ n - i → StateBelow n s
      → forward scale R F rows i s gives FoundBelow n
  unfolding forward
  forward_below scale [] i s h below = pure_gives _ below
  forward_below scale (r ∷ rows) i s h below =
      bind?_below
      (read_gives 1 (if_gives _ (pivot_below s below scale r i (omega arith)) (pure_gives _ below)))
      (λ s'. forward_below scale rows (i + 1) s' (omega arith))
