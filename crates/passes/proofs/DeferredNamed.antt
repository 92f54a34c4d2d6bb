-- Rows that are named are there: the row that a deferred scan finds, and the active rows that the rounds give, are below the number of rows.
use Rattle.std.specs.Prelude.{Option, Some, None}
use mathlib.Core.List.{List, [], ◌∷◌}
use Prim.Native.Nat.{ℕ, zero, suc, ◌+◌, ◌≤◌, ◌<◌}
use native.Mathlib.Omega.{arith}
use lib.ListN.{length, length-take}
use lib.Ieee.{Float}
use Rattle.readings.specs.Readings.{Counted}
use Rattle.readings.proofs.Gives.{◌gives◌, either, pure_gives, read_gives, bind_gives}
use Rattle.rows.specs.declared.Row.{Row}
use Rattle.rows.specs.declared.Point.{Point}
use Rattle.line.proofs.Named.{Below}
use Rattle.step.specs.declared.Frame.{Frame}
use Rattle.step.specs.declared.State.{State}
use Rattle.step.proofs.Named.{StateBelow, FoundBelow, bind?_below, step_below}
use Rattle.passes.specs.declared.Worst.{Worst}
use Rattle.passes.specs.Passes.{worst, none, deferred}

abbrev WorstBelow : ℕ → Worst → Type 0
WorstBelow n w = Below n w.row

pub worst_below : {n : ℕ} (ε : Float) (p : Point) (rows : List Row) (i : ℕ) (w : Worst) → i + length rows ≤ n → WorstBelow n w
    → worst ε p rows i w gives WorstBelow n
unfolding worst
worst_below ε p [] i w h below = pure_gives w below
worst_below {n} ε p (r ∷ rows) i w h below = read_gives 1 (worst_below ε p rows (i + 1) _ (omega arith) (either (WorstBelow n) _ (omega arith) below))

slot_cases : {n : ℕ} (slot : Option ℕ) {m : Counted (Option State)} {f : ℕ → Counted (Option State)}
    → Below n slot → m gives FoundBelow n → ((i : ℕ) → i < n → f i gives FoundBelow n)
    → ◌gives◌ {A = Option State} (elim slot [ None ↦ m | Some i ↦ f i ]) (FoundBelow n)
slot_cases None below h k = h
slot_cases (Some i) below h k = k i below

pub deferred_below : (n k : ℕ) (R : List Row) (F : Frame) (s : State) → length R ≤ n → StateBelow n s → deferred k R F s gives FoundBelow n
unfolding deferred none
deferred_below n zero R F s few below = pure_gives _ below
deferred_below n (suc k) R F s few below =
    bind_gives (worst_below _ _ R 0 _ (omega arith) tt)
    (λ w named. slot_cases w.row named (pure_gives _ below)
    (λ i h. bind?_below (step_below R F (length R) i s (simp length-take (omega arith)) h below) (λ s'. deferred_below n k R F s' few)))
