-- Rows that are named are there: a step that pins a row below n against at most n rows, from active rows below n, ends with active rows below n.
use Rattle.std.specs.Prelude.{Option, Some, None}
use mathlib.Core.Bool.{true, false}
use mathlib.Core.List.{List}
use Prim.Native.Nat.{ℕ, ◌≤◌, ◌<◌}
use native.Mathlib.Omega.{arith}
use lib.ListN.{length, take, length-map}
use lib.Ieee.{Float}
use Rattle.readings.specs.Readings.{Counted}
use Rattle.readings.proofs.Gives.{◌gives◌, either, pure_gives, read_gives, if_gives, bind_gives}
use Rattle.rows.specs.declared.Row.{Row}
use Rattle.line.specs.declared.Span.{Span}
use Rattle.line.specs.Line.{whole_line}
use Rattle.line.proofs.Named.{BothBelow, no_rows_below, set_first_below, set_second_below, SpanBelow, NarrowedBelow, lp1d_core_below}
use Rattle.step.specs.declared.Frame.{Frame}
use Rattle.step.specs.declared.State.{State}
use Rattle.step.specs.declared.Chosen.{Chosen}
use Rattle.step.specs.Step.{onward, ◌>>?◌, steep_end, steep_step, uncrossed, chosen, flat_end, flat_step, step}

abbrev pub StateBelow : ℕ → State → Type 0
StateBelow n s = BothBelow n s.active

abbrev pub FoundBelow : ℕ → Option State → Type 0
FoundBelow n None = Unit {0}
FoundBelow n (Some s) = StateBelow n s

abbrev ChosenBelow : ℕ → Chosen → Type 0
ChosenBelow n c = BothBelow n c.active

module _ {n : ℕ} where
  -- one after the other
  onward_below : {f : State → Counted (Option State)} → ((s : State) → StateBelow n s → f s gives FoundBelow n)
      → (found : Option State) → FoundBelow n found → onward f found gives FoundBelow n
  unfolding onward
  onward_below k None below = pure_gives None tt
  onward_below k (Some s) below = k s below

  pub bind?_below : {m : Counted (Option State)} {f : State → Counted (Option State)} → m gives FoundBelow n
      → ((s : State) → StateBelow n s → f s gives FoundBelow n) → (m >>? f) gives FoundBelow n
  unfolding ◌>>?◌
  bind?_below h k = bind_gives h (onward_below k)

  -- the ends of a step
  uncrossed_below : (ε : Float) (s : Span) → SpanBelow n s → NarrowedBelow n (uncrossed ε s)
  unfolding uncrossed
  uncrossed_below ε s below = either (NarrowedBelow n) _ (either (NarrowedBelow n) _ tt below) below

  module _ (i : ℕ) (h : i < n) where
    steep_end_below : (p q : Float) (s : State) (t : Span) → SpanBelow n t → FoundBelow n (steep_end p q i s t)
    unfolding steep_end
    steep_end_below p q s t below = either (FoundBelow n) _ tt (set_second_below i h below)

    chosen_below : (p bound : Float) (s : Span) → SpanBelow n s → ChosenBelow n (chosen i p bound s)
    unfolding chosen
    chosen_below p bound s below =
        let first = set_first_below i h below in
        let second = set_second_below i h below in
        either (ChosenBelow n) _ second
        (either (ChosenBelow n) _ first
        (either (ChosenBelow n) _ first
        (either (ChosenBelow n) _ second (set_first_below i h no_rows_below))))

    flat_end_below : (bound p q : Float) (w : Option Span) → NarrowedBelow n w → FoundBelow n (flat_end bound p q i w)
    unfolding flat_end
    flat_end_below bound p q None below = tt
    flat_end_below bound p q (Some s) below = chosen_below p bound s below

    -- the step
    module _ (F : Frame) (others : List Row) (few : length others ≤ n) (r : Row) (s : State) (below : StateBelow n s) where
      steep_step_below : steep_step F others i r s gives FoundBelow n
      unfolding steep_step whole_line
      steep_step_below =
          bind_gives (lp1d_core_below true true _ _ 0 _ (rw length-map (omega arith)) below)
          (λ t below'. pure_gives _ (steep_end_below _ _ s t below'))

      flat_step_below : flat_step F others i r s gives FoundBelow n
      unfolding flat_step whole_line
      flat_step_below =
          bind_gives (lp1d_core_below false true _ _ 0 _ (rw length-map (omega arith)) below)
          (λ t below'. pure_gives _ (flat_end_below _ _ _ _ (uncrossed_below _ t below')))

  pub step_below : (R : List Row) (F : Frame) (upto i : ℕ) (s : State) → length (take upto R) ≤ n → i < n → StateBelow n s
      → step R F upto i s gives FoundBelow n
  unfolding step
  step_below R F upto i s few h below =
      read_gives 1
      (if_gives _ (pure_gives _ (either (FoundBelow n) _ below tt))
      (if_gives _ (steep_step_below i h F _ few _ s below) (flat_step_below i h F _ few _ s below)))
