-- The forward pass, row by row: one law for each way out of a turn.
use Rattle.std.specs.Prelude.{Option, Some, None, Result, Ok, Err}
use Rattle.std.specs.Result.{IsErrAnd}
use mathlib.Core.Path.{◌≡◌, refl, sym, ap, ◌∙◌}
use mathlib.Core.Bool.{true, false}
use mathlib.Core.List.{List}
use Prim.Native.Nat.{ℕ, ◌+◌, ◌*◌, ◌≤◌, ◌<◌}
use lib.ListN.{length, drop}
use lib.Ieee.{Float}
use Rattle.float.specs.Operators.{when◌then◌else◌}
use Rattle.readings.specs.declared.Spent.{Spent}
use Rattle.readings.specs.Readings.{Counted, pure, read, ◌>>◌, Paid, paid, within, paying}
use Rattle.readings.proofs.Laws.{within-pure, ends_with_it, paid_then_answers, unpaid}
use Rattle.rows.specs.declared.Row.{Row}
use Rattle.rows.specs.Rows.{rows_of, row_at}
use Rattle.rows.proofs.Flat.{next_of_all, none_left}
use Rattle.step.specs.declared.Frame.{Frame}
use Rattle.step.specs.declared.State.{State}
use Rattle.step.specs.Step.{onward, ◌>>?◌}
use Rattle.step.proofs.Onward.{fails, finds}
use Rattle.passes.specs.Passes.{violated, pivot, forward}
use Rattle.passes.proofs.Binds.{read_grouped}

-- row i of n is next at the state s, `rest` readings are left, and with these the pass gives `whole`
pub record Turn (scale : Float) (F : Frame) (flat : List Float) (n i rest : ℕ) (s : State) (whole : Paid (Option State)) : Type 0 where
  pub all : 3 * n ≡ length flat
  pub gives : within rest (forward scale (rows_of flat) F (drop i (rows_of flat)) i s) ≡ whole

module _ {scale : Float} {F : Frame} {flat : List Float} {n i rest : ℕ} {s : State} {whole : Paid (Option State)}
    (turn : Turn scale F flat n i rest s whole) where
  pub ends : n ≤ i → paid (Some s) rest ≡ whole
  unfolding forward
  ends h = sym (within-pure rest (Some s)) ∙ (rw (none_left flat n i turn.all h) at turn.gives)

  module _ (inside : i < n) {left : Result ℕ Spent} (test : left ≡ paying rest 1) where
    abbrev row : Row
    row = row_at (rows_of flat) i

    -- the pass after row i, and row i itself once its reading is paid for
    abbrev after : State → Counted (Option State)
    after = forward scale (rows_of flat) F (drop (i + 1) (rows_of flat)) (i + 1)

    abbrev here : Counted (Option State)
    here = when violated row s.at then pivot scale (rows_of flat) F row i s else pure (Some s)

    opened : within rest (read 1 >> (here >>? after)) ≡ whole
    unfolding forward ◌>>?◌
    opened = ap (within rest) (sym (read_grouped 1 here (onward after))) ∙ (rw (next_of_all flat n i turn.all inside) at turn.gives)

    pub stops : {e : Spent} {result : Paid (Option State)} → left ≡ Err e → IsErrAnd result (λ y. y ≡ e) → result ≡ whole
    stops was passed = unpaid rest 1 _ test was passed ∙ opened

    module _ {over : ℕ} (was : left ≡ Ok over) where
      paid_for : within over (here >>? after) ≡ whole
      paid_for = paid_then_answers rest 1 _ test was refl ∙ opened

      pub keeps : violated row s.at ≡ false → Turn scale F flat n (i + 1) over s whole
      unfolding when◌then◌else◌
      keeps e = record { all = turn.all; gives = sym (finds over _ after (within-pure over (Some s))) ∙ (rw e at paid_for) }

      module _ (e : violated row s.at ≡ true) {answer : Paid (Option State)} (pinning : answer ≡ within over (pivot scale (rows_of flat) F row i s)) where
        to_pivot : within over (pivot scale (rows_of flat) F row i s >>? after) ≡ whole
        unfolding when◌then◌else◌
        to_pivot = rw e at paid_for

        pub pivot_stops : {d : Spent} {result : Paid (Option State)} → answer ≡ Err d → IsErrAnd result (λ y. y ≡ d) → result ≡ whole
        unfolding ◌>>?◌
        pivot_stops gave passed = ends_with_it over _ (onward after) pinning gave passed ∙ to_pivot

        pub pivot_fails : {l : ℕ} → answer ≡ paid None l → paid None l ≡ whole
        pivot_fails gave = sym (fails over _ after (sym pinning ∙ gave)) ∙ to_pivot

        pub pivot_finds : {t : State} {l : ℕ} → answer ≡ paid (Some t) l → Turn scale F flat n (i + 1) l t whole
        pivot_finds gave = record { all = turn.all; gives = sym (finds over _ after (sym pinning ∙ gave)) ∙ to_pivot }
