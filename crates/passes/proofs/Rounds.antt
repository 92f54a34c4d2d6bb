-- The deferred rounds, turn by turn.
use Rattle.std.specs.Prelude.{Option, Some, None, Err}
use Rattle.std.specs.Result.{IsErrAnd}
use mathlib.Core.Path.{◌≡◌, sym, ◌∙◌, subst}
use mathlib.Core.List.{List}
use Prim.Native.Nat.{ℕ, suc, ◌*◌, ◌<◌}
use native.Mathlib.Omega.{arith}
use lib.ListN.{length}
use lib.Ieee.{Float}
use Rattle.readings.specs.declared.Spent.{Spent}
use Rattle.readings.specs.Readings.{Counted, Paid, paid, within}
use Rattle.readings.proofs.Laws.{within-pure, goes_on, ends_with_it}
use Rattle.readings.proofs.Gives.{paid_has}
use Rattle.rows.specs.Rows.{rows_of}
use Rattle.rows.proofs.Lengths.{length-rows_of}
use Rattle.line.proofs.Named.{Below}
use Rattle.step.specs.declared.Frame.{Frame}
use Rattle.step.specs.declared.State.{State}
use Rattle.step.specs.Step.{step, onward, ◌>>?◌}
use Rattle.passes.specs.declared.Worst.{Worst}
use Rattle.passes.specs.Passes.{worst, none, deferred}
use Rattle.passes.proofs.DeferredNamed.{worst_below}
use Rattle.step.proofs.Onward.{fails, finds}

-- ---- a round

-- so many rounds are left at the state s, with `rest` readings, and with these they give `whole`
pub record Round (F : Frame) (flat : List Float) (n rounds rest : ℕ) (s : State) (whole : Paid (Option State)) : Type 0 where
  pub all : 3 * n ≡ length flat
  pub gives : within rest (deferred rounds (rows_of flat) F s) ≡ whole

module _ {F : Frame} {flat : List Float} {n rounds rest : ℕ} {s : State} {whole : Paid (Option State)} (round : Round F flat n rounds rest s whole) where
  pub rounds_end : rounds ≡ 0 → paid (Some s) rest ≡ whole
  unfolding deferred
  rounds_end e = sym (within-pure rest (Some s)) ∙ (rw e at round.gives)

  module _ (fewer : ℕ) (some : rounds ≡ suc fewer) {answer : Paid Worst} (scanning : answer ≡ within rest (worst F.epsilon s.at (rows_of flat) 0 none)) where
    opened : within rest (deferred (suc fewer) (rows_of flat) F s) ≡ whole
    opened = rw some at round.gives

    pub scan_stops : {e : Spent} {result : Paid (Option State)} → answer ≡ Err e → IsErrAnd result (λ y. y ≡ e) → result ≡ whole
    unfolding deferred
    scan_stops was passed = ends_with_it rest _ _ scanning was passed ∙ opened

    module _ {w : Worst} {over : ℕ} (seen : answer ≡ paid w over) where
      scan_gives : within rest (worst F.epsilon s.at (rows_of flat) 0 none) ≡ paid w over
      scan_gives = sym scanning ∙ seen

      pub none_worse : w.row ≡ None → paid (Some s) over ≡ whole
      unfolding deferred
      none_worse e = sym (within-pure over (Some s)) ∙ (rw e at (sym (goes_on rest _ _ scan_gives) ∙ opened))

      module _ {i : ℕ} (holds : w.row ≡ Some i) where
        pub named : i < n
        unfolding none
        named = subst (Below n) holds (paid_has rest (worst_below F.epsilon s.at (rows_of flat) 0 none (omega (arith, length-rows_of flat)) tt) scan_gives)

        abbrev after : State → Counted (Option State)
        after = deferred fewer (rows_of flat) F

        goes_to_step : within over (step (rows_of flat) F n i s >>? after) ≡ whole
        unfolding deferred
        goes_to_step =
            let few : length (rows_of flat) ≡ n = omega (arith, length-rows_of flat) in
            rw (holds, few) at (sym (goes_on rest _ _ scan_gives) ∙ opened)

        module _ {went : Paid (Option State)} (pinning : went ≡ within over (step (rows_of flat) F n i s)) where
          pub step_stops : {e : Spent} {result : Paid (Option State)} → went ≡ Err e → IsErrAnd result (λ y. y ≡ e) → result ≡ whole
          unfolding ◌>>?◌
          step_stops was passed = ends_with_it over _ (onward after) pinning was passed ∙ goes_to_step

          pub step_fails : {last : ℕ} → went ≡ paid None last → paid None last ≡ whole
          step_fails was = sym (fails over _ after (sym pinning ∙ was)) ∙ goes_to_step

          pub step_finds : {t : State} {last : ℕ} → went ≡ paid (Some t) last → Round F flat n fewer last t whole
          step_finds was = record { all = round.all; gives = sym (finds over _ after (sym pinning ∙ was)) ∙ goes_to_step }
