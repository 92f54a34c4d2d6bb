-- What comes after a first try, told by whether it found something: after a trial of a row, and after recovery at a part of the tolerance.
use Rattle.std.specs.Prelude.{Option, Some, None}
use Rattle.std.specs.Option.{is_some}
use mathlib.Core.Path.{◌≡◌, refl, sym}
use mathlib.Core.Bool.{true, false}
use mathlib.Core.List.{List}
use Prim.Native.Nat.{ℕ, ◌+◌}
use lib.Ieee.{Float}
use Rattle.float.specs.Operators.{when◌then◌else◌, ◌≈◌}
use Rattle.readings.specs.Readings.{paid, within}
use Rattle.readings.proofs.Laws.{within-pure}
use Rattle.rows.specs.declared.Row.{Row}
use Rattle.step.specs.declared.Frame.{Frame}
use Rattle.step.specs.declared.State.{State}
use Rattle.step.specs.Step.{step}
use Rattle.recover.specs.Recover.{recover}
use Rattle.passes.specs.Passes.{second_try, repair, after_trial}

module _ (R : List Row) (F : Frame) (s : State) (left : ℕ) where
  module _ (scale : Float) (i : ℕ) where
    pub trial_failed : (found : Option State) → is_some found ≡ false
        → within left (repair scale R F (i + 1) s) ≡ within left (after_trial scale R F i s found)
    unfolding after_trial
    trial_failed None h = refl
    trial_failed (Some t) h = absurd (cc)

    pub trial_passed : (found : Option State) → is_some found ≡ true → within left (step R F i i s) ≡ within left (after_trial scale R F i s found)
    unfolding after_trial
    trial_passed None h = absurd (cc)
    trial_passed (Some t) h = refl

  module _ (upto : ℕ) (ε : Float) where
    pub found_at_once : (found : Option State) → is_some found ≡ true → paid found left ≡ within left (second_try R F upto s ε found)
    unfolding second_try
    found_at_once None h = absurd (cc)
    found_at_once (Some t) h = sym (within-pure left (Some t))

    pub tried_enough : ε ≈ F.epsilon ≡ true → (found : Option State) → is_some found ≡ false
        → paid found left ≡ within left (second_try R F upto s ε found)
    unfolding second_try when◌then◌else◌
    tried_enough e None h = rw e (sym (within-pure left None))
    tried_enough e (Some t) h = absurd (cc)

    pub tried_again : ε ≈ F.epsilon ≡ false → (found : Option State) → is_some found ≡ false
        → within left (recover R F upto s) ≡ within left (second_try R F upto s ε found)
    unfolding second_try when◌then◌else◌
    tried_again e None h = rw e
    tried_again e (Some t) h = absurd (cc)
