-- After the seventh solve there is always a return: the loop of `lp_2d_incre_max_y_core`, as it is written, never comes to the `unreachable!()` behind it, and
-- returns what the last of the solves found. So they are seven at most, and only the seventh may sit on its box and be the last.
use mathlib.Core.Path.{◌≡◌, refl, ap}
use mathlib.Core.Logic.{◌⊎◌, inl, inr, ⊎_map}
use mathlib.Core.Bool.{false, not, ◌||◌, or-true}
use mathlib.Core.List.{List}
use Prim.Native.Nat.{ℕ, zero, suc, ◌+◌, ◌≤◌}
use native.Mathlib.Omega.{arith}
use borrow.Author.Tests.{eq-eqb, ne_eqb}
use lib.Dec.{eqb}
use lib.Ieee.{Float}
use Rattle.float.specs.Operators.{when◌then◌else◌, ◌⊗◌}
use Rattle.rows.specs.Constants.{lp_bound, lp_box_growth, lp_box_growth_steps}
use Rattle.rows.specs.declared.Row.{Row}
use Rattle.once.specs.declared.Task.{Task}
use Rattle.once.specs.Once.{Once, once}
use Rattle.solve.specs.Solve.{solves, all_solves, last_of}
use Rattle.solve.proofs.Growing.{rounds, ends, by_box}

-- ---- the source's loop

-- `return (x, y)` of what a solve found, or the end of the loop
pub data Left : Type 0 where
  returned : Once → Left
  unreachable : Left

-- `for step in ..` over the n steps from this one on: a solve, then `if !saturated || step == LP_BOX_GROWTH_STEPS { return (x, y); }`, then
-- `bound *= LP_BOX_GROWTH;`
unfoldable pub looping : ℕ → ℕ → Task → List Row → Float → Left
looping zero step T rows bound = unreachable
looping (suc n) step T rows bound =
    let o = once T rows bound in
    let more = looping n (suc step) T o.rows.value (bound ⊗ lp_box_growth) in
    when not o.saturated || eqb step lp_box_growth_steps then returned o else more

-- `0..=LP_BOX_GROWTH_STEPS`
unfoldable pub loop : Task → List Row → Left
loop T rows = looping (lp_box_growth_steps + 1) 0 T rows lp_bound

-- from any step on, with the growths that it leaves
from_step : (T : Task) (k step : ℕ) (rows : List Row) (bound : Float) → k + step ≡ lp_box_growth_steps
    → looping (suc k) step T rows bound ≡ returned (last_of (solves k T rows bound))
unfolding looping last_of when◌then◌else◌
from_step T zero step rows bound e =
    rw (eq-eqb step lp_box_growth_steps (omega arith), or-true (not (once T rows bound).saturated), ends T rows bound 0 (inl refl))
from_step T (suc k) step rows bound e =
    by_box T rows bound (λ os. looping (suc (suc k)) step T rows bound ≡ returned (last_of os)) k
    (λ off. rw off)
    (λ on. rw (on, ne_eqb step lp_box_growth_steps (λ seventh. omega arith)) (from_step T k (suc step) _ _ (omega arith)))

-- ---- how many solves

module _ (T : Task) where
  at_most : (k : ℕ) (rows : List Row) (bound : Float) → rounds (solves k T rows bound) ≤ suc k
  unfolding rounds
  at_most zero rows bound = rw (ends T rows bound 0 (inl refl)) (omega arith)
  at_most (suc k) rows bound =
      let more = at_most k (once T rows bound).rows.value (bound ⊗ lp_box_growth) in
      by_box T rows bound (λ os. rounds os ≤ suc (suc k)) k (λ off. omega arith) (λ on. omega arith)

  off_or_last : (k : ℕ) (rows : List Row) (bound : Float)
      → ((last_of (solves k T rows bound)).saturated ≡ false) ⊎ (rounds (solves k T rows bound) ≡ suc k)
  unfolding last_of rounds
  off_or_last zero rows bound = rw (ends T rows bound 0 (inl refl)) (inr refl)
  off_or_last (suc k) rows bound =
      by_box T rows bound (λ os. ((last_of os).saturated ≡ false) ⊎ (rounds os ≡ suc (suc k))) k
      (λ off. inl off)
      (λ on. ⊎_map (λ off. off) (ap suc) (off_or_last k _ _))

  module _ (rows : List Row) where
    -- the loop returns what the last of the solves found
    pub always_returns : loop T rows ≡ returned (last_of (all_solves T rows))
    unfolding loop all_solves
    always_returns = from_step T lp_box_growth_steps 0 rows lp_bound refl

    pub seven_at_most : rounds (all_solves T rows) ≤ 7
    unfolding all_solves
    seven_at_most = at_most lp_box_growth_steps rows lp_bound

    -- the last one does not sit on its box, or is the seventh
    pub off_or_seventh : ((last_of (all_solves T rows)).saturated ≡ false) ⊎ (rounds (all_solves T rows) ≡ 7)
    unfolding all_solves
    off_or_seventh = off_or_last lp_box_growth_steps rows lp_bound
