-- In the branch |a| <= |b| a reduction that came back (NaN, NaN) is not an infeasible step: x becomes the edge of the box or 0, and the
-- step succeeds.
use Rattle.std.specs.Prelude.{Some}
use mathlib.Core.Path.{◌≡◌, refl, ap}
use mathlib.Core.Bool.{true, false}
use Prim.Native.Nat.{ℕ}
use lib.Ieee.{Float, neg, lt}
use Rattle.float.specs.Operators.{when◌then◌else◌, ◌⊖◌, ◌⊗◌, ◌≺◌, ◌≻◌}
use Rattle.float.specs.Float.{zero, finite}
use Rattle.float.proofs.Laws.{min_picks, max_picks}
use Rattle.float.proofs.Order.{below_nan}
use Rattle.line.specs.declared.Span.{Span}
use Rattle.active.specs.Active.{no_rows, set_first}
use Rattle.line.specs.Line.{void}
use Rattle.step.specs.Step.{uncrossed, chosen, flat_end}

-- NaN does not cross
pub void-passes : (ε : Float) (s : Span) → uncrossed ε (void s) ≡ Some (void s)
unfolding uncrossed void when◌then◌else◌ lt
void-passes ε s = refl

module _ (bound p q ε : Float) (i : ℕ) (s : Span) where
  -- whatever the slope, the step is done
  pub void_succeeds : let c = chosen i p bound (void s) in
      flat_end bound p q i (uncrossed ε (void s)) ≡ Some (record { at = record { x = c.x; y = p ⊗ c.x ⊖ q }; active = c.active })
  unfolding flat_end
  void_succeeds = ap (flat_end bound p q i) (void-passes ε s)

  pub rising_takes_the_box : p ≻ zero ≡ true → (chosen i p bound (void s)).x ≡ bound
  unfolding chosen void finite when◌then◌else◌
  rising_takes_the_box up = rw up (max_picks.past_nan_left bound)

  pub falling_takes_the_box : p ≻ zero ≡ false → p ≺ zero ≡ true → (chosen i p bound (void s)).x ≡ neg bound
  unfolding chosen void finite when◌then◌else◌
  falling_takes_the_box up down = rw (up, down) (min_picks.past_nan_left (neg bound))

  pub level_takes_zero : p ≻ zero ≡ false → p ≺ zero ≡ false → chosen i p bound (void s) ≡ record { x = zero; active = set_first i no_rows }
  unfolding chosen void when◌then◌else◌ lt
  level_takes_zero up down = rw (up, down, below_nan zero)
