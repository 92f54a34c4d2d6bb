-- What RULES 5 and 6 say of a warm start, and of a solve that fails, as facts of the definitions.
use Rattle.std.specs.Prelude.{Some, None}
use mathlib.Core.Path.{◌≡◌, refl}
use mathlib.Core.Bool.{true, ◌&&◌, ◌||◌}
use mathlib.Core.List.{List}
use Prim.Native.Nat.{ℕ, ◌≤◌}
use lib.ListN.{length, drop, drop_of_length-le}
use lib.Ieee.{Float}
use Rattle.float.specs.Operators.{when◌then◌else◌, ◌⊗◌, ◌≻◌, ◌≈◌}
use Rattle.float.specs.Float.{abs, finite, max}
use Rattle.readings.specs.Readings.{pure}
use Rattle.rows.specs.Constants.{lp_bound, lp_box_growth}
use Rattle.rows.specs.declared.Row.{Row}
use Rattle.active.specs.Active.{no_rows}
use Rattle.step.specs.declared.Frame.{Frame}
use Rattle.step.specs.declared.State.{State}
use Rattle.once.specs.declared.WarmStart.{WarmStart}
use Rattle.solve.specs.declared.Answer.TheVariants.{Nothing}
use Rattle.passes.specs.Passes.{forward}
use Rattle.once.specs.Once.{widened, begun}
use Rattle.solve.specs.Solve.{answer, active_rows}

-- a skip past the end leaves the forward pass empty
pub skips_all : (scale : Float) (R : List Row) (F : Frame) (skip : ℕ) (s : State) → length R ≤ skip → forward scale R F (drop skip R) skip s ≡ pure (Some s)
unfolding forward
skips_all scale R F skip s h = rw (drop_of_length-le R {i = skip} h)

module _ (start : WarmStart) (bound : Float) where
  -- a finite start outside the box sets the box to 1e3 times its larger coordinate in absolute value
  pub outside_widens : finite start.x && finite start.y && (abs start.x ≻ bound || abs start.y ≻ bound) ≡ true
      → widened start bound ≡ lp_box_growth ⊗ max (abs start.x) (abs start.y)
  unfolding widened when◌then◌else◌
  outside_widens h = rw h

  -- a start with y exactly 1e6 moves up to a larger box
  pub moves_up : start.y ≈ lp_bound && bound ≻ lp_bound ≡ true → begun start bound ≡ record { x = start.x; y = bound }
  unfolding begun when◌then◌else◌
  moves_up h = rw h

-- a solve that fails gives nothing, and no active rows
pub failed_is_nothing : answer None ≡ Nothing
unfolding answer
failed_is_nothing = refl

pub failed_clears : active_rows None ≡ no_rows
unfolding active_rows
failed_clears = refl
