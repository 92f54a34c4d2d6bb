-- Recovery takes at most 2 u^2 + 9 u readings with u rows before `upto`; for the rows that an entry takes these fit in a u64. Assumes nothing.
use Rattle.std.specs.Prelude.{Option, Float}
use mathlib.Core.List.{List}
use Prim.Native.Nat.{ℕ, ◌+◌, ◌*◌, ◌^◌, ◌≤◌, ◌<◌}
use native.Mathlib.Nat.{mul-le-mul}
use native.Mathlib.Omega.{arith}
use lib.ListN.{length, take, length-take}
use Rattle.readings.proofs.Bounds.{◌at_most◌, wider, bind_takes, bind_pure_takes}
use Rattle.rows.specs.declared.Row.{Row}
use Rattle.rows.specs.Constants.{most_rows}
use Rattle.step.specs.declared.Frame.{Frame}
use Rattle.step.specs.declared.State.{State}
use Rattle.project.proofs.Count.{project_takes}
use Rattle.rebuild.proofs.Count.{rebuild_takes}
use Rattle.recover.specs.Recover.{on_boundaries, recover}

module _ (R : List Row) (F : Frame) (upto : ℕ) (s : State) where
  on_boundaries_takes : (fixed : Option Float) → on_boundaries R F upto s fixed at_most length (take upto R) * (2 * length (take upto R) + 3)
  unfolding on_boundaries
  on_boundaries_takes fixed = bind_pure_takes _ (rebuild_takes R F upto _ _ (take upto R) 0 _)

  pub recover_takes : recover R F upto s at_most 2 * (length (take upto R) * length (take upto R)) + 9 * length (take upto R)
  unfolding recover
  recover_takes = wider (bind_takes (project_takes R upto _ _) on_boundaries_takes) (omega arith)

  pub recover_fits : length R ≤ most_rows → (recover R F upto s).readings < 2 ^ 64
  recover_fits h =
      let u : length (take upto R) ≤ most_rows = simp length-take (omega arith) in
      omega (arith, recover_takes, mul-le-mul u u)
