-- An allowance of 2 ^ 64 - 1 is none: no solve takes more.
use mathlib.Core.Path.{◌≡◌, sym, ◌∙◌}
use mathlib.Core.List.{List}
use Prim.Native.Nat.{ℕ, ◌+◌, ◌^◌, ◌≤◌}
use mathlib.Core.Logic.{inl, inr}
use native.Mathlib.Omega.{arith}
use lib.ListN.{length}
use lib.Ieee.{Float}
use Rattle.rows.specs.Rows.{rows_of}
use Rattle.rows.proofs.Lengths.{length-rows_of}
use Rattle.once.specs.declared.Task.{Task}
use Rattle.solve.specs.Solve.{solve, lp2d_incre_max_y}
use Rattle.solve.proofs.Refusals.{refusal_0}
use Rattle.solve.proofs.Allowance.{whether, solve_refuses, solve_finishes, lp2d_incre_max_y_refuses}
use Rattle.solve.proofs.Count.{count_fits}

pub unlimited : (T : Task) (flat : List Float) (A : ℕ) → 2 ^ 64 ≤ A + 1 → solve T A flat ≡ lp2d_incre_max_y T flat
unlimited T flat A large =
    elim (whether T flat) [
      | inl fits ↦
          let few : length (rows_of flat) ≤ 4096 = omega (arith, length-rows_of flat, (refusal_0 T flat).0 fits) in
          solve_finishes T flat A (omega (arith, count_fits T (rows_of flat) few))
      | inr refused ↦ solve_refuses T flat A refused.1 ∙ sym (lp2d_incre_max_y_refuses T flat refused.1)
    ]
