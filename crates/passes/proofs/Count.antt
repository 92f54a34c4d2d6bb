-- How many readings the forward pass takes at most.
use Rattle.std.specs.Prelude.{Option, Some, None}
use mathlib.Core.Path.{◌≡◌}
use mathlib.Core.List.{List, [], ◌∷◌}
use Prim.Native.Nat.{ℕ, zero, suc, ◌+◌, ◌-◌, ◌*◌, ◌≤◌}
use native.Mathlib.Nat.{mul-le-mul}
use native.Mathlib.Omega.{arith}
use lib.ListN.{length, take, length-take}
use lib.Ieee.{Float}
use Rattle.readings.proofs.Bounds.{◌at_most◌, wider, pure_takes, read_takes, if_takes, bind_takes}
use Rattle.rows.specs.declared.Row.{Row}
use Rattle.step.specs.declared.Frame.{Frame}
use Rattle.step.specs.declared.State.{State}
use Rattle.step.specs.Step.{step}
use Rattle.step.proofs.Count.{bind?_takes, step_takes}
use Rattle.recover.specs.Recover.{recover}
use Rattle.recover.proofs.Count.{recover_takes}
use Rattle.passes.specs.Passes.{second_try, repair, after_trial, pivot, forward}

-- ---- the numbers

-- row i of the forward pass, with u = i + 1: a test, a failed trial of u readings, and two recoveries of u rows
at_row : ℕ → ℕ
at_row i = let u = i + 1 in 1 + (4 * (u * u) + 19 * u)

-- k rows from row i on
pub from_row : ℕ → ℕ → ℕ
from_row i zero = 0
from_row i (suc k) = at_row i + from_row (i + 1) k

-- six times the rows before row n
unfoldable pub before : ℕ → ℕ
before n = 8 * (n * n * n) + 69 * (n * n) + 67 * n

sum : (i k : ℕ) → 6 * from_row i k + before i ≡ before (i + k)
unfolding at_row from_row before
sum i zero = omega arith
sum i (suc k) = omega (arith, sum (i + 1) k)

-- the rows that are left of n after the first i; none, where i is past the end
pub after_skip : (i k n : ℕ) → k ≡ n - i → 6 * from_row i k ≤ before n
unfolding from_row
after_skip i zero n e = omega arith
after_skip i (suc k) n e = let all : n ≡ i + suc k = omega arith in rw all (omega (arith, sum i (suc k)))

-- ---- the forward pass

taken : (upto : ℕ) (R : List Row) → length (take upto R) ≤ upto
taken upto R = simp length-take (omega arith)

recovery_takes : (R : List Row) (F : Frame) (upto : ℕ) (s : State) → recover R F upto s at_most 2 * (upto * upto) + 9 * upto
recovery_takes R F upto s = let h = taken upto R in wider (recover_takes R F upto s) (omega (arith, mul-le-mul h h))

module _ (scale : Float) (R : List Row) (F : Frame) where
  second_try_takes : (upto : ℕ) (s : State) (ε : Float) (found : Option State) → second_try R F upto s ε found at_most 2 * (upto * upto) + 9 * upto
  unfolding second_try
  second_try_takes upto s ε None = if_takes _ (pure_takes _) (recovery_takes R F upto s)
  second_try_takes upto s ε (Some t) = pure_takes _

  repair_takes : (upto : ℕ) (s : State) → repair scale R F upto s at_most 4 * (upto * upto) + 18 * upto
  unfolding repair
  repair_takes upto s = wider (bind_takes (recovery_takes R _ upto s) (second_try_takes upto s _)) (omega arith)

  firm_takes : (i : ℕ) (s : State) → step R F i i s at_most i + 1
  firm_takes i s = wider (step_takes R F i i s) (omega (arith, taken i R))

  after_trial_takes : (i : ℕ) (s : State) (found : Option State) → after_trial scale R F i s found at_most 4 * ((i + 1) * (i + 1)) + 18 * (i + 1)
  unfolding after_trial
  after_trial_takes i s None = repair_takes (i + 1) s
  after_trial_takes i s (Some t) = wider (firm_takes i s) (omega arith)

  pivot_takes : (r : Row) (i : ℕ) (s : State) → pivot scale R F r i s at_most 4 * ((i + 1) * (i + 1)) + 19 * (i + 1)
  unfolding pivot
  pivot_takes r i s = if_takes _ (wider (bind_takes (firm_takes i s) (after_trial_takes i s)) (omega arith)) (wider (firm_takes i s) (omega arith))

  pub forward_takes : (rows : List Row) (i : ℕ) (s : State) → forward scale R F rows i s at_most from_row i (length rows)
  unfolding forward from_row at_row
  forward_takes [] i s = pure_takes _
  forward_takes (r ∷ rows) i s = bind?_takes (read_takes 1 (if_takes _ (pivot_takes r i s) (pure_takes _))) (forward_takes rows (i + 1))
