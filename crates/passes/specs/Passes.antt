-- The two passes of `lp_2d_incre_max_y_once`: the forward pass with its recoveries, and the deferred rounds.
use Rattle.std.specs.Prelude.{ℕ, ◌+◌, Option, Some, None, Bool, List, [], ◌∷◌, Float, zero, suc, length}
use Rattle.float.specs.Operators.{when◌then◌else◌, ◌⊗◌, ◌≼◌, ◌≻◌, ◌≈◌, ◌⊖◌}
use Rattle.readings.specs.Readings.{Counted, pure, read, ◌>>=◌, ◌>>◌}
use Rattle.rows.specs.Constants.{eps_rounding, repair_tol_scale}
use Rattle.rows.specs.declared.Row.{Row}
use Rattle.rows.specs.declared.Point.{Point}
use Rattle.rows.specs.Rows.{residual, weight}
use Rattle.step.specs.declared.Frame.{Frame}
use Rattle.step.specs.declared.State.{State}
use Rattle.step.specs.Step.{step, ◌>>?◌}
use Rattle.recover.specs.Recover.{recover}
use Rattle.float.specs.Float as float
use Rattle.float.specs.Float.{max}
use Rattle.passes.specs.declared.Worst.{Worst}

-- ---- the forward pass

-- the row is violated by more than the rounding of its terms
unfoldable pub violated : Row → Point → Bool
violated r p = residual r p ≻ eps_rounding ⊗ weight r p

unfoldable pub frame : Float → Float → Float → Frame
frame bound ε scale = record { bound = bound; epsilon = ε; reduced = ε ⊗ scale }

-- a failed trial: recovery at a quarter of the tolerance, and then, unless that is the same, at the tolerance
unfoldable pub second_try : List Row → Frame → ℕ → State → Float → Option State → Counted (Option State)
second_try R F upto s ε (Some t) = pure (Some t)
second_try R F upto s ε None = let again = recover R F upto s in when ε ≈ F.epsilon then pure None else again

unfoldable pub repair : Float → List Row → Frame → ℕ → State → Counted (Option State)
repair scale R F upto s = let ε = F.epsilon ⊗ repair_tol_scale in recover R (frame F.bound ε scale) upto s >>= second_try R F upto s ε

-- nothing of a trial is used but whether it failed
unfoldable pub after_trial : Float → List Row → Frame → ℕ → State → Option State → Counted (Option State)
after_trial scale R F i s None = repair scale R F (i + 1) s
after_trial scale R F i s (Some t) = step R F i i s

-- row i is pinned; where it is violated by no more than the tolerance, a trial goes first
unfoldable pub pivot : Float → List Row → Frame → Row → ℕ → State → Counted (Option State)
pivot scale R F r i s =
    let firm = step R F i i s in
    let tried = firm >>= after_trial scale R F i s in
    when residual r s.at ≼ F.epsilon then tried else firm

-- the rows from row i on, up to the first infeasible step
unfoldable pub forward : Float → List Row → Frame → List Row → ℕ → State → Counted (Option State)
forward scale R F [] i s = pure (Some s)
forward scale R F (r ∷ rs) i s =
    let pinned = pivot scale R F r i s in
    read 1 >> (when violated r s.at then pinned else pure (Some s)) >>? forward scale R F rs (i + 1)

-- ---- the deferred rounds

-- by how much a row is violated beyond the tolerance, or the rounding of its terms
unfoldable pub excess : Float → Row → Point → Float
excess ε r p = residual r p ⊖ max ε (eps_rounding ⊗ weight r p)

-- the first row with the largest excess above zero, from row i on
unfoldable pub worst : Float → Point → List Row → ℕ → Worst → Counted Worst
worst ε p [] i w = pure w
worst ε p (r ∷ rs) i w =
    let e = excess ε r p in
    read 1 >> worst ε p rs (i + 1) (when e ≻ w.excess then record { excess = e; row = Some i } else w)

unfoldable pub none : Worst
none = record { excess = float.zero; row = None }

-- that row is pinned against ALL rows, again and again until there is none, k times at most
unfoldable pub deferred : ℕ → List Row → Frame → State → Counted (Option State)
deferred zero R F s = pure (Some s)
deferred (suc k) R F s = do
  w ← worst F.epsilon s.at R 0 none
  elim w.row as (λ _. Counted (Option State)) [ None ↦ pure (Some s) | Some i ↦ step R F (length R) i s >>? deferred k R F ]
