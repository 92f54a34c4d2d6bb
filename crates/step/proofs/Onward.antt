-- What a caller knows of one after the other, the second only where the first found something, from what the first gave. Assumes nothing.
use Rattle.std.specs.Prelude.{Option, Some, None}
use mathlib.Core.Path.{◌≡◌, ◌∙◌}
use Prim.Native.Nat.{ℕ}
use Rattle.readings.specs.Readings.{Counted, paid, within}
use Rattle.readings.proofs.Laws.{within-pure, goes_on}
use Rattle.step.specs.declared.State.{State}
use Rattle.step.specs.Step.{onward, ◌>>?◌}

module _ (left : ℕ) (m : Counted (Option State)) (f : State → Counted (Option State)) where
  pub fails : {k : ℕ} → within left m ≡ paid None k → within left (m >>? f) ≡ paid None k
  unfolding ◌>>?◌ onward
  fails {k} e = goes_on left m (onward f) e ∙ within-pure k None

  pub finds : {s : State} {k : ℕ} → within left m ≡ paid (Some s) k → within left (m >>? f) ≡ within k (f s)
  unfolding ◌>>?◌ onward
  finds e = goes_on left m (onward f) e
