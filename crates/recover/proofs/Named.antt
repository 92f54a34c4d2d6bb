-- Rows that are named are there: recovery of at most n rows, from active rows below n, ends with active rows below n; and what the entry
-- gives back names rows of its prefix, where the lent collector did.
use Rattle.std.specs.Prelude.{Option, Some, None, Result, Ok, Err}
use mathlib.Core.Path.{◌≡◌}
use mathlib.Core.List.{List}
use Prim.Native.Nat.{ℕ, ◌≤◌}
use native.Mathlib.Omega.{arith}
use lib.ListN.{length, take, length-take}
use lib.Ieee.{Float}
use Rattle.readings.proofs.Gives.{◌gives◌, either, pure_gives, bind_gives, any_gives}
use Rattle.rows.specs.declared.Row.{Row}
use Rattle.rows.specs.declared.Point.{Point}
use Rattle.rows.specs.declared.Refusal.{Refusal}
use Rattle.rows.specs.Refusals.{refused_or}
use Rattle.rows.specs.Rows.{rows_of}
use Rattle.active.specs.declared.Active.{Active}
use Rattle.line.proofs.Named.{BothBelow, no_rows_below}
use Rattle.step.specs.declared.Frame.{Frame}
use Rattle.step.specs.declared.State.{State}
use Rattle.active.specs.Collector.{held, collected}
use Rattle.step.proofs.Named.{StateBelow, FoundBelow}
use Rattle.rebuild.proofs.Named.{rebuild_below}
use Rattle.recover.specs.declared.Recovered.{Recovered}
use Rattle.recover.specs.Recover.{unmoved, rebuilt, on_boundaries, recover, recovered, recovering}

module _ (n : ℕ) (s : State) (below : StateBelow n s) where
  unmoved_below : (fixed : Option Float) → FoundBelow n (unmoved s fixed)
  unfolding unmoved
  unmoved_below None = tt
  unmoved_below (Some x) = either (FoundBelow n) _ below tt

  rebuilt_below : (fixed : Option Float) (found : Option State) → FoundBelow n found → FoundBelow n (rebuilt s fixed found)
  unfolding rebuilt
  rebuilt_below fixed None h = unmoved_below fixed
  rebuilt_below fixed (Some t) h = h

  pub recover_below : (R : List Row) (F : Frame) (upto : ℕ) → length (take upto R) ≤ n → recover R F upto s gives FoundBelow n
  unfolding recover on_boundaries
  recover_below R F upto few =
      any_gives _
      (λ fixed. bind_gives (rebuild_below n R F upto few _ _ (take upto R) 0 None (omega arith) tt) (λ found h. pure_gives _ (rebuilt_below fixed found h)))

-- ---- the entry

abbrev RecoveredBelow : ℕ → Result Recovered Refusal → Type 0
RecoveredBelow n (Ok r) = BothBelow n (held r.collector)
RecoveredBelow n (Err refusal) = Unit {0}

unless_refused : (n : ℕ) (why : Option Refusal) (next : Result Recovered Refusal) → RecoveredBelow n next → RecoveredBelow n (refused_or why next)
unless_refused n None next below = below
unless_refused n (Some refusal) next below = tt

recovered_below : (n : ℕ) (coll : Option Active) (found : Option State) → FoundBelow n found → RecoveredBelow n (recovered coll found)
unfolding recovered held collected
recovered_below n coll None below = tt
recovered_below n None (Some s) below = no_rows_below
recovered_below n (Some act) (Some s) below = below

recovering_below : (flat : List Float) (upto : ℕ) (p : Point) (F : Frame) (coll : Option Active)
    → BothBelow upto (held coll) → RecoveredBelow upto (recovering flat upto p F coll)
unfolding recovering
recovering_below flat upto p F coll below =
    unless_refused upto _ _ (either (RecoveredBelow upto) _ tt
    (recovered_below upto coll _ (recover_below upto _ below (rows_of flat) F upto (rw length-take (omega arith))).has))

-- Where the rows that the caller's own collector holds lie below the prefix, so do those that the entry gives back. It is not so of every collector: a
-- point that recovery keeps as it was keeps the caller's rows with it, whatever they are.
pub both_are_there : (flat : List Float) (upto : ℕ) (p : Point) (F : Frame) (act : Active) → BothBelow upto act
    → {q : Point} {act' : Active} → recovering flat upto p F (Some act) ≡ Ok (record { at = q; collector = Some act' }) → BothBelow upto act'
unfolding held
both_are_there flat upto p F act below e = rw e at (recovering_below flat upto p F (Some act) below)
