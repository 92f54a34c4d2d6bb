-- A reduction takes at most a reading for each term. Assumes nothing.
use Rattle.std.specs.Prelude.{Option, Some, None}
use mathlib.Core.Bool.{Bool}
use mathlib.Core.List.{List, [], ◌∷◌}
use Prim.Native.Nat.{ℕ, ◌+◌}
use native.Mathlib.Omega.{arith}
use lib.ListN.{length}
use lib.Ieee.{Float}
use Rattle.readings.specs.Readings.{Counted}
use Rattle.readings.proofs.Bounds.{◌at_most◌, wider, pure_takes, read_takes}
use Rattle.line.specs.declared.Term.{Term}
use Rattle.line.specs.declared.Span.{Span}
use Rattle.line.specs.Line.{narrow, lp1d_core}

narrowed_cases : (w : Option Span) {m : Counted Span} {f : Span → Counted Span} {x : ℕ} → m at_most x → ((s : Span) → f s at_most x)
    → ◌at_most◌ {A = Span} (elim w [ None ↦ m | Some s ↦ f s ]) x
narrowed_cases None h k = h
narrowed_cases (Some s) h k = k s

module _ (autonan cancel : Bool) (ε : Float) where
  pub lp1d_core_takes : (terms : List Term) (k : ℕ) (s : Span) → lp1d_core autonan cancel ε terms k s at_most length terms
  unfolding lp1d_core
  lp1d_core_takes [] k s = pure_takes _
  lp1d_core_takes (t ∷ terms) k s = wider (read_takes 1 (narrowed_cases (narrow cancel ε k t s) (pure_takes _) (lp1d_core_takes terms (k + 1)))) (omega arith)
