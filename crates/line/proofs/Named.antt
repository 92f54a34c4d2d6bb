-- Rows that are named are there: a reduction over n terms that starts from active rows below n ends with active rows below n.
use Rattle.std.specs.Prelude.{Option, Some, None}
use mathlib.Core.Bool.{Bool, true, false}
use mathlib.Core.List.{List, [], ◌∷◌}
use Prim.Native.Nat.{ℕ, ◌+◌, ◌≤◌, ◌<◌}
use native.Mathlib.Omega.{arith}
use lib.ListN.{length}
use lib.Ieee.{Float}
use Rattle.readings.specs.Readings.{Counted}
use Rattle.readings.proofs.Gives.{◌gives◌, either, pure_gives, read_gives}
use Rattle.active.specs.declared.Active.{Active}
use Rattle.line.specs.declared.Term.{Term}
use Rattle.line.specs.declared.Span.{Span}
use Rattle.active.specs.Active.{no_rows, set_first, set_second}
use Rattle.line.specs.Line.{void, narrow, meeting, lp1d_core}

-- ---- active rows

-- the row that is named, if any, is below n
abbrev pub Below : ℕ → Option ℕ → Type 0
Below n None = Unit {0}
Below n (Some i) = i < n

pub record BothBelow (n : ℕ) (act : Active) : Type 0 where
  pub first : Below n act.first
  pub second : Below n act.second

pub no_rows_below : {n : ℕ} → BothBelow n no_rows
unfolding no_rows
no_rows_below = record { first = tt; second = tt }

module _ {n : ℕ} {act : Active} (k : ℕ) (h : k < n) (below : BothBelow n act) where
  pub set_first_below : BothBelow n (set_first k act)
  unfolding set_first
  set_first_below = record { first = h; second = below.second }

  pub set_second_below : BothBelow n (set_second k act)
  unfolding set_second
  set_second_below = record { first = below.first; second = h }

-- ---- a reduction

abbrev pub SpanBelow : ℕ → Span → Type 0
SpanBelow n s = BothBelow n s.active

abbrev pub NarrowedBelow : ℕ → Option Span → Type 0
NarrowedBelow n None = Unit {0}
NarrowedBelow n (Some s) = SpanBelow n s

module _ {n : ℕ} where
  narrow_below : (cancel : Bool) (ε : Float) (k : ℕ) (t : Term) (s : Span) → k < n → SpanBelow n s → NarrowedBelow n (narrow cancel ε k t s)
  unfolding narrow
  narrow_below cancel ε k t s h below =
      either (NarrowedBelow n) _ (either (NarrowedBelow n) _ tt below)
      (either (NarrowedBelow n) _ (either (SpanBelow n) _ (set_first_below k h below) below) (either (SpanBelow n) _ (set_second_below k h below) below))

  meeting_below : (autonan : Bool) (ε : Float) (s : Span) → SpanBelow n s → SpanBelow n (meeting autonan ε s)
  unfolding meeting void
  meeting_below false ε s below = below
  meeting_below true ε s below = either (SpanBelow n) _ (either (SpanBelow n) _ below below) below

  narrowed_cases : (w : Option Span) {m : Counted Span} {f : Span → Counted Span} → NarrowedBelow n w → m gives SpanBelow n
      → ((s : Span) → SpanBelow n s → f s gives SpanBelow n)
      → ◌gives◌ {A = Span} (elim w [ None ↦ m | Some s ↦ f s ]) (SpanBelow n)
  narrowed_cases None below h k = h
  narrowed_cases (Some s) below h k = k s below

  module _ (autonan cancel : Bool) (ε : Float) where
    pub lp1d_core_below : (terms : List Term) (k : ℕ) (s : Span) → k + length terms ≤ n → SpanBelow n s → lp1d_core autonan cancel ε terms k s gives SpanBelow n
    unfolding lp1d_core void
    lp1d_core_below [] k s h below = pure_gives _ (meeting_below autonan ε s below)
    lp1d_core_below (t ∷ terms) k s h below =
        read_gives 1 (narrowed_cases (narrow cancel ε k t s) (narrow_below cancel ε k t s (omega arith) below) (pure_gives (void s) below)
        (λ s'. lp1d_core_below terms (k + 1) s' (omega arith)))
