-- `incre_step_2d`. Assumes nothing.
use Rattle.std.specs.Prelude.{ℕ, Option, Some, None, true, false, List, map, take, Float}
use Rattle.std.specs.Float.Ieee.{neg, is_nan}
use Rattle.float.specs.Operators.{when◌then◌else◌, ◌⊕◌, ◌⊖◌, ◌⊗◌, ◌⊘◌, ◌≺◌, ◌≼◌, ◌≻◌}
use Rattle.float.specs.Float.{zero, one, abs, finite, min, max}
use Rattle.readings.specs.Readings.{Counted, pure, read, ◌>>=◌, ◌>>◌}
use Rattle.rows.specs.Constants.{eps_rounding, half}
use Rattle.rows.specs.declared.Row.{Row}
use Rattle.rows.specs.Rows.{row_at, no_boundary}
use Rattle.active.specs.Active.{no_rows, set_first, set_second}
use Rattle.line.specs.declared.Span.{Span}
use Rattle.line.specs.Line.{whole_line, lp1d_core, on_line}
use Rattle.step.specs.declared.Frame.{Frame}
use Rattle.step.specs.declared.State.{State}
use Rattle.step.specs.declared.Chosen.{Chosen}

infixl 10 ◌>>?◌
-- ---- one after the other, the second only where the first found something

unfoldable pub onward : (State → Counted (Option State)) → Option State → Counted (Option State)
onward f None = pure None
onward f (Some s) = f s

unfoldable pub ◌>>?◌ : Counted (Option State) → (State → Counted (Option State)) → Counted (Option State)
m >>? f = m >>= onward f

-- ---- a steep row, |a| > |b|: along x = p y - q

-- the highest y, and not above the present one
unfoldable pub steep_end : Float → Float → ℕ → State → Span → Option State
steep_end p q i s t =
    let y = min t.high s.at.y in
    when is_nan t.high then None else Some (record { at = record { x = p ⊗ y ⊖ q; y = y }; active = set_second i t.active })

unfoldable pub steep_step : Frame → List Row → ℕ → Row → State → Counted (Option State)
steep_step F others i r s =
    let inverse = one ⊘ r.a in
    let p = neg r.b ⊗ inverse in
    let q = neg r.c ⊗ inverse in
    lp1d_core true true F.reduced (map (on_line true p q) others) 0 (whole_line s.active) >>= λ t. pure (steep_end p q i s t)

-- ---- a flat row, |a| ≤ |b| or a NaN: along y = p x - q

-- Ends that cross within tolerance meet in the middle, and others leave nothing. NaN does not cross: a reduction that left no number passes.
unfoldable pub uncrossed : Float → Span → Option Span
uncrossed ε s =
    let middle = half ⊗ (s.high ⊕ s.low) in
    when s.high ≺ s.low then
    (when s.low ⊖ s.high ≻ max ε (eps_rounding ⊗ (abs s.low ⊕ abs s.high)) then None
    else Some (record { high = middle; low = middle; active = s.active }))
    else Some s

-- the x with the highest y, the box standing in for a missing end; on a level line the x nearest 0
unfoldable pub chosen : ℕ → Float → Float → Span → Chosen
chosen i p bound s =
    when p ≻ zero then record { x = when finite s.high then s.high else max s.low bound; active = set_second i s.active }
    else when p ≺ zero then record { x = when finite s.low then s.low else min s.high (neg bound); active = set_first i s.active }
    else when s.low ≻ zero then record { x = s.low; active = set_first i s.active }
    else when s.high ≺ zero then record { x = s.high; active = set_second i s.active }
    else record { x = zero; active = set_first i no_rows }

unfoldable pub flat_end : Float → Float → Float → ℕ → Option Span → Option State
flat_end bound p q i None = None
flat_end bound p q i (Some s) = let c = chosen i p bound s in Some (record { at = record { x = c.x; y = p ⊗ c.x ⊖ q }; active = c.active })

unfoldable pub flat_step : Frame → List Row → ℕ → Row → State → Counted (Option State)
flat_step F others i r s =
    let inverse = one ⊘ r.b in
    let p = neg r.a ⊗ inverse in
    let q = neg r.c ⊗ inverse in
    lp1d_core false true F.reduced (map (on_line false p q) others) 0 (whole_line s.active)
    >>= λ t. pure (flat_end F.bound p q i (uncrossed F.epsilon t))

-- ---- the step

-- Row i is pinned against the rows before `upto`; it fails where that shows the rows to be infeasible.
unfoldable pub step : List Row → Frame → ℕ → ℕ → State → Counted (Option State)
step R F upto i s =
    let r = row_at R i in
    let others = take upto R in
    read 1 >> (when no_boundary r then pure (when neg F.epsilon ≼ r.c then Some s else None)
    else when abs r.a ≻ abs r.b then steep_step F others i r s else flat_step F others i r s)
