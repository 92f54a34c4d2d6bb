-- `lp_1d` answers with an infinity at an end that no pair bounds. Assumes nothing.
use Rattle.std.specs.Prelude.{Some, None, Ok}
use mathlib.Core.Path.{◌≡◌, refl, sym, ap, ◌∙◌}
use mathlib.Core.Logic.{⊎_elim}
use mathlib.Core.Bool.{Bool, true, false, not, true≢false}
use mathlib.Core.List.{List, [], ◌∷◌}
use Prim.Native.Nat.{ℕ, ◌+◌}
use lib.ListN.{length}
use lib.Ieee.{Float, nan, inf, fin, neg, of_bits, add, mul, lt, le}
use Rattle.float.specs.Operators.{when◌then◌else◌, ◌⊗◌, ◌⊘◌, ◌≺◌, ◌≻◌}
use Rattle.float.specs.Float.{zero, abs, max, ◌⋖◌}
use Rattle.float.proofs.Laws.{max_picks}
use Rattle.readings.specs.Readings.{pure, ◌>>◌}
use Rattle.readings.proofs.Gives.{either}
use Rattle.rows.specs.Constants.{eps_rounding}
use Rattle.rows.specs.Rows.{refusal}
use Rattle.line.specs.declared.Term.{Term}
use Rattle.line.specs.declared.Span.{Span}
use Rattle.line.specs.declared.Tolerances.{Tolerances}
use Rattle.active.specs.Active.{no_rows, set_first, set_second}
use Rattle.line.specs.Line.{whole_line, coefficient_is_zero, narrow, meeting, lp1d_core, pairs_of, lp1d}
use Rattle.line.proofs.Reduction.{kept}

-- a pair with no coefficient that holds: it bounds neither end
pub record Holds (ε : Float) (t : Term) : Type 0 where
  pub none : coefficient_is_zero false t ≡ true
  pub holds : t.b ≺ neg ε ≡ false

-- a pair that leaves the upper end alone where `up` is true, else the lower: it holds, or its coefficient has the other sign
pub data Leaves (up : Bool) (ε : Float) (t : Term) : Type 0 where
  neither : Holds ε t → Leaves up ε t
  other : coefficient_is_zero false t ≡ false → t.a ≻ zero ≡ not up → Leaves up ε t

pub data Every (P : Term → Type 0) : List Term → Type 0 where
  none : Every P []
  and : {t : Term} {ts : List Term} → P t → Every P ts → Every P (t ∷ ts)

abbrev end : Bool → Span → Float
end up s = when up then s.high else s.low

above_all : (x : Float) → max x (inf false) ≡ inf false
unfolding ◌⋖◌ lt
above_all x = ⊎_elim (λ e. e ∙ highest x e (rw e at (max_picks.none_before x (inf false)).1)) (λ e. e) (max_picks.one_of_two x (inf false))
  where
    highest : (x : Float) → max x (inf false) ≡ x → x ⋖ inf false ≡ false → x ≡ inf false
    highest nan e h = sym e ∙ max_picks.past_nan_left (inf false)
    highest (inf true) e h = absurd (true≢false h)
    highest (inf false) e h = refl
    highest (fin s m e) e' h = absurd (true≢false h)

module _ (ε : Float) where
  holds_narrows : (k : ℕ) (t : Term) (s : Span) → Holds ε t → narrow false ε k t s ≡ Some s
  unfolding narrow when◌then◌else◌
  holds_narrows k t s h = rw (h.none, h.holds)

  leaves_end : (up : Bool) (k : ℕ) (t : Term) (s : Span) → Leaves up ε t → (w : Span) × (narrow false ε k t s ≡ Some w) × (end up w ≡ end up s)
  unfolding narrow when◌then◌else◌
  leaves_end up k t s (neither h) = (s, holds_narrows k t s h, refl)
  leaves_end true k t s (other h a) =
      let raised : Span = record { high = s.high; low = t.b ⊘ t.a; active = set_second k s.active } in
      let cuts = t.b ≺ s.low ⊗ t.a in
      (when cuts then raised else s, rw (h, a), either (λ w. w.high ≡ s.high) cuts {x = raised} {y = s} refl refl)
  leaves_end false k t s (other h a) =
      let lowered : Span = record { high = t.b ⊘ t.a; low = s.low; active = set_first k s.active } in
      let cuts = t.b ≺ s.high ⊗ t.a in
      (when cuts then lowered else s, rw (h, a), either (λ w. w.low ≡ s.low) cuts {x = lowered} {y = s} refl refl)

  reduction_leaves : (up : Bool) (ts : List Term) (k : ℕ) (s : Span) → Every (Leaves up ε) ts → end up (lp1d_core false false ε ts k s).value ≡ end up s
  unfolding lp1d_core pure ◌>>◌ meeting
  reduction_leaves up [] k s none = refl
  reduction_leaves up (t ∷ ts) k s (and h hs) =
      let w = leaves_end up k t s h in
      ap (λ m. end up m.value) (kept false false ε t ts k s w.0 w.1) ∙ reduction_leaves up ts (k + 1) w.0 hs ∙ w.2

  reduction_holds : (autonan : Bool) (ts : List Term) (k : ℕ) (s : Span) → Every (Holds ε) ts → (lp1d_core autonan false ε ts k s).value ≡ meeting autonan ε s
  unfolding lp1d_core pure ◌>>◌
  reduction_holds autonan [] k s none = refl
  reduction_holds autonan (t ∷ ts) k s (and h hs) =
      ap (λ m. m.value) (kept autonan false ε t ts k s s (holds_narrows k t s h)) ∙ reduction_holds autonan ts (k + 1) s hs

  -- whatever the tolerance is, infinite ends do not cross
  whole_meets : (autonan : Bool) → meeting autonan ε (whole_line no_rows) ≡ whole_line no_rows
  unfolding meeting whole_line when◌then◌else◌ abs eps_rounding of_bits add mul le lt
  whole_meets false = refl
  whole_meets true = rw (above_all ε)

module _ (tol : Tolerances) (flat : List Float) (taken : refusal 2 (length flat) ≡ None) where
  abbrev found : Bool → Span
  found autonan = (lp1d_core autonan false tol.feasibility (pairs_of flat) 0 (whole_line no_rows)).value

  answer : (autonan : Bool) → lp1d autonan tol flat ≡ Ok (record { high = (found autonan).high; low = (found autonan).low })
  unfolding lp1d
  answer autonan = rw taken

  -- no pair bounds it from above, or from below
  pub unbounded_above : Every (Leaves true tol.feasibility) (pairs_of flat)
      → (low : Float) × (lp1d false tol flat ≡ Ok (record { high = inf false; low = low }))
  unfolding whole_line when◌then◌else◌
  unbounded_above h =
      (_, answer false ∙ ap (λ x. Ok (record { high = x; low = (found false).low })) (reduction_leaves _ true (pairs_of flat) 0 _ h))

  pub unbounded_below : Every (Leaves false tol.feasibility) (pairs_of flat)
      → (high : Float) × (lp1d false tol flat ≡ Ok (record { high = high; low = inf true }))
  unfolding whole_line when◌then◌else◌
  unbounded_below h =
      (_, answer false ∙ ap (λ x. Ok (record { high = (found false).high; low = x })) (reduction_leaves _ false (pairs_of flat) 0 _ h))

  -- no pair bounds it at all, also with AUTONAN
  pub unbounded : (autonan : Bool) → Every (Holds tol.feasibility) (pairs_of flat)
      → lp1d autonan tol flat ≡ Ok (record { high = inf false; low = inf true })
  unfolding whole_line
  unbounded autonan h =
      answer autonan
      ∙ ap (λ s. Ok (record { high = s.high; low = s.low })) (reduction_holds _ autonan (pairs_of flat) 0 _ h ∙ whole_meets _ autonan)
