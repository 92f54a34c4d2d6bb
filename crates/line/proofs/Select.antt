-- A span without what a term cuts off is the span that the term narrows, also where the span's ends and slots are carried apart. Assumes nothing.
use Rattle.std.specs.Prelude.{Option, Some, None}
use mathlib.Core.Path.{◌≡◌, refl, sym, ap, ◌∙◌}
use mathlib.Core.Bool.{Bool, true, false}
use Prim.Native.Nat.{ℕ}
use lib.Ieee.{Float, neg}
use Rattle.float.specs.Operators.{when◌then◌else◌, ◌⊗◌, ◌⊘◌, ◌≺◌, ◌≻◌}
use Rattle.float.specs.Float.{zero}
use Rattle.line.specs.declared.Term.{Term}
use Rattle.line.specs.declared.Span.{Span}
use Rattle.line.specs.declared.Offcut.{Offcut}
use Rattle.line.specs.declared.Offcut.TheVariants.{Nothing, All, Above, Below}
use Rattle.active.specs.Active.{set_first, set_second}
use Rattle.line.specs.Line.{coefficient_is_zero, narrow, cut_off, without}

without-cut : (cancel : Bool) (ε : Float) (k : ℕ) (t : Term) (s : Span) → without k (cut_off cancel ε t s.high s.low) s ≡ narrow cancel ε k t s
unfolding cut_off without narrow when◌then◌else◌
without-cut cancel ε k t s = cases (coefficient_is_zero cancel t) (t.b ≺ neg ε) (t.a ≻ zero) (t.b ≺ s.high ⊗ t.a) (t.b ≺ s.low ⊗ t.a)
  where
    cases : (none fails up above below : Bool)
        → without k (when none then (when fails then All else Nothing) else when up then
        (when above then Above (t.b ⊘ t.a) else Nothing)
        else when below then Below (t.b ⊘ t.a) else Nothing) s
        ≡ (when none then (when fails then None else Some s) else when up then
        Some (when above then record { high = t.b ⊘ t.a; low = s.low; active = set_first k s.active } else s)
        else Some (when below then record { high = s.high; low = t.b ⊘ t.a; active = set_second k s.active } else s))
    cases true true up above below = refl
    cases true false up above below = refl
    cases false fails true true below = refl
    cases false fails true false below = refl
    cases false fails false above true = refl
    cases false fails false above false = refl

-- ---- ends and slots apart

abbrev pub span : Float → Float → Option ℕ → Option ℕ → Span
span high low first second = record { high = high; low = low; active = record { first = first; second = second } }

pub narrowed : (cancel : Bool) (ε : Float) (k : ℕ) (t : Term) (v : Span) {cut : Offcut} → cut ≡ cut_off cancel ε t v.high v.low
    → narrow cancel ε k t v ≡ without k cut v
narrowed cancel ε k t v is = sym (without-cut cancel ε k t v) ∙ ap (λ c. without k c v) (sym is)
