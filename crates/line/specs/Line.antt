-- `lp_1d_core`, for the rows on a pinned line and for pairs, and `lp_1d`. Assumes nothing.
use Rattle.std.specs.Prelude.{ℕ, ◌+◌, Option, Some, None, Result, Bool, true, false, List, [], ◌∷◌, length, get_or, Float}
use Rattle.std.specs.Float.{nan, inf}
use Rattle.std.specs.Float.Ieee.{neg}
use Rattle.float.specs.Operators.{when◌then◌else◌, ◌⊕◌, ◌⊗◌, ◌⊘◌, ◌≺◌, ◌≼◌, ◌≻◌}
use Rattle.float.specs.Float.{zero, one, abs, max, clamp}
use Rattle.readings.specs.Readings.{Counted, pure, read, ◌>>◌}
use Rattle.rows.specs.Constants.{eps_zero, eps_normalize, eps_rounding, ccw_errbound_a, half}
use Rattle.rows.specs.declared.Row.{Row}
use Rattle.rows.specs.declared.Refusal.{Refusal}
use Rattle.rows.specs.Refusals.{unless}
use Rattle.rows.specs.Rows.{refusal}
use Rattle.active.specs.Active.{no_rows, set_first, set_second}
use Rattle.active.specs.declared.Active.{Active}
use Rattle.line.specs.declared.Term.{Term}
use Rattle.line.specs.declared.Span.{Span}
use Rattle.line.specs.declared.Offcut.{Offcut}
use Rattle.line.specs.declared.Offcut.TheVariants.{Nothing, All, Above, Below}
use Rattle.line.specs.declared.Tolerances.{Tolerances}
use Rattle.line.specs.declared.Bounds.{Bounds}

-- ---- one dimension

-- every number, and none
unfoldable pub whole_line : Active → Span
whole_line act = record { high = inf false; low = inf true; active = act }

unfoldable pub void : Span → Span
void s = record { high = nan; low = nan; active = s.active }

-- With CANCEL a coefficient counts as zero within the error of the terms that cancelled into it; without, where it is small beside b.
unfoldable pub coefficient_is_zero : Bool → Term → Bool
coefficient_is_zero true t = abs t.a ≼ ccw_errbound_a ⊗ t.scale
coefficient_is_zero false t = abs t.a ≺ clamp (abs t.b) eps_normalize one ⊗ eps_zero

-- term k narrows a span; one with no coefficient that fails leaves nothing
unfoldable pub narrow : Bool → Float → ℕ → Term → Span → Option Span
narrow cancel ε k t s =
    when coefficient_is_zero cancel t then (when t.b ≺ neg ε then None else Some s)
    else when t.a ≻ zero then
    Some (when t.b ≺ s.high ⊗ t.a then record { high = t.b ⊘ t.a; low = s.low; active = set_first k s.active } else s)
    else Some (when t.b ≺ s.low ⊗ t.a then record { high = s.high; low = t.b ⊘ t.a; active = set_second k s.active } else s)

-- with AUTONAN, ends that cross within tolerance meet in the middle, and others leave nothing
unfoldable pub meeting : Bool → Float → Span → Span
meeting false ε s = s
meeting true ε s =
    let middle = half ⊗ (s.high ⊕ s.low) in
    when s.low ≼ s.high ⊕ max ε (eps_rounding ⊗ (abs s.low ⊕ abs s.high)) then
    (when s.low ≼ s.high then s else record { high = middle; low = middle; active = s.active })
    else void s

-- the terms from term k on; each takes a reading, the one that ends it included
unfoldable pub lp1d_core : Bool → Bool → Float → List Term → ℕ → Span → Counted Span
lp1d_core autonan cancel ε [] k s = pure (meeting autonan ε s)
lp1d_core autonan cancel ε (t ∷ ts) k s =
    read 1 >> (elim (narrow cancel ε k t s) as (λ _. Counted Span) [ None ↦ pure (void s) | Some s' ↦ lp1d_core autonan cancel ε ts (k + 1) s' ])

-- ---- rows on a pinned line

-- a row on the line x = p y - q, and on the line y = p x - q
unfoldable pub on_y : Float → Float → Row → Term
on_y p q r = let t = r.a ⊗ p in record { a = t ⊕ r.b; b = r.c ⊕ r.a ⊗ q; scale = abs t ⊕ abs r.b }

unfoldable pub on_x : Float → Float → Row → Term
on_x p q r = let t = r.b ⊗ p in record { a = r.a ⊕ t; b = r.c ⊕ r.b ⊗ q; scale = abs r.a ⊕ abs t }

-- the first where the pinned row is steep, the second where it is not
unfoldable pub on_line : Bool → Float → Float → Row → Term
on_line true = on_y
on_line false = on_x

-- ---- what the code gives back

-- what a term cuts off the numbers from `low` to `high`, and a span without what term k cuts off
unfoldable pub cut_off : Bool → Float → Term → Float → Float → Offcut
cut_off cancel ε t high low =
    when coefficient_is_zero cancel t then (when t.b ≺ neg ε then All else Nothing)
    else when t.a ≻ zero then (when t.b ≺ high ⊗ t.a then Above (t.b ⊘ t.a) else Nothing)
    else when t.b ≺ low ⊗ t.a then Below (t.b ⊘ t.a) else Nothing

unfoldable pub without : ℕ → Offcut → Span → Option Span
without k Nothing s = Some s
without k All s = None
without k (Above v) s = Some (record { high = v; low = s.low; active = set_first k s.active })
without k (Below v) s = Some (record { high = s.high; low = v; active = set_second k s.active })

-- ---- pairs

-- a t ≤ b, two neighbouring floats: nothing cancelled into a
unfoldable pub pairs_of : List Float → List Term
pairs_of [] = []
pairs_of (a ∷ []) = []
pairs_of (a ∷ b ∷ rest) = record { a = a; b = b; scale = zero } ∷ pairs_of rest

unfoldable pub pair_at : List Term → ℕ → Term
pair_at terms k = get_or terms k (record { a = zero; b = zero; scale = zero })

unfoldable pub lp1d : Bool → Tolerances → List Float → Result Bounds Refusal
lp1d autonan tol flat =
    let s = (lp1d_core autonan false tol.feasibility (pairs_of flat) 0 (whole_line no_rows)).value in
    unless (refusal 2 (length flat)) (record { high = s.high; low = s.low })
