-- A reduction, row by row and pair by pair: one lemma for each way out of a turn.
use Rattle.std.specs.Prelude.{Some, None, Result, Ok, Err}
use Rattle.std.specs.Result.{IsErrAnd}
use mathlib.Core.Path.{◌≡◌, refl, sym, ◌∙◌}
use mathlib.Core.Bool.{Bool, true, false}
use mathlib.Core.List.{List, ◌∷◌, map}
use Prim.Native.Nat.{ℕ, ◌+◌, ◌*◌, ◌≤◌, ◌<◌}
use lib.ListN.{length, take, drop}
use lib.Ieee.{Float, neg, inf}
use Rattle.readings.specs.declared.Spent.{Spent}
use Rattle.readings.specs.Readings.{pure, read, ◌>>◌, Paid, paid, within, paying}
use Rattle.readings.proofs.Laws.{within-pure, paid_then_answers, unpaid}
use Rattle.rows.specs.declared.Row.{Row}
use Rattle.rows.specs.Rows.{rows_of, row_at}
use Rattle.rows.proofs.Flat.{next_row, no_more}
use Rattle.active.specs.declared.Active.{Active}
use Rattle.line.specs.declared.Term.{Term}
use Rattle.line.specs.declared.Span.{Span}
use Rattle.line.specs.declared.Offcut.{Offcut}
use Rattle.line.specs.Line.{whole_line, void, narrow, cut_off, without, meeting, lp1d_core}
use Rattle.line.proofs.Select.{span, narrowed}

-- ---- where the code begins, and one turn

pub whole_line_lem : {top : Float} {start act : Active} → top ≡ inf false → start ≡ act → span top (neg top) start.first start.second ≡ whole_line act
unfolding whole_line neg
whole_line_lem e f = rw (e, f)

module _ (autonan cancel : Bool) (ε : Float) (t : Term) (ts : List Term) (k : ℕ) (v : Span) where
  pub kept : (w : Span) → narrow cancel ε k t v ≡ Some w → lp1d_core autonan cancel ε (t ∷ ts) k v ≡ (read 1 >> lp1d_core autonan cancel ε ts (k + 1) w)
  unfolding lp1d_core
  kept w e = rw e

  pub emptied : narrow cancel ε k t v ≡ None → lp1d_core autonan cancel ε (t ∷ ts) k v ≡ (read 1 >> pure (void v))
  unfolding lp1d_core
  emptied e = rw e

-- ---- rows

-- row k is next, v and `rest` readings are left, and with these the rows give `whole`
pub record Rows (autonan : Bool) (ε : Float) (g : Row → Term) (flat : List Float) (upto k rest : ℕ) (v : Span) (whole : Paid Span) : Type 0 where
  pub gives : within rest (lp1d_core autonan true ε (map g (drop k (take upto (rows_of flat)))) k v) ≡ whole

module _ {autonan : Bool} {ε : Float} {g : Row → Term} {flat : List Float} {upto k rest : ℕ} {v : Span} {whole : Paid Span}
    (turn : Rows autonan ε g flat upto k rest v whole) where
  pub rows_end : upto ≤ k → paid (meeting autonan ε v) rest ≡ whole
  unfolding lp1d_core
  rows_end h = sym (within-pure _ _) ∙ (rw (no_more flat upto k h) at turn.gives)

  -- the row's reading is paid first
  module _ (before : k < upto) (fits : 3 * upto ≤ length flat) {call : Result ℕ Spent} (is : call ≡ paying rest 1) where
    abbrev row : Term
    row = g (row_at (rows_of flat) k)

    abbrev others : List Term
    others = map g (drop (k + 1) (take upto (rows_of flat)))

    opened : within rest (lp1d_core autonan true ε (row ∷ others) k v) ≡ whole
    opened = rw (next_row flat upto k before fits) at turn.gives

    pub row_stops : {e : Spent} {answer : Paid Span} → call ≡ Err e → IsErrAnd answer (λ y. y ≡ e) → answer ≡ whole
    unfolding lp1d_core
    row_stops was passed = unpaid _ 1 _ is was passed ∙ opened

    module _ {left : ℕ} (was : call ≡ Ok left) {cut : Offcut} (cuts : cut ≡ cut_off true ε row v.high v.low) where
      pub row_keeps : {w : Span} → without k cut v ≡ Some w → Rows autonan ε g flat upto (k + 1) left w whole
      row_keeps {w} e =
          let goes = kept autonan true ε row others k v w (narrowed true ε k row v cuts ∙ e) in
          record { gives = paid_then_answers _ 1 _ is was refl ∙ (rw goes at opened) }

      pub row_empties : without k cut v ≡ None → paid (void v) left ≡ whole
      row_empties e =
          let ends = emptied autonan true ε row others k v (narrowed true ε k row v cuts ∙ e) in
          paid_then_answers _ 1 _ is was (sym (within-pure _ _)) ∙ (rw ends at opened)
