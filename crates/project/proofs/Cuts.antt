-- The interval that rows leave, turn by turn over rows that lie flat. Assumes nothing.
use Rattle.std.specs.Prelude.{Option, Some, None, Result, Ok, Err}
use Rattle.std.specs.Result.{IsErrAnd}
use mathlib.Core.Path.{◌≡◌, refl, sym, ◌∙◌}
use mathlib.Core.Bool.{true, false}
use mathlib.Core.List.{List, ◌∷◌}
use Prim.Native.Nat.{ℕ, ◌+◌, ◌*◌, ◌≤◌, ◌<◌}
use lib.ListN.{length, take, drop}
use lib.Ieee.{Float}
use Rattle.float.specs.Operators.{when◌then◌else◌, ◌≻◌}
use Rattle.readings.specs.declared.Spent.{Spent}
use Rattle.readings.specs.Readings.{Paid, paid, within, paying}
use Rattle.readings.proofs.Laws.{within-pure, paid_then_answers, unpaid}
use Rattle.rows.specs.Rows.{rows_of, row_at}
use Rattle.rows.proofs.Flat.{next_row, no_more}
use Rattle.project.specs.declared.Interval.{Interval}
use Rattle.project.specs.Project.{cut, interval}

-- row i is next, v and `rest` readings are left, and with these the rows give `whole`
pub record Turn (ε y : Float) (flat : List Float) (upto i rest : ℕ) (v : Interval) (whole : Paid (Option Interval)) : Type 0 where
  pub gives : within rest (interval ε y (drop i (take upto (rows_of flat))) v) ≡ whole

module _ {ε y : Float} {flat : List Float} {upto i rest : ℕ} {v : Interval} {whole : Paid (Option Interval)} (turn : Turn ε y flat upto i rest v whole) where
  pub ends-crossed : upto ≤ i → v.low ≻ v.high ≡ true → paid None rest ≡ whole
  unfolding interval when◌then◌else◌
  ends-crossed h e = sym (within-pure _ _) ∙ (rw (no_more flat upto i h, e) at turn.gives)

  pub ends : upto ≤ i → v.low ≻ v.high ≡ false → paid (Some v) rest ≡ whole
  unfolding interval when◌then◌else◌
  ends h e = sym (within-pure _ _) ∙ (rw (no_more flat upto i h, e) at turn.gives)

  -- the row's reading is paid first
  module _ (before : i < upto) (fits : 3 * upto ≤ length flat) {call : Result ℕ Spent} (is : call ≡ paying rest 1) where
    opened : within rest (interval ε y (row_at (rows_of flat) i ∷ drop (i + 1) (take upto (rows_of flat))) v) ≡ whole
    opened = rw (next_row flat upto i before fits) at turn.gives

    pub stops : {e : Spent} {answer : Paid (Option Interval)} → call ≡ Err e → IsErrAnd answer (λ y. y ≡ e) → answer ≡ whole
    unfolding interval
    stops was passed = unpaid _ 1 _ is was passed ∙ opened

    module _ {left : ℕ} (was : call ≡ Ok left) where
      pub keeps : {w : Interval} → cut ε y (row_at (rows_of flat) i) v ≡ Some w → Turn ε y flat upto (i + 1) left w whole
      unfolding interval
      keeps e = record { gives = paid_then_answers _ 1 _ is was refl ∙ (rw e at opened) }

      pub empties : cut ε y (row_at (rows_of flat) i) v ≡ None → paid None left ≡ whole
      unfolding interval
      empties e = paid_then_answers _ 1 _ is was (sym (within-pure _ _)) ∙ (rw e at opened)
