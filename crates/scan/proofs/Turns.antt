-- A scan over rows that lie flat, turn by turn. Assumes nothing.
use mathlib.Core.Path.{◌≡◌, refl, sym, ◌∙◌}
use mathlib.Core.Bool.{Bool, true, false}
use mathlib.Core.List.{List, ◌∷◌}
use Prim.Native.Nat.{ℕ, ◌+◌, ◌*◌, ◌≤◌, ◌<◌}
use lib.ListN.{length, take, drop}
use lib.Ieee.{Float}
use Rattle.std.specs.Prelude.{Result, Ok, Err}
use Rattle.std.specs.Result.{IsErrAnd}
use Rattle.float.specs.Operators.{when◌then◌else◌}
use Rattle.readings.specs.declared.Spent.{Spent}
use Rattle.readings.specs.Readings.{Paid, paid, within, paying}
use Rattle.readings.proofs.Laws.{within-pure, paid_then_answers, unpaid}
use Rattle.rows.specs.declared.Row.{Row}
use Rattle.rows.specs.Rows.{rows_of, row_at}
use Rattle.rows.proofs.Flat.{next_row, no_more}
use Rattle.scan.specs.Scan.{every}

-- row i is next, `rest` readings are left, and with these the scan gives `whole`
pub record Turn (test : Row → Bool) (flat : List Float) (upto i rest : ℕ) (whole : Paid Bool) : Type 0 where
  pub gives : within rest (every test (drop i (take upto (rows_of flat)))) ≡ whole

module _ {test : Row → Bool} {flat : List Float} {upto i rest : ℕ} {whole : Paid Bool} (turn : Turn test flat upto i rest whole) where
  pub ends : upto ≤ i → paid true rest ≡ whole
  unfolding every
  ends h = sym (within-pure _ _) ∙ (rw (no_more flat upto i h) at turn.gives)

  -- the turn's reading is paid first
  module _ (before : i < upto) (fits : 3 * upto ≤ length flat) {call : Result ℕ Spent} (is : call ≡ paying rest 1) where
    opened : within rest (every test (row_at (rows_of flat) i ∷ drop (i + 1) (take upto (rows_of flat)))) ≡ whole
    opened = rw (next_row flat upto i before fits) at turn.gives

    pub stops : {e : Spent} {answer : Paid Bool} → call ≡ Err e → IsErrAnd answer (λ y. y ≡ e) → answer ≡ whole
    unfolding every
    stops was passed = unpaid _ 1 _ is was passed ∙ opened

    module _ {left : ℕ} (was : call ≡ Ok left) where
      pub goes_on : test (row_at (rows_of flat) i) ≡ true → Turn test flat upto (i + 1) left whole
      unfolding every when◌then◌else◌
      goes_on e = record { gives = paid_then_answers _ 1 _ is was refl ∙ (rw e at opened) }

      pub fails : test (row_at (rows_of flat) i) ≡ false → paid false left ≡ whole
      unfolding every when◌then◌else◌
      fails e = paid_then_answers _ 1 _ is was (sym (within-pure _ _)) ∙ (rw e at opened)
