-- The search over rows that lie flat, turn by turn.
use Rattle.std.specs.Prelude.{Option, Some, Err}
use Rattle.std.specs.Result.{IsErrAnd}
use mathlib.Core.Path.{◌≡◌, sym, ◌∙◌}
use mathlib.Core.List.{List, ◌∷◌}
use Prim.Native.Nat.{ℕ, ◌+◌, ◌*◌, ◌≤◌, ◌<◌}
use lib.ListN.{length, take, drop}
use lib.Ieee.{Float}
use Rattle.readings.specs.declared.Spent.{Spent}
use Rattle.readings.specs.Readings.{Paid, paid, within}
use Rattle.readings.proofs.Laws.{within-pure, goes_on, ends_with_it}
use Rattle.rows.specs.declared.Point.{Point}
use Rattle.rows.specs.Rows.{rows_of, row_at}
use Rattle.rows.proofs.Flat.{next_row, no_more}
use Rattle.step.specs.declared.Frame.{Frame}
use Rattle.step.specs.declared.State.{State}
use Rattle.rebuild.specs.declared.Turn.{Turn}
use Rattle.rebuild.specs.declared.Turn.TheVariants.{On, Won}
use Rattle.rebuild.specs.Rebuild.{turn, rebuild}

-- row i is next with this best so far and `rest` readings left, and with these the search gives `whole`
pub record Searching (s : List Float) (F : Frame) (upto : ℕ) (seed : Point) (floor : Float) (i rest : ℕ) (best : Option State)
    (whole : Paid (Option State)) : Type 0 where
  pub gives : within rest (rebuild (rows_of s) F upto seed floor (drop i (take upto (rows_of s))) i best) ≡ whole

module _ {s : List Float} {F : Frame} {upto : ℕ} {seed : Point} {floor : Float} {i rest : ℕ} {best : Option State} {whole : Paid (Option State)}
    (here : Searching s F upto seed floor i rest best whole) where
  pub search_ends : upto ≤ i → paid best rest ≡ whole
  unfolding rebuild
  search_ends h = sym (within-pure rest best) ∙ (rw (no_more s upto i h) at here.gives)

  module _ (inside : i < upto) (fits : 3 * upto ≤ length s) where
    opened : within rest (rebuild (rows_of s) F upto seed floor (row_at (rows_of s) i ∷ drop (i + 1) (take upto (rows_of s))) i best) ≡ whole
    opened = rw (next_row s upto i inside fits) at here.gives

    module _ {answer : Paid Turn} (turning : answer ≡ within rest (turn (rows_of s) F upto seed floor i (row_at (rows_of s) i) best)) where
      pub search_spent : {e : Spent} {result : Paid (Option State)} → answer ≡ Err e → IsErrAnd result (λ y. y ≡ e) → result ≡ whole
      unfolding rebuild
      search_spent was passed = ends_with_it rest _ _ turning was passed ∙ opened

      pub search_won : {t : State} {l : ℕ} → answer ≡ paid (Won t) l → paid (Some t) l ≡ whole
      unfolding rebuild
      search_won {t} {l} was = sym (goes_on rest _ _ (sym turning ∙ was) ∙ within-pure l (Some t)) ∙ opened

      pub search_goes_on : {found : Option State} {l : ℕ} → answer ≡ paid (On found) l → Searching s F upto seed floor (i + 1) l found whole
      unfolding rebuild
      search_goes_on was = record { gives = sym (goes_on rest _ _ (sym turning ∙ was)) ∙ opened }
