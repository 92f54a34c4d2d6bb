-- The deferred scan for the worst row, turn by turn.
use Rattle.std.specs.Prelude.{Some, Result, Ok, Err}
use Rattle.std.specs.Result.{IsErrAnd}
use mathlib.Core.Path.{◌≡◌, refl, sym, ◌∙◌}
use mathlib.Core.Logic.{⊎_elim}
use mathlib.Core.Bool.{true, false, not, ◌||◌}
use mathlib.Core.List.{List}
use Prim.Native.Nat.{ℕ, ◌+◌, ◌*◌, ◌≤◌, ◌<◌}
use borrow.Author.Tests.{not-false}
use lib.ListN.{length, drop}
use lib.Ieee.{Float, lt}
use Rattle.float.specs.Operators.{when◌then◌else◌, ◌⊗◌, ◌≼◌, ◌≻◌}
use Rattle.float.specs.Float.{zero}
use Rattle.float.proofs.Order.{neither, not_above_lem, lt_asym}
use Rattle.float.proofs.Laws.{max_picks, above_size, above_no_size}
use Rattle.float.proofs.Signs.{difference_not_positive}
use Rattle.readings.specs.declared.Spent.{Spent}
use Rattle.readings.specs.Readings.{Counted, read, ◌>>◌, Paid, paid, within, paying}
use Rattle.readings.proofs.Laws.{within-pure, paid_then_answers, unpaid}
use Rattle.rows.specs.Constants.{eps_rounding}
use Rattle.rows.specs.declared.Row.{Row}
use Rattle.rows.specs.declared.Point.{Point}
use Rattle.rows.specs.Rows.{rows_of, row_at, residual, weight}
use Rattle.rows.proofs.Flat.{next_of_all, none_left}
use Rattle.passes.specs.declared.Worst.{Worst}
use Rattle.passes.specs.Passes.{excess, worst}
use Rattle.rows.proofs.Sizes.{rounding_not_negative}

-- ---- an excess above zero

excess_not_positive : (ε : Float) (r : Row) (p : Point) → residual r p ≻ zero || not (zero ≼ ε) ≡ false → excess ε r p ≻ zero ≡ false
unfolding excess
excess_not_positive ε r p h =
    let both = neither (residual r p ≻ zero) (not (zero ≼ ε)) h in
    difference_not_positive (residual r p) _ both.0
    (⊎_elim
    (λ e. rw e (not_above_lem zero ε (not-false (zero ≼ ε) both.1)))
    (λ e. rw e (rounding_not_negative r p))
    (max_picks.one_of_two ε (eps_rounding ⊗ weight r p)))

-- ---- the scan

-- row i of n is next, w is the worst so far, `rest` readings are left, and with these the scan gives `whole`
pub record Scan (ε : Float) (p : Point) (flat : List Float) (n i rest : ℕ) (w : Worst) (whole : Paid Worst) : Type 0 where
  pub all : 3 * n ≡ length flat
  pub gives : within rest (worst ε p (drop i (rows_of flat)) i w) ≡ whole
  pub sized : lt w.excess zero ≡ false

module _ {ε : Float} {p : Point} {flat : List Float} {n i rest : ℕ} {w : Worst} {whole : Paid Worst} (scan : Scan ε p flat n i rest w whole) where
  pub ends : n ≤ i → paid w rest ≡ whole
  unfolding worst
  ends h = sym (within-pure rest w) ∙ (rw (none_left flat n i scan.all h) at scan.gives)

  module _ (inside : i < n) {left : Result ℕ Spent} (reading : left ≡ paying rest 1) where
    abbrev row : Row
    row = row_at (rows_of flat) i

    -- the scan after row i, with the worst so far
    abbrev after : Worst → Counted Worst
    after = worst ε p (drop (i + 1) (rows_of flat)) (i + 1)

    abbrev next : Worst
    next = when excess ε row p ≻ w.excess then record { excess = excess ε row p; row = Some i } else w

    opened : within rest (read 1 >> after next) ≡ whole
    unfolding worst
    opened = rw (next_of_all flat n i scan.all inside) at scan.gives

    pub stops : {e : Spent} {result : Paid Worst} → left ≡ Err e → IsErrAnd result (λ y. y ≡ e) → result ≡ whole
    stops was passed = unpaid rest 1 _ reading was passed ∙ opened

    module _ {over : ℕ} (was : left ≡ Ok over) where
      paid_for : within over (after next) ≡ whole
      paid_for = paid_then_answers rest 1 _ reading was refl ∙ opened

      pub takes : excess ε row p ≻ w.excess ≡ true → Scan ε p flat n (i + 1) over (record { excess = excess ε row p; row = Some i }) whole
      unfolding when◌then◌else◌
      takes e = record {
        all = scan.all;
        gives = rw e at paid_for;
        sized = lt_asym zero (excess ε row p) (above_size (excess ε row p) w.excess scan.sized e);
      }

      pub passes_over : excess ε row p ≻ w.excess ≡ false → Scan ε p flat n (i + 1) over w whole
      unfolding when◌then◌else◌
      passes_over e = record { all = scan.all; gives = rw e at paid_for; sized = scan.sized }

      pub skips : residual row p ≻ zero || not (zero ≼ ε) ≡ false → Scan ε p flat n (i + 1) over w whole
      skips e = passes_over (above_no_size (excess ε row p) w.excess scan.sized (excess_not_positive ε row p e))
