-- `rows::normalize` meets its contract. The loop's invariant: the first k rows are normalised, the others as they were, and the two kept norms are the
-- roots of their squares. Assumes nothing.
use mathlib.Core.Path.{◌≡◌, refl, sym, ap, ◌∙◌}
use mathlib.Core.List.{List}
use Prim.Native.Nat.{ℕ, ◌<◌}
use native.Mathlib.Omega.{arith}
use native.Mathlib.Numerals.{add-one}
use lib.ListN.{length, set}
use lib.Ieee.{Float, of_bits}
use Rattle.rounding.specs.Root.{root}
use Rattle.rows.specs.declared.Row.{Row}
use Rattle.rows.specs.declared.Kept.{Kept}
use Rattle.rows.specs.Rows.{rows_of, flat_of, normalized_row, normalized}
use Rattle.rows.specs.Kept.{Keeps}
use Rattle.rows.proofs.Lengths.{length-rows_of}
use Rattle.rows.proofs.Squares.{kept-root}
use Rattle.rows.proofs.Written.{flat_rows, done_none, done_next, done_all}
use Rattle.rows.proofs.normalize.Goals.{else-ordinary, then-ordinary}
use Rattle.rows.proofs.normalize.Goals as goal

-- what a turn leaves: row k normalised in its place, and two kept roots
abbrev Turn : List Float → ℕ → Row → List Float → Kept → Type 0
Turn rows k r rows' kept = (length rows' ≡ length rows) × (rows_of rows' ≡ set (rows_of rows) k (normalized_row r)) × Keeps kept

pub loop-k-init : goal.loop-k-init
unfolding root of_bits
loop-k-init c = (omega arith, sym (done_none normalized_row _), (refl, refl))

pub loop-k-preserved : goal.loop-k-preserved
unfolding normalized_row
loop-k-preserved c =
    let square = c.square_of-square in
    let l = c.loop-k in
    let floats = c.args.rows.now in
    let inside : l.k < length (rows_of floats) = omega (arith, length-rows_of floats) in
    let turn : Turn l.rows l.k c.row_at-r.result c.if-ordinary.rows c.if-ordinary.kept =
    elim c.if-ordinary.branch [
      | then-ordinary w ↦ let kept = w.kept_for-kept.ensures in rw (w.rows-is, w.kept-is) (
        w.put_row.ensures.as_long,
        w.put_row.ensures.stored ∙ rw (w.scaled-u.ensures, kept-root _ _ _ _ kept.0 kept.1.0, square.ensures),
        kept.1,
      )
      | else-ordinary w ↦ rw (w.rows-is, w.kept-is) (
        w.put_row-else-ordinary.ensures.as_long,
        w.put_row-else-ordinary.ensures.stored ∙ rw (w.scaled-u-else-ordinary.ensures, w.root-norm.ensures, square.ensures),
        l.invariant.2,
      )
    ] in (
      turn.0 ∙ l.invariant.0,
      turn.1 ∙ rw (c.row_at-r.ensures, l.invariant.1, add-one l.k) (done_next normalized_row l.k (rows_of floats) inside),
      turn.2,
    )

pub returns : goal.returns
unfolding normalized
returns c =
    let args = c.args in
    let l = c.loop-k in
    let all : l.k ≡ length (rows_of args.rows.now) = omega (arith, length-rows_of args.rows.now) in
    sym (flat_rows l.rows args.n (omega arith)) ∙ ap flat_of (l.invariant.1 ∙ rw all (done_all normalized_row (rows_of args.rows.now)))
