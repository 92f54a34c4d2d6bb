-- A byte leaves the lent memory as long as it was.
use mathlib.Core.Path.{◌≡◌, refl, ◌∙◌}
use mathlib.Core.List.{List}
use Prim.Native.Nat.{ℕ, ◌-◌}
use lib.Dec.{ltb}
use lib.ListN.{length, take, length-set}
use lib.Seq.{length_front}
use lib.Ieee.{Float}
use Rattle.std.specs.Prelude.{Option, Some, None}
use Rattle.rows.specs.declared.Refusal.{Refusal}
use Rattle.solve.specs.Solve.{Ended, solve, unless_refused}
use Rattle.solve.proofs.Lengths.{length-solve}
use Rattle.record.specs.Sizes.{rows_at}
use Rattle.record.specs.Record.{body_length, kind, normalize_byte, task, allowance, float_count, refusal, answered}
use Rattle.reader.specs.Reader.{State, state, kept, in_rows, head_with, rows_with, placed, turned, after}
use Rattle.gather.proofs.Choice.{either}
use Rattle.reader.proofs.Byte.{by_after}
use Rattle.gather.proofs.Pushes.{length-rows_in}

kept_by : (why : Option Refusal) (rows : List Float) (e : Ended (List Float)) → length e.rows ≡ length rows
    → length (unless_refused why rows e).rows ≡ length rows
kept_by None rows e same = same
kept_by (Some why) rows e same = refl

length-answered : (head : List ℕ) (rows : List Float) → length (answered head rows).rows ≡ length rows
unfolding answered
length-answered head rows =
    let n = float_count head in
    let solved = (solve (task head) (allowance head) (take n rows)).rows in
    kept_by (refusal (kind head) (body_length head) (normalize_byte head)) rows _
    (length_front rows solved n (length-solve (task head) (allowance head) (take n rows)))

module _ (s : State) (b : ℕ) where
  abbrev Keeps : State → Type 0
  Keeps t = (length t.head ≡ length s.head) × (length t.rows ≡ length s.rows)

  pub length-placed : Keeps (placed s b)
  unfolding placed state head_with rows_with
  length-placed = (
    either (λ (l : List ℕ). length l ≡ length s.head) (ltb s.link.passed (kept s.head)) (length-set s.head s.link.passed b) refl,
    either (λ (l : List Float). length l ≡ length s.rows) (in_rows s) (length-rows_in (s.link.passed - rows_at) s.link.word b s.rows) refl,
  )

  pub length-turned : Keeps (turned (placed s b))
  unfolding turned state
  length-turned = (length-placed.0, length-answered (placed s b).head (placed s b).rows ∙ length-placed.1)

  pub length-after : Keeps (after s b)
  length-after = by_after s b Keeps (refl, refl) (λ _. length-placed) (λ _. length-turned)
