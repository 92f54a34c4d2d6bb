-- What is said of the entries in words and is no equation of their contracts: that a row's flag is true exactly where there is a row, when refusal 10 is given
-- and what it leaves, and which numbers a solve gives. Of a task t and the floats or rows lent the entries answer `solved (solving t flat).outcome`,
-- `solved (solving_rows t rows).outcome` and `source (silent (solving_source t flat).outcome)`.
use mathlib.Core.Path.{◌≡◌, refl, sym, ap, ◌∙◌}
use mathlib.Core.Bool.{Bool, true, false}
use mathlib.Core.Logic.{◌⊎◌, inl, inr, ◌↔◌}
use mathlib.Core.List.{List}
use Prim.Native.Nat.{ℕ, ◌≤◌, ◌<◌}
use native.Mathlib.Omega.{arith}
use borrow.Author.Tests.{lt-ltb, ltb-true}
use lib.Dec.{ltb}
use lib.Ieee.{Float}
use Rattle.std.specs.Prelude.{Option, Some, None, Ok, Err}
use Rattle.float.specs.Operators.{when◌then◌else◌}
use Rattle.rows.specs.declared.Row.{Row}
use Rattle.rows.specs.declared.Refusal.{Refusal}
use Rattle.rows.specs.declared.Refusal.TheVariants.{Malformed}
use Rattle.rows.specs.Refusals as Refusals
use Rattle.rows.specs.Refusals.{code}
use Rattle.rows.specs.Rows.{flat_of}
use Rattle.rows.proofs.Refusals.{number_10}
use Rattle.active.specs.declared.Active.{Active}
use Rattle.solve.specs.declared.Answer.{Answer}
use Rattle.solve.specs.declared.Answer.TheVariants as AnswerIs
use Rattle.solve.specs.declared.Unsolved.TheVariants.{Stopped, Refused}
use Rattle.solve.specs.Solve as Solve
use Rattle.solve.specs.Solve.{Outcome, Answered, Ended, number, silent, solve, lp2d_incre_max_y}
use Rattle.solve.proofs.Refusals as unsolved_by
use Rattle.demands.proofs.Demands as of-floats
use Rattle.lent.proofs.Demands.{rows_of_floats}
use Rattle.abi.specs.declared.SolveTask.{SolveTask}
use Rattle.abi.specs.Records.{has_row, row_number, refused, with_rows, unsolved, answered, solved, source}
use Rattle.abi.specs.Entries.{task, no_mode, or_ten, refusal_of, unless_refused, solving, solving_rows, solving_source}

-- ---- "no row" is never a number: a flag is true exactly where there is a row, whose number then stands beside it

flag_tells : (s : Option ℕ) → has_row s ≡ true ↔ s ≡ Some (row_number s)
unfolding has_row row_number
flag_tells None = (λ e. cc, λ e. cc)
flag_tells (Some k) = (λ e. refl, λ e. refl)

module _ (a : Answer) (act : Active) (n : ℕ) where
  pub first_flag : (solved (Answered a act n)).has_first ≡ true ↔ act.first ≡ Some (solved (Answered a act n)).first
  unfolding solved with_rows
  first_flag = flag_tells act.first

  pub second_flag : (solved (Answered a act n)).has_second ≡ true ↔ act.second ≡ Some (solved (Answered a act n)).second
  unfolding solved with_rows
  second_flag = flag_tells act.second

-- ---- a record's refusal is its outcome's number

answer_has_none : (a : Answer) → (answered a).refusal ≡ 0
unfolding answered
answer_has_none (AnswerIs.Point x y) = refl
answer_has_none (AnswerIs.Level y) = refl
answer_has_none (AnswerIs.Across x) = refl
answer_has_none AnswerIs.Nothing = refl

solved-number : (o : Outcome) → (solved o).refusal ≡ number o
unfolding solved unsolved with_rows refused number
solved-number (Ok got) = answer_has_none got.answer
solved-number (Err (Stopped n)) = refl
solved-number (Err (Refused why)) = refl

source-number : (o : Outcome) → (source (silent o)).refusal ≡ number o
unfolding source silent refused number
source-number (Ok got) = answer_has_none got.answer
source-number (Err why) = refl

-- ---- refusal 10 is given exactly where neither 1 nor 2 is and the task's number is above 1, and leaves the rows as they were

module _ (t : SolveTask) (flat : List Float) where
  abbrev own : Option Refusal
  own = Solve.refusal_of (task t) flat

  abbrev Ten : Type 0
  Ten = (own ≡ None) × (1 < t.normalize)

  ten_is : refusal_of t flat ≡ Some Malformed ↔ Ten
  unfolding refusal_of or_ten no_mode when◌then◌else◌
  ten_is = (by_tests own (ltb 1 t.normalize) refl refl, λ h. rw (h.0, lt-ltb 1 t.normalize h.1))
    where
      by_mode : (ten : Bool) → ltb 1 t.normalize ≡ ten → (when ten then Some Malformed else None) ≡ Some Malformed → 1 < t.normalize
      by_mode true q e = ltb-true 1 t.normalize q
      by_mode false q e = absurd (cc)

      by_tests : (w : Option Refusal) (ten : Bool) → own ≡ w → ltb 1 t.normalize ≡ ten → or_ten w t.normalize ≡ Some Malformed → Ten
      by_tests None ten p q e = (p, by_mode ten q (rw q at e))
      by_tests (Some why) ten p q e = absurd (omega (arith, unsolved_by.no_other (task t) flat, ap code (p ∙ e)))

  exactly : (e : Ended (List Float)) → number e.outcome < 4
      → (number (unless_refused t flat e).outcome ≡ 10 ↔ Ten) × (Ten → (unless_refused t flat e).rows ≡ flat)
  unfolding unless_refused number
  exactly e below = ((λ h. ten_is.0 (by_refusal (refusal_of t flat) refl h), λ h. rw (ten_is.1 h)), λ h. rw (ten_is.1 h))
    where
      by_refusal : (w : Option Refusal) → refusal_of t flat ≡ w → number (Solve.unless_refused w flat e).outcome ≡ 10 → refusal_of t flat ≡ Some Malformed
      by_refusal None p h = absurd (omega (arith, below))
      by_refusal (Some why) p h = p ∙ ap Some (number_10 why h)

  pub ten_exactly : ((solved (solving t flat).outcome).refusal ≡ 10 ↔ Ten) × (Ten → (solving t flat).rows ≡ flat)
  unfolding solving
  ten_exactly = rw (solved-number (solving t flat).outcome) (exactly (solve (task t) t.allowance flat) (of-floats.no_other (task t) flat t.allowance))

  pub source_ten_exactly : ((source (silent (solving_source t flat).outcome)).refusal ≡ 10 ↔ Ten) × (Ten → (solving_source t flat).rows ≡ flat)
  unfolding solving_source
  source_ten_exactly =
      rw (source-number (solving_source t flat).outcome) (exactly (lp2d_incre_max_y (task t) flat) (omega (arith, of-floats.no_other_alike (task t) flat)))

  -- ---- a solve answers, or gives 1, 2, 3 or 10, and no other number; the source's own entry does not give 3

  module _ (most : ℕ) (two : 3 ≤ most) where
    abbrev Numbered : ℕ → Type 0
    Numbered k = (k < most) ⊎ (k ≡ 10)

    refusal_numbered : {why : Refusal} → refusal_of t flat ≡ Some why → Numbered (Refusals.number why)
    unfolding refusal_of or_ten when◌then◌else◌
    refusal_numbered {why} = by_own own (no_mode t.normalize) refl refl
      where
        by_own : (w : Option Refusal) (ten : Bool) → own ≡ w → no_mode t.normalize ≡ ten → or_ten w t.normalize ≡ Some why → Numbered (Refusals.number why)
        by_own None true p q e = inr (ap code (sym (rw q at e)))
        by_own None false p q e = absurd (let none : ◌≡◌ {A = Option Refusal} None (Some why) = rw q at e in cc)
        by_own (Some own_why) ten p q e = inl (omega (arith, unsolved_by.no_other (task t) flat, ap code (p ∙ e)))

    numbered : (e : Ended (List Float)) → number e.outcome < most → Numbered (number (unless_refused t flat e).outcome)
    unfolding unless_refused number
    numbered e below = by_refusal (refusal_of t flat) refl
      where
        by_refusal : (w : Option Refusal) → refusal_of t flat ≡ w → Numbered (number (Solve.unless_refused w flat e).outcome)
        by_refusal None p = inl below
        by_refusal (Some why) p = refusal_numbered p

  pub no_other : let k = (solved (solving t flat).outcome).refusal in (k < 4) ⊎ (k ≡ 10)
  unfolding solving
  no_other = rw solved-number (numbered 4 (omega arith) (solve (task t) t.allowance flat) (of-floats.no_other (task t) flat t.allowance))

  pub source_no_other : let k = (source (silent (solving_source t flat).outcome)).refusal in (k < 3) ⊎ (k ≡ 10)
  unfolding solving_source
  source_no_other = rw source-number (numbered 3 (omega arith) (lp2d_incre_max_y (task t) flat) (of-floats.no_other_alike (task t) flat))

pub rows_ten_exactly : (t : SolveTask) (rows : List Row)
    → ((solved (solving_rows t rows).outcome).refusal ≡ 10 ↔ Ten t (flat_of rows)) × (Ten t (flat_of rows) → (solving_rows t rows).rows ≡ rows)
unfolding solving_rows
rows_ten_exactly t rows =
    let flat = ten_exactly t (flat_of rows) in
    (flat.0, λ h. rw (flat.1 h) (rows_of_floats rows))

pub rows_no_other : (t : SolveTask) (rows : List Row) → let k = (solved (solving_rows t rows).outcome).refusal in (k < 4) ⊎ (k ≡ 10)
unfolding solving_rows
rows_no_other t rows = no_other t (flat_of rows)
