-- What the solves come to where the task's number names no mode, and where it does.
use mathlib.Core.Path.{◌≡◌, refl, sym}
use mathlib.Core.Bool.{true, false}
use mathlib.Core.List.{List}
use Prim.Native.Nat.{◌*◌}
use lib.ListN.{length}
use lib.Ieee.{Float}
use Rattle.std.specs.Prelude.{Option, Some, None, Err}
use Rattle.rows.specs.declared.Row.{Row}
use Rattle.rows.specs.declared.Refusal.{Refusal}
use Rattle.rows.specs.Rows.{flat_of, refusal}
use Rattle.rows.proofs.Lengths.{length-flat_of}
use Rattle.solve.specs.declared.Unsolved.TheVariants.{Refused}
use Rattle.solve.specs.Solve as Solve
use Rattle.solve.specs.Solve.{Ended, solve, lp2d_incre_max_y}
use Rattle.demands.proofs.Demands as of-floats
use Rattle.lent.specs.Lent.{solve_rows}
use Rattle.lent.proofs.Demands.{rows_of_floats}
use Rattle.abi.specs.declared.SolveTask.{SolveTask}
use Rattle.abi.specs.Entries.{task, no_mode, or_ten, refusal_of, unless_refused, solving, solving_rows, solving_source}
use Rattle.abi.proofs.Refusals.{some_refusal, same_refusal}

-- ---- the solves of floats

module _ (t : SolveTask) (flat : List Float) where
  abbrev refused_by : Refusal → Ended (List Float)
  refused_by why = record { outcome = Err (Refused why); rows = flat }

  -- where it names none there is a refusal, which is what they come to
  abbrev Refuses : Ended (List Float) → Type 0
  Refuses e = (why : Refusal) × (refusal_of t flat ≡ Some why) × (e ≡ refused_by why)

  with_no_mode : (e : Ended (List Float)) → no_mode t.normalize ≡ true → Refuses (unless_refused t flat e)
  unfolding unless_refused refusal_of
  with_no_mode e h = let some = some_refusal (Solve.refusal_of (task t) flat) t.normalize h in (some.0, some.1, rw some.1)

  pub solving_refuses : no_mode t.normalize ≡ true → Refuses (solving t flat)
  unfolding solving
  solving_refuses = with_no_mode (solve (task t) t.allowance flat)

  pub source_refuses : no_mode t.normalize ≡ true → Refuses (solving_source t flat)
  unfolding solving_source
  source_refuses = with_no_mode (lp2d_incre_max_y (task t) flat)

  -- where the solve refuses by itself it makes no difference to ask before
  abbrev own_refusal : Option Refusal
  own_refusal = Solve.refusal_of (task t) flat

  with_a_mode : (e : Ended (List Float)) → ((why : Refusal) → own_refusal ≡ Some why → e ≡ refused_by why)
      → no_mode t.normalize ≡ false → unless_refused t flat e ≡ e
  unfolding unless_refused refusal_of
  with_a_mode e refuses h = rw (same_refusal own_refusal t.normalize h) (by_refusal own_refusal refl)
    where
      by_refusal : (own : Option Refusal) → own_refusal ≡ own → Solve.unless_refused own flat e ≡ e
      by_refusal None p = refl
      by_refusal (Some why) p = sym (refuses why p)

  pub solving-solves : no_mode t.normalize ≡ false → solving t flat ≡ solve (task t) t.allowance flat
  unfolding solving
  solving-solves = with_a_mode (solve (task t) t.allowance flat) (λ why. of-floats.refuses (task t) flat t.allowance)

  pub source-solves : no_mode t.normalize ≡ false → solving_source t flat ≡ lp2d_incre_max_y (task t) flat
  unfolding solving_source
  source-solves = with_a_mode (lp2d_incre_max_y (task t) flat) (λ why. of-floats.refuses_alike (task t) flat)

-- ---- and of rows that are records

module _ (t : SolveTask) (rows : List Row) where
  pub rows_refuse : no_mode t.normalize ≡ true
      → (why : Refusal) × (or_ten (refusal 3 (3 * length rows)) t.normalize ≡ Some why)
      × (solving_rows t rows ≡ record { outcome = Err (Refused why); rows = rows })
  unfolding solving_rows refusal_of Solve.refusal_of
  rows_refuse h =
      let refused = solving_refuses t (flat_of rows) h in
      (refused.0, rw length-flat_of at refused.1, rw (refused.2, rows_of_floats rows))

  pub rows-solve : no_mode t.normalize ≡ false → solving_rows t rows ≡ solve_rows (task t) t.allowance rows
  unfolding solving_rows solve_rows
  rows-solve h = rw (solving-solves t (flat_of rows) h)
