-- What RULES 2 and 10 say of the entries over what is lent, in the terms of their contracts. `solve_rows` gives back `solve_rows T A rows`.
use mathlib.Core.Path.{◌≡◌, refl, ap}
use mathlib.Core.Logic.{inl, inr, ◌↔◌, ◌≢◌}
use mathlib.Core.List.{List, [], ◌∷◌}
use Prim.Native.Nat.{ℕ, ◌<◌}
use native.Mathlib.Omega.{arith}
use lib.ListN.{length}
use Rattle.std.specs.Prelude.{Some, Ok, Err}
use Rattle.rows.specs.Constants.{most_rows}
use Rattle.rows.specs.declared.Row.{Row}
use Rattle.rows.specs.declared.Point.{Point}
use Rattle.rows.specs.declared.Refusal.{Refusal}
use Rattle.rows.specs.declared.Refusal.TheVariants.{Uneven, TooMany}
use Rattle.rows.specs.Rows.{rows_of, flat_of}
use Rattle.rows.proofs.Refusals.{number_1, number_2}
use Rattle.rows.proofs.Lengths.{length-flat_of}
use Rattle.active.specs.declared.Active.{Active}
use Rattle.active.specs.Active.{no_rows}
use Rattle.active.specs.Collector.{held, collected}
use Rattle.once.specs.declared.Task.{Task}
use Rattle.solve.specs.declared.Answer.{Answer}
use Rattle.solve.specs.declared.Unsolved.TheVariants.{Stopped, Refused}
use Rattle.solve.specs.Solve.{Answered, number, refusal_of, allowed, solve, collector}
use Rattle.solve.proofs.Refusals.{refusal_1, refusal_2}
use Rattle.solve.proofs.Allowance.{whether, takes, solve_refuses, solve_refuses_by}
use Rattle.by_value.specs.ByValue.{kept, remains}
use Rattle.lent.specs.Lent.{solve_rows}

-- ---- rows that are records

pub rows_of_floats : (rows : List Row) → rows_of (flat_of rows) ≡ rows
unfolding rows_of flat_of
rows_of_floats [] = refl
rows_of_floats (r ∷ rows) = ap {B = List Row} (λ l. r ∷ l) (rows_of_floats rows)

module _ (T : Task) (A : ℕ) (rows : List Row) where
  -- the same floats are refused above 4,096 rows
  refused_2 : refusal_of T (flat_of rows) ≡ Some TooMany ↔ most_rows < length rows
  refused_2 =
      let floats = refusal_2 T (flat_of rows) in
      (λ e. omega (arith, length-flat_of rows, (floats.0 e).1), λ h. floats.1 (omega (arith, length-flat_of rows), omega (arith, length-flat_of rows)))

  -- what the flat entry answers of the same floats, with its count and active rows, and the floats that it leaves, one row after the other
  pub same_answer : (solve_rows T A rows).outcome ≡ (solve T A (flat_of rows)).outcome
  unfolding solve_rows
  same_answer = refl

  pub same_floats : flat_of (solve_rows T A rows).rows ≡ (solve T A (flat_of rows)).rows
  unfolding solve_rows solve
  same_floats =
      let flat = flat_of rows in
      elim (whether T flat) [
        | inl fits ↦ rw (takes T (allowed T A) flat fits) (ap flat_of (rows_of_floats (allowed T A (rows_of flat)).rows))
        | inr refused ↦ rw (solve_refuses T flat A refused.1) (ap flat_of (rows_of_floats rows))
      ]

  -- refusal 1 is never given
  pub never_one : number (solve_rows T A rows).outcome ≢ 1
  unfolding solve_rows
  never_one e =
      let uneven = (solve_refuses_by T (flat_of rows) A Uneven (omega arith) number_1).0 e in
      (refusal_1 T (flat_of rows)).0 uneven (omega (arith, length-flat_of rows))

  -- refusal 2, above 4,096 rows
  pub refuses_2 : number (solve_rows T A rows).outcome ≡ 2 ↔ most_rows < length rows
  unfolding solve_rows
  refuses_2 =
      let exactly = solve_refuses_by T (flat_of rows) A TooMany (omega arith) number_2 in
      (λ e. refused_2.0 (exactly.0 e), λ h. exactly.1 (refused_2.1 h))

  -- which leaves the rows as they were
  pub refuses : most_rows < length rows → solve_rows T A rows ≡ record { outcome = Err (Refused TooMany); rows = rows }
  unfolding solve_rows
  refuses many = rw (solve_refuses T (flat_of rows) A (refused_2.1 many), rows_of_floats rows)

-- ---- the collector

-- it holds the active rows of an answer, is cleared by refusal 3, and is as it was after 1 and 2
pub kept-answered : (act found : Active) (a : Answer) (n : ℕ) → kept act (Answered a found n) ≡ found
unfolding kept held collected collector
kept-answered act found a n = refl

pub kept-stopped : (act : Active) (n : ℕ) → kept act (Err (Stopped n)) ≡ no_rows
unfolding kept held collected collector
kept-stopped act n = refl

pub kept-refused : (act : Active) (why : Refusal) → kept act (Err (Refused why)) ≡ act
unfolding kept held collector
kept-refused act why = refl

-- recovery leaves the rows of its point there, and any refusal leaves it as it was
pub remains_at : (act found : Active) (p : Point) → remains act (Ok (record { at = p; collector = Some found })) ≡ found
unfolding remains held
remains_at act found p = refl

pub remains-refused : (act : Active) (why : Refusal) → remains act (Err why) ≡ act
unfolding remains
remains-refused act why = refl
