-- The laws of the allowance: a solve that keeps within it is the solve without one, and refusal 3 is given exactly above it. First over
-- rows, then for the entries over flat floats.
use mathlib.Core.Path.{◌≡◌, refl, sym, ap, ◌∙◌}
use mathlib.Core.Logic.{◌⊎◌, inl, inr, ⊎_elim, ◌↔◌, ◌≢◌}
use mathlib.Core.List.{List}
use Prim.Native.Nat.{ℕ, ◌≤◌, ◌<◌}
use native.Mathlib.Decide.{dec_le}
use native.Mathlib.Nat.{lt_of_not-le}
use native.Mathlib.Omega.{arith}
use borrow.Author.Tests.{lt-ltb, le-ltb}
use lib.Ieee.{Float}
use Rattle.float.specs.Operators.{when◌then◌else◌}
use Rattle.std.specs.Prelude.{Option, Some, None, Err}
use Rattle.rows.specs.declared.Row.{Row}
use Rattle.rows.specs.declared.Refusal.{Refusal}
use Rattle.rows.specs.Refusals as Refusals
use Rattle.rows.proofs.Refusals.{numbered}
use Rattle.rows.specs.Rows.{rows_of, flat_of}
use Rattle.active.specs.declared.Active.{Active}
use Rattle.once.specs.declared.Task.{Task}
use Rattle.solve.specs.declared.Answer.{Answer}
use Rattle.solve.specs.declared.Solved.{Solved}
use Rattle.solve.specs.declared.Unsolved.TheVariants.{Stopped, Refused}
use Rattle.solve.specs.Solve.{Answered, all_solves, last_of, count, rows_within, answer, active_rows, Ended, answered, finished, allowed}
use Rattle.solve.specs.Solve.{refusal_of, taken, solve, lp2d_incre_max_y, number}
use Rattle.solve.proofs.Refusals.{no_other}

-- ---- over rows

module _ (T : Task) (rows : List Row) where
  -- without an allowance there is always an answer, with the count of all the solves
  finished_answers : (a : Answer) × (act : Active) × ((finished T rows).outcome ≡ Answered a act (count (all_solves T rows)))
  unfolding finished answered
  finished_answers = let found = (last_of (all_solves T rows)).run.value in (answer found, active_rows found, refl)

  pub finishes : (A : ℕ) → count (all_solves T rows) ≤ A → allowed T A rows ≡ finished T rows
  unfolding allowed when◌then◌else◌
  finishes A within = rw (le-ltb A (count (all_solves T rows)) within)

  pub stops : (A : ℕ) → A < count (all_solves T rows) → allowed T A rows ≡ record { outcome = Err (Stopped A); rows = rows_within A rows (all_solves T rows) }
  unfolding allowed when◌then◌else◌
  stops A above = rw (lt-ltb A (count (all_solves T rows)) above)

  number_above : (A : ℕ) → A < count (all_solves T rows) → number (allowed T A rows).outcome ≡ 3
  unfolding number
  number_above A above = rw (stops A above)

  above_where_refused : (A : ℕ) → number (allowed T A rows).outcome ≢ 0 → A < count (all_solves T rows)
  unfolding number
  above_where_refused A refused = lt_of_not-le (λ within. refused (rw (finishes A within, finished_answers.2)))

  -- refusal 3 is given exactly above the allowance
  three_exactly : (A : ℕ) → number (allowed T A rows).outcome ≡ 3 ↔ A < count (all_solves T rows)
  three_exactly A = (λ three. above_where_refused A (omega arith), number_above A)

-- ---- over flat floats

-- a number that is one refusal's alone tells the refusal
has_code : (w : Option Refusal) (why : Refusal) → 0 < Refusals.number why → ((r : Refusal) → Refusals.number r ≡ Refusals.number why → r ≡ why)
    → Refusals.code w ≡ Refusals.number why → w ≡ Some why
has_code None why some alone e = absurd (omega (arith, some, e))
has_code (Some r) why some alone e = ap Some (alone r e)

-- refused, or not
abbrev Whether : Task → List Float → Type 0
Whether T flat = (refusal_of T flat ≡ None) ⊎ ((why : Refusal) × (refusal_of T flat ≡ Some why))

pub whether : (T : Task) (flat : List Float) → Whether T flat
whether T flat = go (refusal_of T flat) refl
  where
    go : (w : Option Refusal) → refusal_of T flat ≡ w → Whether T flat
    go None e = inl e
    go (Some why) e = inr (why, e)

module _ (T : Task) (solving : List Row → Ended (List Row)) (flat : List Float) where
  pub refuses : {why : Refusal} → refusal_of T flat ≡ Some why → taken T solving flat ≡ record { outcome = Err (Refused why); rows = flat }
  unfolding taken
  refuses refused = rw refused

  pub takes : refusal_of T flat ≡ None
      → taken T solving flat ≡ record { outcome = (solving (rows_of flat)).outcome; rows = flat_of (solving (rows_of flat)).rows }
  unfolding taken
  takes fits = rw fits

  taken_alike : (other : List Row → Ended (List Row)) → solving (rows_of flat) ≡ other (rows_of flat) → taken T solving flat ≡ taken T other flat
  unfolding taken
  taken_alike other e = rw e

module _ (T : Task) (flat : List Float) where
  pub lp2d_incre_max_y_refuses : {why : Refusal} → refusal_of T flat ≡ Some why → lp2d_incre_max_y T flat ≡ record { outcome = Err (Refused why); rows = flat }
  unfolding lp2d_incre_max_y
  lp2d_incre_max_y_refuses = refuses T (finished T) flat

  pub lp2d_incre_max_y_answers : refusal_of T flat ≡ None
      → (a : Answer) × (act : Active) × ((lp2d_incre_max_y T flat).outcome ≡ Answered a act (count (all_solves T (rows_of flat))))
  unfolding lp2d_incre_max_y
  lp2d_incre_max_y_answers fits = rw (takes T (finished T) flat fits) (finished_answers T (rows_of flat))

  pub solve_refuses : (A : ℕ) {why : Refusal} → refusal_of T flat ≡ Some why → solve T A flat ≡ record { outcome = Err (Refused why); rows = flat }
  unfolding solve
  solve_refuses A = refuses T (allowed T A) flat

  -- the source's own entry is the solve within any allowance that is large enough
  pub solve_finishes : (A : ℕ) → count (all_solves T (rows_of flat)) ≤ A → solve T A flat ≡ lp2d_incre_max_y T flat
  unfolding solve lp2d_incre_max_y
  solve_finishes A within = taken_alike T (allowed T A) flat (finished T) (finishes T (rows_of flat) A within)

  pub solve_stops : (A : ℕ) → refusal_of T flat ≡ None → A < count (all_solves T (rows_of flat))
      → solve T A flat ≡ record { outcome = Err (Stopped A); rows = flat_of (rows_within A (rows_of flat) (all_solves T (rows_of flat))) }
  unfolding solve
  solve_stops A fits above = takes T (allowed T A) flat fits ∙ rw (stops T (rows_of flat) A above)

  outcome_where_taken : (A : ℕ) → refusal_of T flat ≡ None → (solve T A flat).outcome ≡ (allowed T A (rows_of flat)).outcome
  unfolding solve
  outcome_where_taken A fits = rw (takes T (allowed T A) flat fits)

  number_where_refused : (A : ℕ) {why : Refusal} → refusal_of T flat ≡ Some why → number (solve T A flat).outcome ≡ Refusals.number why
  unfolding number
  number_where_refused A refused = rw (solve_refuses A refused)

  refused_below_3 : {why : Refusal} → refusal_of T flat ≡ Some why → Refusals.number why < 3
  refused_below_3 refused = omega (arith, rw refused at (no_other T flat))

  -- any number but 1 and 2 comes from rows that were taken
  taken_where : (A : ℕ) → number (solve T A flat).outcome ≢ 1 → number (solve T A flat).outcome ≢ 2 → refusal_of T flat ≡ None
  taken_where A not-1 not-2 =
      elim (whether T flat) [
        | inl fits ↦ fits
        | inr refused ↦ absurd (omega (arith, number_where_refused A refused.1, numbered refused.0, refused_below_3 refused.1))
      ]

  -- refusals 1 and 2 are given exactly where the floats are refused
  pub solve_refuses_exactly : (A k : ℕ) → 0 < k → k < 3 → number (solve T A flat).outcome ≡ k ↔ Refusals.code (refusal_of T flat) ≡ k
  solve_refuses_exactly A k some few =
      elim (whether T flat) [
        | inl fits ↦ (
          λ e.
              let same = sym (ap number (outcome_where_taken A fits)) ∙ e in
              let three = number_above T (rows_of flat) A (above_where_refused T (rows_of flat) A (λ zero. omega (arith, same, zero))) in
              absurd (omega (arith, same, three)),
          λ e. absurd (omega (arith, rw fits at e)),
        )
        | inr refused ↦
            let given : number (solve T A flat).outcome ≡ Refusals.code (refusal_of T flat) = rw refused.1 (number_where_refused A refused.1) in
            (λ e. sym given ∙ e, λ e. given ∙ e)
      ]

  -- that is, where the refusal alone has the number, by that refusal
  pub solve_refuses_by : (A : ℕ) (why : Refusal) → Refusals.number why < 3 → ((r : Refusal) → Refusals.number r ≡ Refusals.number why → r ≡ why)
      → number (solve T A flat).outcome ≡ Refusals.number why ↔ refusal_of T flat ≡ Some why
  solve_refuses_by A why few alone =
      let exactly = solve_refuses_exactly A (Refusals.number why) (numbered why) few in (
        λ e. has_code (refusal_of T flat) why (numbered why) alone (exactly.0 e),
        λ e. exactly.1 (ap Refusals.code e),
      )

  pub solve_three_exactly : (A : ℕ) → number (solve T A flat).outcome ≡ 3 ↔ (refusal_of T flat ≡ None) × (A < count (all_solves T (rows_of flat)))
  solve_three_exactly A = (
    λ three.
        let fits = taken_where A (omega arith) (omega arith) in
        (fits, (three_exactly T (rows_of flat) A).0 (sym (ap number (outcome_where_taken A fits)) ∙ three)),
    λ both. ap number (outcome_where_taken A both.0) ∙ (three_exactly T (rows_of flat) A).1 both.1,
  )

  -- a solve answers, or gives refusal 1, 2 or 3
  pub solve_answers_or_refuses : (A : ℕ)
      → ((a : Answer) × (act : Active) × ((solve T A flat).outcome ≡ Answered a act (count (all_solves T (rows_of flat)))))
      ⊎ ((0 < number (solve T A flat).outcome) × (number (solve T A flat).outcome < 4))
  solve_answers_or_refuses A =
      elim (whether T flat) [
        | inl fits ↦
            elim (dec_le (count (all_solves T (rows_of flat))) A) [
              | yes within ↦ inl (rw (solve_finishes A within) (lp2d_incre_max_y_answers fits))
              | no above ↦ let three = (solve_three_exactly A).1 (fits, omega arith) in inr (omega arith, omega arith)
            ]
        | inr refused ↦
            let number_is = number_where_refused A refused.1 in
            inr (omega (arith, number_is, numbered refused.0), omega (arith, number_is, refused_below_3 refused.1))
      ]

  -- and no other number
  pub solve_no_other : (A : ℕ) → number (solve T A flat).outcome < 4
  unfolding number
  solve_no_other A = ⊎_elim (λ answers. rw answers.2 (omega arith)) (λ refuses. refuses.1) (solve_answers_or_refuses A)

  pub lp2d_incre_max_y_no_other : number (lp2d_incre_max_y T flat).outcome < 3
  unfolding number
  lp2d_incre_max_y_no_other =
      elim (whether T flat) [
        | inl fits ↦ rw (lp2d_incre_max_y_answers fits).2 (omega arith)
        | inr refused ↦ rw (lp2d_incre_max_y_refuses refused.1) (refused_below_3 refused.1)
      ]

  -- an answer keeps within the allowance
  pub keeps_within : (A : ℕ) {a : Answer} {act : Active} {n : ℕ} → (solve T A flat).outcome ≡ Answered a act n
      → (refusal_of T flat ≡ None) × (count (all_solves T (rows_of flat)) ≤ A)
  unfolding number
  keeps_within A e =
      let fits = taken_where A (omega (arith, ap number e)) (omega (arith, ap number e)) in
      let not_above_lem : ¬ (A < count (all_solves T (rows_of flat))) = λ above. omega (arith, (solve_three_exactly A).1 (fits, above), ap number e) in
      (fits, omega arith)

  -- so it is the same under any larger one
  pub solve_larger_allowance : (A A' : ℕ) → A ≤ A' → {a : Answer} {act : Active} {n : ℕ} → (solve T A flat).outcome ≡ Answered a act n
      → solve T A' flat ≡ solve T A flat
  solve_larger_allowance A A' h e = let within = (keeps_within A e).1 in solve_finishes A' (omega arith) ∙ sym (solve_finishes A within)

  -- and reports the count of all the solves
  pub solve_reports : (A : ℕ) {a : Answer} {act : Active} {n : ℕ} → (solve T A flat).outcome ≡ Answered a act n → n ≡ count (all_solves T (rows_of flat))
  solve_reports A {a} {act} {n} e =
      let within = keeps_within A e in
      let without = lp2d_incre_max_y_answers within.0 in
      let finished = ap (λ (x : Ended (List Float)). x.outcome) (solve_finishes A within.1) ∙ without.2 in
      let same : Answered a act n ≡ Answered without.0 without.1 (count (all_solves T (rows_of flat))) = sym e ∙ finished in
      let solved : ◌≡◌ {A = Solved} (record { answer = a; active = act; count = n })
      (record { answer = without.0; active = without.1; count = count (all_solves T (rows_of flat)) }) = cc in
      ap (λ (s : Solved). s.count) solved
