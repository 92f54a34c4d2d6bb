-- The three demands, and what RULES says besides of answers and constants, in the terms of the entries' contracts: `solve` gives back `solve T A flat` of the
-- task T, the allowance A and the floats lent, and `lp_2d_incre_max_y` gives back `lp2d_incre_max_y T flat`. That an entry returns for every input is that its
-- contract has no `requires`.
use Rattle.std.specs.Prelude.{Some, None, Err}
use mathlib.Core.Path.{◌≡◌, ap, ◌∙◌}
use mathlib.Core.Logic.{◌⊎◌, ◌↔◌, ◌≢◌}
use mathlib.Core.Bool.{Bool, true, false, ◌&&◌}
use mathlib.Core.List.{List, [], ◌∷◌}
use Prim.Native.Nat.{ℕ, ◌+◌, ◌*◌, ◌/◌, ◌%◌, ◌^◌, ◌≤◌, ◌<◌}
use native.Mathlib.Nat.{le_refl}
use native.Mathlib.Omega.{arith}
use lib.ListN.{length}
use lib.Ieee.{Float, nan, inf, is_nan}
use Rattle.float.specs.Operators.{◌⊘◌, ◌≺◌, ◌≻◌}
use Rattle.float.specs.Float.{abs}
use Rattle.rows.specs.Constants.{eps_zero, most_rows}
use Rattle.rows.specs.declared.Refusal.{Refusal}
use Rattle.rows.specs.declared.Refusal.TheVariants.{Uneven, TooMany}
use Rattle.rows.specs.Rows.{rows_of, flat_of}
use Rattle.rows.proofs.Refusals.{number_1, number_2}
use Rattle.rows.proofs.Lengths.{length-rows_of}
use Rattle.active.specs.declared.Active.{Active}
use Rattle.active.specs.Active.{no_rows}
use Rattle.step.specs.declared.State.{State}
use Rattle.once.specs.declared.Normalize.TheVariants.{Off}
use Rattle.once.specs.declared.Task.{Task}
use Rattle.solve.specs.declared.Answer.{Answer}
use Rattle.solve.specs.declared.Answer.TheVariants.{Point, Level, Across, Nothing}
use Rattle.solve.specs.declared.Unsolved.TheVariants.{Stopped, Refused}
use Rattle.solve.specs.Solve.{Answered, Solves, all_solves, last_of, count, rows_within, answer, Ended, refusal_of, solve, lp2d_incre_max_y}
use Rattle.solve.specs.Solve.{number, values}
use Rattle.solve.proofs.Refusals as refusals
use Rattle.solve.proofs.Allowance as allowance
use Rattle.solve.proofs.Growing.{rounds}
use Rattle.demands.proofs.Returns as returns
use Rattle.solve.proofs.Count as counting
use Rattle.demands.proofs.Constants.{Constants, constants_hold}
use Rattle.demands.proofs.Examples.{All, examples, examples_hold}
use Rattle.demands.proofs.Named as named
use Rattle.solve.proofs.RowsLeft as left
use Rattle.demands.proofs.Values as of-answers

module _ (T : Task) (flat : List Float) where
  -- how many rows are lent, the solves that they come to, and how many readings these take
  abbrev lent : ℕ
  lent = length flat / 3

  abbrev solves : Solves
  solves = all_solves T (rows_of flat)

  abbrev taken : ℕ
  taken = count solves

  -- ---- 1. "Every entry answers for every input: any floats, any skip, any lengths." "Refusals are numbered; each says what it returns and what it leaves."

  -- an input that comes out even and is not too many rows is taken
  pub takes : refusal_of T flat ≡ None ↔ (length flat % 3 ≡ 0) × (lent ≤ most_rows)
  takes = refusals.refusal_0 T flat

  -- refusal 1, where the floats are not a multiple of 3, and 2, above 4,096 rows
  pub refuses_1 : (A : ℕ) → number (solve T A flat).outcome ≡ 1 ↔ length flat % 3 ≢ 0
  refuses_1 A =
      let exactly = allowance.solve_refuses_by T flat A Uneven (omega arith) number_1 in
      let when = refusals.refusal_1 T flat in
      (λ e. when.0 (exactly.0 e), λ h. exactly.1 (when.1 h))

  pub refuses_2 : (A : ℕ) → number (solve T A flat).outcome ≡ 2 ↔ (length flat % 3 ≡ 0) × (most_rows < lent)
  refuses_2 A =
      let exactly = allowance.solve_refuses_by T flat A TooMany (omega arith) number_2 in
      let when = refusals.refusal_2 T flat in
      (λ e. when.0 (exactly.0 e), λ h. exactly.1 (when.1 h))

  -- either gives its number, and leaves the floats as they were; so does the entry with no allowance
  pub refuses : (A : ℕ) {why : Refusal} → refusal_of T flat ≡ Some why → solve T A flat ≡ record { outcome = Err (Refused why); rows = flat }
  refuses = allowance.solve_refuses T flat

  pub refuses_alike : {why : Refusal} → refusal_of T flat ≡ Some why → lp2d_incre_max_y T flat ≡ record { outcome = Err (Refused why); rows = flat }
  refuses_alike = allowance.lp2d_incre_max_y_refuses T flat

  -- every other input has an answer, which that entry always gives
  pub answers : refusal_of T flat ≡ None → (a : Answer) × (act : Active) × ((lp2d_incre_max_y T flat).outcome ≡ Answered a act taken)
  answers = allowance.lp2d_incre_max_y_answers T flat

  -- so a solve answers, with the count of all its solves, or gives 1, 2 or 3, and no other number; and that entry 1 or 2
  pub answers_or_refuses : (A : ℕ)
      → ((a : Answer) × (act : Active) × ((solve T A flat).outcome ≡ Answered a act taken))
      ⊎ ((0 < number (solve T A flat).outcome) × (number (solve T A flat).outcome < 4))
  answers_or_refuses = allowance.solve_answers_or_refuses T flat

  pub no_other : (A : ℕ) → number (solve T A flat).outcome < 4
  no_other = allowance.solve_no_other T flat

  pub no_other_alike : number (lp2d_incre_max_y T flat).outcome < 3
  no_other_alike = allowance.lp2d_incre_max_y_no_other T flat

  -- "After the seventh solve there is always a return": the source's loop never comes to its `unreachable!()`, and returns what the last solve found. They
  -- are seven at most, and the last does not sit on its box, or is the seventh, whatever that one finds
  pub always_returns : returns.loop T (rows_of flat) ≡ returns.returned (last_of solves)
  always_returns = returns.always_returns T (rows_of flat)

  pub seven_at_most : rounds solves ≤ 7
  seven_at_most = returns.seven_at_most T (rows_of flat)

  pub off_or_seventh : ((last_of solves).saturated ≡ false) ⊎ (rounds solves ≡ 7)
  off_or_seventh = returns.off_or_seventh T (rows_of flat)

  module _ (A : ℕ) {a : Answer} {act : Active} {n : ℕ} (e : (solve T A flat).outcome ≡ Answered a act n) where
    -- "'No row' never reads as a row": a row that is named is one of those lent
    pub first_is_there : {i : ℕ} → act.first ≡ Some i → i < lent
    first_is_there = named.first_is_there T A flat e

    pub second_is_there : {i : ℕ} → act.second ≡ Some i → i < lent
    second_is_there = named.second_is_there T A flat e

    -- what an answer has of x and y is a number
    pub has_numbers : of-answers.Numbers a
    has_numbers = of-answers.has_numbers T A flat e

    -- ---- 2. "Answers, lent rows and active rows equal the Rust's": those of the definition are the Rust's, operation by operation. An answer does not
    -- depend on the allowance, and is that of the source's own entry.

    pub whatever_allowance : solve T A flat ≡ lp2d_incre_max_y T flat
    whatever_allowance = allowance.solve_finishes T flat A (allowance.keeps_within T flat A e).1

    -- so a larger allowance never alters it
    pub larger_allowance : (more : ℕ) → A ≤ more → solve T more flat ≡ solve T A flat
    larger_allowance more h = allowance.solve_larger_allowance T flat A more h e

    -- ---- 3. "and reports exactly that count"

    pub reports_count : n ≡ taken
    reports_count = allowance.solve_reports T flat A e

    -- "For n rows, 2 to 4,096, a solve takes at most 28n³ + 133n² + 70n + 28 rows"
    pub count_bound : n ≤ 28 * lent ^ 3 + 133 * lent ^ 2 + 70 * lent + 28
    count_bound = rw (reports_count, ← length-rows_of flat) (counting.count_bound T (rows_of flat))

    -- with no row or one, the count is the row count
    pub count_few : lent ≤ 1 → n ≡ lent
    count_few few = reports_count ∙ counting.count_few T (rows_of flat) (rw length-rows_of few) ∙ length-rows_of flat

  -- "Given an allowance it stops unfinished exactly when its count without one exceeds it": it gives back the allowance as its count, no active rows, and
  -- the rows as after the last normalisation whose readings all fitted
  pub stops_exactly : (A : ℕ) → number (solve T A flat).outcome ≡ 3 ↔ (refusal_of T flat ≡ None) × (A < taken)
  stops_exactly = allowance.solve_three_exactly T flat

  pub stops : (A : ℕ) → refusal_of T flat ≡ None → A < taken
      → solve T A flat ≡ record { outcome = Err (Stopped A); rows = flat_of (rows_within A (rows_of flat) solves) }
  stops = allowance.solve_stops T flat

  pub last_normalised : (A : ℕ) → refusal_of T flat ≡ None → A < taken
      → (j : ℕ) × ((solve T A flat).rows ≡ flat_of (left.normalised_by j (rows_of flat) solves)) × left.LastToFit A solves j
  last_normalised A fits above =
      let last = left.last_normalised A (rows_of flat) solves in
      (last.0, ap (λ (e : Ended (List Float)). e.rows) (stops A fits above) ∙ ap flat_of last.1, last.2)

  -- "Otherwise answer, rows and active rows are those of 1.2"
  pub finishes : (A : ℕ) → taken ≤ A → solve T A flat ≡ lp2d_incre_max_y T flat
  finishes = allowance.solve_finishes T flat

  -- ---- RULES 2.17: with normalising off the rows are as they were lent, whatever comes back

  pub as_lent : T.normalize ≡ Off → (A : ℕ) → (solve T A flat).rows ≡ flat
  as_lent off A = left.solve_as_lent T off A flat

  pub as_lent_alike : T.normalize ≡ Off → (lp2d_incre_max_y T flat).rows ≡ flat
  as_lent_alike off = rw (← finishes taken (le_refl taken)) (as_lent off taken)

-- ---- RULES 9.1 to 9.3: an answer is one of four, by which of x and y is NaN, and infinite numbers are numbers

module _ (s : State) where
  abbrev x : Float
  x = s.at.x

  abbrev y : Float
  y = s.at.y

  pub four_answers :
      (is_nan x ≡ false → is_nan y ≡ false → answer (Some s) ≡ Point x y)
      × (is_nan x ≡ true → is_nan y ≡ false → answer (Some s) ≡ Level y)
      × (is_nan x ≡ false → is_nan y ≡ true → answer (Some s) ≡ Across x)
      × (is_nan x ≡ true → is_nan y ≡ true → answer (Some s) ≡ Nothing)
  four_answers = of-answers.four_answers s

  pub infinite_numbers : {minus : Bool} → (x ≡ inf minus) ⊎ (y ≡ inf minus) → answer (Some s) ≢ Nothing
  infinite_numbers = of-answers.infinite_numbers s

-- ---- RULES 5.1 to 5.3: no row, and one

module _ (T : Task) where
  pub no_row : lp2d_incre_max_y T [] ≡ record { outcome = Answered Nothing no_rows 0; rows = [] }
  no_row = of-answers.no_row T

  module _ (a b c : Float) where
    pub one_row_level : abs a ≺ eps_zero ≡ true → b ≻ eps_zero ≡ true
        → (bounds : Answer)
        × (lp2d_incre_max_y T (a ∷ b ∷ c ∷ []) ≡ record { outcome = Answered bounds no_rows 1; rows = a ∷ b ∷ c ∷ [] })
        × (values bounds ≡ record { x = nan; y = c ⊘ b })
    one_row_level = of-answers.one_row_level T a b c

    pub one_row_nothing : abs a ≺ eps_zero && b ≻ eps_zero ≡ false
        → lp2d_incre_max_y T (a ∷ b ∷ c ∷ []) ≡ record { outcome = Answered Nothing no_rows 1; rows = a ∷ b ∷ c ∷ [] }
    one_row_nothing = of-answers.one_row_nothing T a b c

-- ---- RULES 3.11: the constants

pub constants : Constants
constants = constants_hold

-- ---- RULES 13: the worked examples

pub worked : All examples
worked = examples_hold
