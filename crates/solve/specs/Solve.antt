-- `lp_2d_incre_max_y_core` and the entries above it, with refusals 1 to 3. Assumes nothing.
use Rattle.std.specs.Prelude.{ℕ, zero, suc, ◌+◌, ◌-◌, Option, Some, None, Result, Ok, Err, List, ltb, length, Float}
use Rattle.std.specs.Float.{nan}
use Rattle.std.specs.Float.Ieee.{is_nan}
use Rattle.float.specs.Operators.{when◌then◌else◌, ◌⊗◌}
use Rattle.rows.specs.Constants.{lp_bound, lp_box_growth, lp_box_growth_steps}
use Rattle.rows.specs.declared.Row.{Row}
use Rattle.rows.specs.declared.Point.{Point}
use Rattle.rows.specs.declared.Refusal.{Refusal}
use Rattle.rows.specs.Refusals as Refusals
use Rattle.rows.specs.Rows.{rows_of, flat_of, refusal}
use Rattle.active.specs.declared.Active.{Active}
use Rattle.active.specs.Active.{no_rows}
use Rattle.active.specs.Collector.{collected}
use Rattle.once.specs.declared.Task.{Task}
use Rattle.step.specs.declared.State.{State}
use Rattle.solve.specs.declared.Answer.{Answer}
use Rattle.solve.specs.declared.Answer.TheVariants as AnswerIs
use Rattle.solve.specs.declared.Solved.{Solved}
use Rattle.solve.specs.declared.Unsolved.{Unsolved}
use Rattle.solve.specs.declared.Unsolved.TheVariants.{Stopped, Refused}
use Rattle.once.specs.Once.{Once, once}

infixr 30 ◌before◌
-- ---- the solves, one for each box

-- one solve or more: each but the last sat on its box, and the last one answers
pub data Solves : Type 0 where
  last : Once → Solves
  ◌before◌ : Once → Solves → Solves

-- each is of the rows as the one before left them, over a larger box. The box grows while the answer sits on it, k times at most; then the solve is the
-- last, whatever it finds
unfoldable pub solves : ℕ → Task → List Row → Float → Solves
solves zero T rows bound = last (once T rows bound)
solves (suc k) T rows bound =
    let first = once T rows bound in
    let more = solves k T first.rows.value (bound ⊗ lp_box_growth) in
    when first.saturated then first before more else last first

unfoldable pub all_solves : Task → List Row → Solves
all_solves T rows = solves lp_box_growth_steps T rows lp_bound

unfoldable pub last_of : Solves → Once
last_of (last o) = o
last_of (o before os) = last_of os

-- the readings of one solve, and of all
abbrev pub taken_by : Once → ℕ
taken_by o = o.rows.readings + o.run.readings

unfoldable pub count : Solves → ℕ
count (last o) = taken_by o
count (o before os) = taken_by o + count os

-- the rows after the last normalisation whose readings all fitted in those left: too few for a solve's rows leave them, and too few for its passes end it
unfoldable pub rows_within : ℕ → List Row → Solves → List Row
rows_within left rows (last o) = when ltb left o.rows.readings then rows else o.rows.value
rows_within left rows (o before os) =
    let rest = rows_within (left - taken_by o) o.rows.value os in
    when ltb left o.rows.readings then rows else when ltb left (taken_by o) then o.rows.value else rest

-- ---- what comes back

-- x and y, as a number each or NaN
unfoldable pub answer : Option State → Answer
answer None = AnswerIs.Nothing
answer (Some s) =
    let x = s.at.x in
    let y = s.at.y in
    when is_nan x then (when is_nan y then AnswerIs.Nothing else AnswerIs.Level y)
    else when is_nan y then AnswerIs.Across x else AnswerIs.Point x y

unfoldable pub active_rows : Option State → Active
active_rows None = no_rows
active_rows (Some s) = s.active

-- an answer with the active rows and the count, or why there is none
abbrev pub Outcome : Type 0
Outcome = Result Solved Unsolved

abbrev pub Answered : Answer → Active → ℕ → Outcome
Answered a act n = Ok (record { answer = a; active = act; count = n })

-- what a call returns, and what it leaves in the lent rows
pub record Ended (A : Type 0) : Type 0 where
  pub outcome : Outcome
  pub rows : A

-- the answer of a solve, with the count of all
unfoldable pub answered : ℕ → Once → Ended (List Row)
answered n o = record { outcome = Answered (answer o.run.value) (active_rows o.run.value) n; rows = o.rows.value }

-- with no allowance: the last solve answers
unfoldable pub finished : Task → List Row → Ended (List Row)
finished T rows = let all = all_solves T rows in answered (count all) (last_of all)

-- within an allowance the same; above it refusal 3
unfoldable pub allowed : Task → ℕ → List Row → Ended (List Row)
allowed T allowance rows =
    let all = all_solves T rows in
    let done = finished T rows in
    when ltb allowance (count all) then record { outcome = Err (Stopped allowance); rows = rows_within allowance rows all } else done

-- ---- the entries, over rows that lie flat: refusals 1 and 2 leave everything as it was

-- which refusal a solve's input gets before a row is read
unfoldable pub refusal_of : Task → List Float → Option Refusal
refusal_of T flat = refusal 3 (length flat)

-- a refusal, which leaves what is lent as it was; and where there is none, what a call comes to
abbrev pub unless_refused : {A : Type 0} → Option Refusal → A → Ended A → Ended A
unless_refused None rows e = e
unless_refused (Some refusal) rows e = record { outcome = Err (Refused refusal); rows = rows }

unfoldable pub taken : Task → (List Row → Ended (List Row)) → List Float → Ended (List Float)
taken T solving flat =
    let e = solving (rows_of flat) in
    unless_refused (refusal_of T flat) flat (record { outcome = e.outcome; rows = flat_of e.rows })

unfoldable pub solve : Task → ℕ → List Float → Ended (List Float)
solve T allowance flat = taken T (allowed T allowance) flat

-- the source's own entry: no allowance, and a collector that is off
unfoldable pub lp2d_incre_max_y : Task → List Float → Ended (List Float)
lp2d_incre_max_y T flat = taken T (finished T) flat

unfoldable pub silent : Outcome → Result Answer Unsolved
silent (Ok got) = Ok got.answer
silent (Err why) = Err why

-- a caller's collector after a solve: cleared by refusal 3, and as it was after 1 and 2
unfoldable pub collector : Option Active → Outcome → Option Active
collector coll (Ok got) = collected coll got.active
collector coll (Err (Stopped count)) = collected coll no_rows
collector coll (Err (Refused refusal)) = coll

-- ---- the number of an outcome's refusal, 0 where it is an answer, and the values of an answer

abbrev pub number_of : Unsolved → ℕ
number_of (Stopped count) = 3
number_of (Refused refusal) = Refusals.number refusal

unfoldable pub number : Outcome → ℕ
number (Ok got) = 0
number (Err why) = number_of why

unfoldable pub values : Answer → Point
values (AnswerIs.Point x y) = record { x = x; y = y }
values (AnswerIs.Level y) = record { x = nan; y = y }
values (AnswerIs.Across x) = record { x = x; y = nan }
values AnswerIs.Nothing = record { x = nan; y = nan }
