-- What the code's solve over one box says of the definitions: what it took, what it found and the rows that it left.
use mathlib.Core.Path.{◌≡◌, refl, sym, ap, ◌∙◌}
use mathlib.Core.Bool.{Bool}
use mathlib.Core.List.{List}
use Prim.Native.Nat.{ℕ, ◌+◌, ◌≤◌, ◌<◌}
use native.Mathlib.Decide.{dec_le}
use native.Mathlib.Omega.{arith}
use lib.Ieee.{Float}
use Rattle.std.specs.Prelude.{Option, Ok, Err}
use Rattle.readings.specs.Readings.{Counted, pure, ◌>>=◌, Paid, within}
use Rattle.readings.proofs.Laws.{was_paid, was_stopped, within_fits, within_stops}
use Rattle.rows.specs.declared.Row.{Row}
use Rattle.rows.specs.Rows.{rows_of}
use Rattle.step.specs.declared.State.{State}
use Rattle.once.specs.declared.Task.{Task}
use Rattle.once.specs.declared.Round.{Round}
use Rattle.once.specs.Once.{prepared, Once, many, leaves, one_round, solving_once}
use Rattle.once.proofs.Cases.{rows_again}
use Rattle.solve.specs.Solve.{Solves, taken_by, rows_within}
use Rattle.solve.proofs.Growing.{first_of}
use Rattle.solve.proofs.RowsLeft.{untouched, normalised_last}

-- of so many readings a solve leaves l, finds this, on its box or off it, and leaves these rows
pub record Ran (left : ℕ) (o : Once) (rows : List Row) (found : Option State) (l : ℕ) (on : Bool) : Type 0 where
  pub takes : taken_by o + l ≡ left
  pub keeps : o.rows.value ≡ rows
  pub finds : o.run.value ≡ found
  pub sits : o.saturated ≡ on

module _ (T : Task) (flat flat' : List Float) (bound : Float) (left : ℕ) where
  abbrev ready : Counted (List Row)
  ready = prepared T.normalize (rows_of flat)

  abbrev solved : Once
  solved = many T (rows_of flat) bound

  abbrev running : Counted Round
  running = solving_once T T.normalize (rows_of flat) bound

  -- it takes the readings of the definition's, and gives what that finds
  takes_as_defined : running.readings ≡ taken_by solved
  unfolding solving_once one_round many pure ◌>>=◌
  takes_as_defined = omega arith

  gives_as_defined : running.value ≡ record { found = solved.run.value; sits_on_box = solved.saturated }
  unfolding solving_once one_round many pure ◌>>=◌
  gives_as_defined = refl

  -- what an answer says of the solve
  abbrev pub Told : Paid Round → Type 0
  Told (Ok p) = Ran left solved (rows_of flat') p.0.found p.1 p.0.sits_on_box
  Told (Err e) = (left < taken_by solved) × ((os : Solves) → first_of os ≡ solved → rows_within left (rows_of flat) os ≡ rows_of flat')

  module _ (lent : flat' ≡ leaves flat (within left ready)) where
    -- the rows that it leaves
    prepared-rows : solved.rows.readings ≤ left → solved.rows.value ≡ rows_of flat'
    unfolding many leaves
    prepared-rows fits = sym (ap rows_of (lent ∙ ap (leaves flat) (within_fits left ready fits)) ∙ rows_again ready.value)

    rows-as-lent : left < solved.rows.readings → flat' ≡ flat
    unfolding many leaves
    rows-as-lent short = lent ∙ ap (leaves flat) (within_stops left ready short)

    pub told : (got : Paid Round) → got ≡ within left running → Told got
    told (Ok p) e =
        let was = was_paid left running {a = p.0} {k = p.1} (sym e) in
        let given : ◌≡◌ {A = Round} (record { found = solved.run.value; sits_on_box = solved.saturated }) p.0 = sym gives_as_defined ∙ was.1 in
        record {
          takes = omega (arith, was, takes_as_defined);
          keeps = prepared-rows (omega (arith, was, takes_as_defined));
          finds = ap (λ (r : Round). r.found) given;
          sits = ap (λ (r : Round). r.sits_on_box) given;
        }
    told (Err e) said =
        let stops = was_stopped left running (sym said) in
        let short : left < taken_by solved = omega (arith, stops, takes_as_defined) in
        let left_by : (os : Solves) → first_of os ≡ solved → rows_within left (rows_of flat) os ≡ rows_of flat' =
        λ os is.
        elim (dec_le solved.rows.readings left) [
          | yes fits ↦
              normalised_last left (rows_of flat) os (rw is fits) (rw is short) ∙ ap (λ (o : Once). o.rows.value) is ∙ prepared-rows fits
          | no unpaid ↦
              let none : left < solved.rows.readings = omega arith in
              untouched left (rows_of flat) os (rw is none) ∙ ap rows_of (sym (rows-as-lent none))
        ] in
        (short, left_by)
