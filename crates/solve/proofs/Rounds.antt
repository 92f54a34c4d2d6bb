-- The law by which the loop of `solve::many` follows the definition: what the solves still to go come to with the readings left, and one fact for each way
-- out of a turn.
use Rattle.std.specs.Prelude.{Option, Ok, Err}
use mathlib.Core.Path.{◌≡◌, refl, sym, ap, subst, ◌∙◌}
use mathlib.Core.Logic.{◌⊎◌, ⊎_map}
use mathlib.Core.Bool.{Bool, true, false}
use mathlib.Core.List.{List, [], ◌∷◌}
use Prim.Native.Nat.{ℕ, suc, ◌+◌, ◌-◌, ◌*◌, ◌≤◌, ◌<◌}
use native.Mathlib.Omega.{arith}
use lib.Dec.{ltb}
use borrow.Author.Tests.{lt-ltb, le-ltb, ltb-true, ltb-false}
use lib.ListN.{length}
use lib.Ieee.{Float}
use Rattle.float.specs.Operators.{when◌then◌else◌, ◌⊗◌}
use Rattle.readings.specs.Readings.{Paid, within}
use Rattle.rows.specs.Constants.{lp_bound, lp_box_growth}
use Rattle.rows.specs.declared.Row.{Row}
use Rattle.rows.specs.Rows.{rows_of, flat_of}
use Rattle.rows.proofs.Lengths.{length-rows_of}
use Rattle.rows.proofs.Written.{flat_rows}
use Rattle.step.specs.declared.State.{State}
use Rattle.once.specs.declared.Task.{Task}
use Rattle.once.specs.declared.Round.{Round}
use Rattle.once.specs.Once.{Once, prepared, many, once, leaves, solving_once}
use Rattle.solve.specs.Solve.{Solves, last, ◌before◌, solves, all_solves, last_of, taken_by, count, rows_within, answer, active_rows}
use Rattle.solve.specs.declared.Unsolved.TheVariants.{Stopped}
use Rattle.solve.specs.Solve.{Outcome, Answered, Ended, answered, finished, allowed}
use Rattle.solve.proofs.Growing.{first_of, first_counted, is_first, ends, grows}
use Rattle.solve.proofs.RowsLeft.{normalised_on}
use Rattle.solve.proofs.Answers.{Ran, Told, told}

-- ---- some solves, with `left` readings left of the allowance A

module _ (A : ℕ) where
  unfoldable pub ending : ℕ → List Row → Solves → Ended (List Row)
  ending left rows os =
      when ltb left (count os) then record { outcome = Err (Stopped A); rows = rows_within left rows os } else answered (A - left + count os) (last_of os)

  module _ (left : ℕ) (rows : List Row) (os : Solves) where
    ends-stopped : left < count os → ending left rows os ≡ record { outcome = Err (Stopped A); rows = rows_within left rows os }
    unfolding ending when◌then◌else◌
    ends-stopped above = rw (lt-ltb left (count os) above)

    ends-answered : count os ≤ left → ending left rows os ≡ answered (A - left + count os) (last_of os)
    unfolding ending when◌then◌else◌
    ends-answered within = rw (le-ltb left (count os) within)

  -- the first of them came to its end
  module _ {left l : ℕ} (enough : left ≤ A) (rows : List Row) {o : Once} {kept : List Row} {found : Option State} {on : Bool}
      (r : Ran left o kept found l on) where
    last_answers : ending left rows (last o) ≡ record { outcome = Answered (answer found) (active_rows found) (A - l); rows = kept }
    unfolding count last_of answered
    last_answers =
        let taken : A - left + taken_by o ≡ A - l = omega (arith, r.takes) in
        ends-answered left rows (last o) (omega (arith, r.takes)) ∙ rw (taken, r.finds, r.keeps)

    next_goes_on : (os : Solves) → ending left rows (o before os) ≡ ending l kept os
    unfolding count last_of
    next_goes_on os = by_test (ltb l (count os)) refl
      where
        by_test : (b : Bool) → ltb l (count os) ≡ b → ending left rows (o before os) ≡ ending l kept os
        by_test true d =
            let above = ltb-true l (count os) d in
            let over : left - taken_by o ≡ l = omega (arith, r.takes) in
            ends-stopped left rows (o before os) (omega (arith, r.takes))
            ∙ rw (normalised_on left rows o os (omega (arith, r.takes)), over, r.keeps) (sym (ends-stopped l kept os above))
        by_test false d =
            let within = ltb-false l (count os) d in
            let taken : A - left + count (o before os) ≡ A - l + count os = omega (arith, r.takes) in
            ends-answered left rows (o before os) (omega (arith, r.takes)) ∙ rw taken (sym (ends-answered l kept os within))

-- ---- the solves of a task

once-many : (T : Task) (rows : List Row) (bound : Float) → 2 ≤ length rows → once T rows bound ≡ many T rows bound
unfolding once
once-many T [] bound two = absurd (omega arith)
once-many T (r ∷ []) bound two = absurd (omega arith)
once-many T (r ∷ s ∷ rows) bound two = refl

module _ (T : Task) (A : ℕ) where
  -- the box may still grow k times
  unfoldable pub from : ℕ → ℕ → List Row → Float → Ended (List Row)
  from k left rows bound = ending A left rows (solves k T rows bound)

  pub from_all : (rows : List Row) → from 6 A rows lp_bound ≡ allowed T A rows
  unfolding from ending allowed finished all_solves
  from_all rows = let taken : A - A + count (solves 6 T rows lp_bound) ≡ count (solves 6 T rows lp_bound) = omega arith in rw taken

  module _ (k left : ℕ) (rows : List Row) (bound : Float) (two : 2 ≤ length rows) where
    abbrev first : Once
    first = many T rows bound

    -- too few are left for the first
    first_stops : {kept : List Row} → (left < taken_by first) × ((os : Solves) → first_of os ≡ first → rows_within left rows os ≡ kept)
        → from k left rows bound ≡ record { outcome = Err (Stopped A); rows = kept }
    unfolding from
    first_stops s =
        let all = solves k T rows bound in
        let is : first_of all ≡ first = is_first T rows bound k ∙ once-many T rows bound two in
        ends-stopped A left rows all (omega (arith, rw is at (first_counted all), s.0)) ∙ rw (s.1 all is)

    module _ (enough : left ≤ A) {kept : List Row} {found : Option State} {l : ℕ} {on : Bool} (r : Ran left first kept found l on) where
      sits : (once T rows bound).saturated ≡ on
      sits = rw (once-many T rows bound two) r.sits

      -- the first is the last
      first_ends : (k ≡ 0) ⊎ (on ≡ false) → from k left rows bound ≡ record { outcome = Answered (answer found) (active_rows found) (A - l); rows = kept }
      unfolding from
      first_ends h =
          let here = ends T rows bound k (⊎_map (λ none. none) (λ off. sits ∙ off) h) ∙ ap last (once-many T rows bound two) in
          rw here (last_answers A enough rows r)

      -- or the box grows
      first_goes_on : on ≡ true → from (suc k) left rows bound ≡ from k l kept (bound ⊗ lp_box_growth)
      unfolding from
      first_goes_on sat =
          let grown = rw (once-many T rows bound two) at (grows T rows bound k (sits ∙ sat)) in
          let kept_on = ap (λ (R : List Row). first before solves k T R (bound ⊗ lp_box_growth)) r.keeps in
          ap (ending A left rows) (grown ∙ kept_on) ∙ next_goes_on A enough rows r _

-- ---- a turn of the loop

-- before it: k solves are done, each on its box, and those to go come to what all come to
pub record Going (T : Task) (A n : ℕ) (rows₀ : List Row) (flat : List Float) (bound : Float) (left k : ℕ) : Type 0 where
  pub even : length flat ≡ 3 * n
  pub few : k ≤ 6
  pub enough : left ≤ A
  pub rest : from T A (6 - k) left (rows_of flat) bound ≡ allowed T A rows₀

module _ {T : Task} {A n : ℕ} (two : 2 ≤ n) {rows₀ : List Row} {flat flat' : List Float} {bound : Float} {left k : ℕ}
    (g : Going T A n rows₀ flat bound left k)
    (lent : flat' ≡ leaves flat (within left (prepared T.normalize (rows_of flat)))) (same : length flat' ≡ length flat) where
  more : 2 ≤ length (rows_of flat)
  more = omega (arith, length-rows_of flat, g.even)

  -- after it the loop is left, with this outcome
  abbrev pub Ends : Outcome → Type 0
  Ends o = (o ≡ (allowed T A rows₀).outcome) × (flat' ≡ flat_of (allowed T A rows₀).rows)

  leaves_with : {o : Outcome} → from T A (6 - k) left (rows_of flat) bound ≡ record { outcome = o; rows = rows_of flat' } → Ends o
  leaves_with e =
      let all = sym e ∙ g.rest in
      (ap (λ x. x.outcome) all, sym (flat_rows flat' n (omega (arith, same, g.even))) ∙ ap (λ x. flat_of x.rows) all)

  -- or goes on, where the answer sits on the box and the solve is not the seventh
  pub record Turn (round : Round) (l : ℕ) : Type 0 where
    pub enough : l ≤ A
    pub ends : (6 - k ≡ 0) ⊎ (round.sits_on_box ≡ false) → Ends (Answered (answer round.found) (active_rows round.found) (A - l))
    pub goes_on : k < 6 → round.sits_on_box ≡ true → Going T A n rows₀ flat' (bound ⊗ lp_box_growth) l (k + 1)

  abbrev pub After : Paid Round → Type 0
  After (Ok p) = Turn p.0 p.1
  After (Err e) = Ends (Err (Stopped A))

  after : (got : Paid Round) → Told T flat flat' bound left got → After got
  after (Ok p) r =
      record {
        enough = omega (arith, r.takes, g.enough);
        ends = λ h. leaves_with (first_ends T A (6 - k) left (rows_of flat) bound more g.enough r h);
        goes_on = λ some on.
            let one_fewer : 6 - k ≡ suc (6 - (k + 1)) = omega arith in
            let goes_on = first_goes_on T A (6 - (k + 1)) left (rows_of flat) bound more g.enough r on in
            record {
              even = omega (arith, same, g.even);
              few = omega arith;
              enough = omega (arith, r.takes, g.enough);
              rest = sym goes_on ∙ rw one_fewer at g.rest;
            };
      }
  after (Err e) s = leaves_with (first_stops T A (6 - k) left (rows_of flat) bound more s)

  pub turn : {got answer : Paid Round} → got ≡ within left (solving_once T T.normalize (rows_of flat) bound) → got ≡ answer → After answer
  turn {got} gave is = subst After is (after got (told T flat flat' bound left lent got gave))
