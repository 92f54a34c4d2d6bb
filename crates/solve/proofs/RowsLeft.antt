-- The rows that a solve leaves: stopped, those of the last normalisation whose readings all fitted; and where nothing is normalised,
-- those that were lent, whatever it returns.
use mathlib.Core.Path.{◌≡◌, refl, ◌∙◌}
use mathlib.Core.Bool.{Bool, true, false}
use mathlib.Core.List.{List, [], ◌∷◌}
use Prim.Native.Nat.{ℕ, zero, suc, ◌+◌, ◌-◌, ◌/◌, ◌≤◌, ◌<◌}
use mathlib.Core.Logic.{inl, inr}
use native.Mathlib.Omega.{arith}
use borrow.Author.Tests.{lt-ltb, le-ltb, ltb-true, ltb-false}
use lib.Dec.{ltb}
use lib.ListN.{length}
use lib.Ieee.{Float}
use Rattle.float.specs.Operators.{when◌then◌else◌}
use Rattle.readings.specs.Readings.{pure}
use Rattle.rows.specs.declared.Row.{Row}
use Rattle.rows.specs.Rows.{rows_of}
use Rattle.rows.proofs.Written.{flat_rows}
use Rattle.once.specs.declared.Normalize.TheVariants.{Off}
use Rattle.once.specs.declared.Task.{Task}
use Rattle.once.specs.Once.{Once, prepared, many, once}
use Rattle.solve.specs.Solve.{Solves, last, ◌before◌, taken_by, rows_within, allowed, solve}
use Rattle.solve.proofs.Refusals.{refusal_0}
use Rattle.solve.proofs.Allowance.{whether, refuses, takes}
use Rattle.solve.proofs.Growing.{first_of, rounds, allowed_keeps}

-- ---- stopped

module _ (left : ℕ) (rows : List Row) where
  -- a normalisation for which too few are left touches no row
  pub untouched : (os : Solves) → left < (first_of os).rows.readings → rows_within left rows os ≡ rows
  unfolding rows_within when◌then◌else◌
  untouched (last o) short = rw (lt-ltb left o.rows.readings short)
  untouched (o before os) short = rw (lt-ltb left o.rows.readings short)

  -- one that fits leaves its rows where too few are left for the passes
  pub normalised_last : (os : Solves) → (first_of os).rows.readings ≤ left → left < taken_by (first_of os) → rows_within left rows os ≡ (first_of os).rows.value
  unfolding rows_within when◌then◌else◌
  normalised_last (last o) fits short = rw (le-ltb left o.rows.readings fits)
  normalised_last (o before os) fits short = rw (le-ltb left o.rows.readings fits, lt-ltb left (taken_by o) short)

  -- and else hands them to the next
  pub normalised_on : (o : Once) (os : Solves) → taken_by o ≤ left → rows_within left rows (o before os) ≡ rows_within (left - taken_by o) o.rows.value os
  unfolding rows_within when◌then◌else◌
  normalised_on o os fits = rw (le-ltb left o.rows.readings (omega arith), le-ltb left (taken_by o) fits)

-- the rows after the first j normalisations, and all the readings up to the last of these
unfoldable pub normalised_by : ℕ → List Row → Solves → List Row
normalised_by zero rows os = rows
normalised_by (suc j) rows (last o) = o.rows.value
normalised_by (suc j) rows (o before os) = normalised_by j o.rows.value os

unfoldable pub taken_up_to : ℕ → Solves → ℕ
taken_up_to zero os = 0
taken_up_to (suc j) (last o) = o.rows.readings
taken_up_to (suc zero) (o before os) = o.rows.readings
taken_up_to (suc (suc j)) (o before os) = taken_by o + taken_up_to (suc j) os

-- the j-th normalisation fits, and none after it
pub record LastToFit (left : ℕ) (os : Solves) (j : ℕ) : Type 0 where
  pub there : j ≤ rounds os
  pub fits : taken_up_to j os ≤ left
  pub no_later : (k : ℕ) → j < k → k ≤ rounds os → left < taken_up_to k os

first_taken : (j : ℕ) (os : Solves) → (first_of os).rows.readings ≤ taken_up_to (suc j) os
unfolding taken_up_to
first_taken j (last o) = omega arith
first_taken zero (o before os) = omega arith
first_taken (suc j) (o before os) = omega arith

module _ (left : ℕ) where
  none_fits : (os : Solves) → left < (first_of os).rows.readings → LastToFit left os 0
  unfolding taken_up_to
  none_fits os short = record { there = omega arith; fits = omega arith; no_later = later }
    where
      later : (k : ℕ) → 0 < k → k ≤ rounds os → left < taken_up_to k os
      later zero some few = absurd (omega arith)
      later (suc k) some few = omega (arith, first_taken k os)

  last_fits : (o : Once) → o.rows.readings ≤ left → LastToFit left (last o) 1
  unfolding taken_up_to rounds
  last_fits o fits = record { there = omega arith; fits = fits; no_later = λ k some few. absurd (omega arith) }

  module _ (o : Once) (os : Solves) where
    one_fits : o.rows.readings ≤ left → left < taken_by o → LastToFit left (o before os) 1
    unfolding taken_up_to rounds
    one_fits fits short = record { there = omega arith; fits = fits; no_later = later }
      where
        later : (k : ℕ) → 1 < k → k ≤ rounds (o before os) → left < taken_up_to k (o before os)
        later zero some few = absurd (omega arith)
        later (suc zero) some few = absurd (omega arith)
        later (suc (suc k)) some few = omega arith

    more_fit : {j : ℕ} → taken_by o ≤ left → LastToFit (left - taken_by o) os j → LastToFit left (o before os) (suc j)
    unfolding taken_up_to rounds
    more_fit {j} fits latest = record { there = omega (arith, latest.there); fits = up_to j latest.fits; no_later = later }
      where
        up_to : (i : ℕ) → taken_up_to i os ≤ left - taken_by o → taken_up_to (suc i) (o before os) ≤ left
        up_to zero h = omega arith
        up_to (suc i) h = omega arith

        later : (k : ℕ) → suc j < k → k ≤ rounds (o before os) → left < taken_up_to k (o before os)
        later zero some few = absurd (omega arith)
        later (suc zero) some few = absurd (omega arith)
        later (suc (suc k)) some few = omega (arith, latest.no_later (suc k) (omega arith) (omega arith))

-- the rows left are those after the last normalisation to fit
abbrev pub LeftAt : ℕ → List Row → Solves → Type 0
LeftAt left rows os = (j : ℕ) × (rows_within left rows os ≡ normalised_by j rows os) × LastToFit left os j

pub last_normalised : (left : ℕ) (rows : List Row) (os : Solves) → LeftAt left rows os
unfolding rows_within normalised_by when◌then◌else◌
last_normalised left rows (last o) = by_test (ltb left o.rows.readings) refl
  where
    by_test : (b : Bool) → ltb left o.rows.readings ≡ b → LeftAt left rows (last o)
    by_test true p = let short = ltb-true left o.rows.readings p in (0, untouched left rows (last o) short, none_fits left (last o) short)
    by_test false p = (1, rw p, last_fits left o (ltb-false left o.rows.readings p))
last_normalised left rows (o before os) =
    by_tests (last_normalised (left - taken_by o) o.rows.value os) (ltb left o.rows.readings) (ltb left (taken_by o)) refl refl
  where
    by_tests : LeftAt (left - taken_by o) o.rows.value os → (b c : Bool) → ltb left o.rows.readings ≡ b → ltb left (taken_by o) ≡ c
        → LeftAt left rows (o before os)
    by_tests rest true c p q =
        let short = ltb-true left o.rows.readings p in
        (0, untouched left rows (o before os) short, none_fits left (o before os) short)
    by_tests rest false true p q =
        let fits = ltb-false left o.rows.readings p in
        let short = ltb-true left (taken_by o) q in
        (1, normalised_last left rows (o before os) fits short, one_fits left o os fits short)
    by_tests rest false false p q =
        let fits = ltb-false left (taken_by o) q in
        (suc rest.0, normalised_on left rows o os fits ∙ rest.1, more_fit left o os fits rest.2)

-- ---- where nothing is normalised

module _ (T : Task) (off : T.normalize ≡ Off) where
  once-leaves : (rows : List Row) (bound : Float) → (once T rows bound).rows.value ≡ rows
  unfolding once many prepared pure
  once-leaves [] bound = refl
  once-leaves (r ∷ []) bound = refl
  once-leaves (r ∷ s ∷ rows) bound = rw off

  as_lent : (A : ℕ) (rows : List Row) → (allowed T A rows).rows ≡ rows
  as_lent A rows = allowed_keeps T (λ left. left ≡ rows) (λ left bound e. once-leaves left bound ∙ e) A rows refl

  pub solve_as_lent : (A : ℕ) (flat : List Float) → (solve T A flat).rows ≡ flat
  unfolding solve
  solve_as_lent A flat =
      elim (whether T flat) [
        | inl fits ↦
            let even = (refusal_0 T flat).0 fits in
            rw (takes T (allowed T A) flat fits, as_lent A (rows_of flat)) (flat_rows flat (length flat / 3) (omega arith))
        | inr refused ↦ rw (refuses T (allowed T A) flat refused.1)
      ]
