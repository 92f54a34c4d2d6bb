-- Why floats are refused as rows or pairs: by 1 where they do not come out even, whether or not they are too many, and by 2 only where they do
-- (RULES 10). Floats that are taken come out even, and are not too many. Assumes nothing.
use mathlib.Core.Path.{◌≡◌, refl}
use mathlib.Core.Logic.{◌↔◌, ◌≢◌}
use mathlib.Core.Bool.{Bool, true, false, not}
use Prim.Native.Nat.{ℕ, ◌/◌, ◌%◌, ◌≤◌, ◌<◌}
use native.Mathlib.Omega.{arith}
use borrow.Author.Tests.{eqb-true, eqb-false, ltb-true, ltb-false}
use lib.Dec.{eqb, ltb}
use Rattle.std.specs.Prelude.{Option, Some, None, Ok, Err}
use Rattle.std.specs.Result.{result_err}
use Rattle.float.specs.Operators.{when◌then◌else◌}
use Rattle.rows.specs.declared.Refusal.{Refusal}
use Rattle.rows.specs.declared.Refusal.TheVariants.{Uneven, TooMany, Undecided, NothingFound, PrefixTooLong, Cut, UnknownKind, Malformed}
use Rattle.rows.specs.Constants.{most_rows}
use Rattle.rows.specs.Refusals.{number, code, unless}
use Rattle.rows.specs.Rows.{refusal}

-- ---- a value, unless something is refused: what came of it tells whether something is

pub was_taken : {A : Type 0} {x y : A} (why : Option Refusal) → unless why x ≡ Ok y → (why ≡ None) × (x ≡ y)
was_taken None e = (refl, (cc))
was_taken (Some r) e = absurd (cc)

pub was_refused : {A : Type 0} (x : A) {r : Refusal} (why : Option Refusal) → unless why x ≡ Err r → why ≡ Some r
was_refused x None e = absurd (cc)
was_refused x (Some r) e = cc

pub unless_err : {A : Type 0} (why : Option Refusal) (x : A) → result_err (unless why x) ≡ why
unless_err None x = refl
unless_err (Some r) x = refl

-- ---- refusals 1 and 2

data Why (width floats : ℕ) : Option Refusal → Type 0 where
  uneven : floats % width ≢ 0 → Why width floats (Some Uneven)
  many : floats % width ≡ 0 → most_rows < floats / width → Why width floats (Some TooMany)
  taken_as_they_are : floats % width ≡ 0 → floats / width ≤ most_rows → Why width floats None

module _ (width floats : ℕ) where
  why : Why width floats (refusal width floats)
  unfolding refusal when◌then◌else◌
  why = by_tests (eqb (floats % width) 0) (ltb most_rows (floats / width)) refl refl
    where
      by_tests : (even above : Bool) → eqb (floats % width) 0 ≡ even → ltb most_rows (floats / width) ≡ above
          → Why width floats (when not even then Some Uneven else when above then Some TooMany else None)
      by_tests false above p q = uneven (eqb-false (floats % width) 0 p)
      by_tests true true p q = many (eqb-true (floats % width) 0 p) (ltb-true most_rows (floats / width) q)
      by_tests true false p q = taken_as_they_are (eqb-true (floats % width) 0 p) (ltb-false most_rows (floats / width) q)

  pub refusal_1 : refusal width floats ≡ Some Uneven ↔ floats % width ≢ 0
  refusal_1 = go why
    where
      go : {w : Option Refusal} → Why width floats w → w ≡ Some Uneven ↔ floats % width ≢ 0
      go (uneven h) = (λ _. h, λ _. refl)
      go (many h a) = (λ e. absurd (cc), λ g. absurd (g h))
      go (taken_as_they_are h l) = (λ e. absurd (cc), λ g. absurd (g h))

  pub refusal_2 : refusal width floats ≡ Some TooMany ↔ (floats % width ≡ 0) × (most_rows < floats / width)
  refusal_2 = go why
    where
      go : {w : Option Refusal} → Why width floats w → w ≡ Some TooMany ↔ (floats % width ≡ 0) × (most_rows < floats / width)
      go (uneven h) = (λ e. absurd (cc), λ g. absurd (h g.0))
      go (many h a) = (λ _. (h, a), λ _. refl)
      go (taken_as_they_are h l) = (λ e. absurd (cc), λ g. absurd (omega (arith, g.1, l)))

  pub refusal_0 : refusal width floats ≡ None ↔ (floats % width ≡ 0) × (floats / width ≤ most_rows)
  refusal_0 = go why
    where
      go : {w : Option Refusal} → Why width floats w → w ≡ None ↔ (floats % width ≡ 0) × (floats / width ≤ most_rows)
      go (uneven h) = (λ e. absurd (cc), λ g. absurd (h g.0))
      go (many h a) = (λ e. absurd (cc), λ g. absurd (omega (arith, g.1, a)))
      go (taken_as_they_are h l) = (λ _. (h, l), λ _. refl)

  pub taken : refusal width floats ≡ None → (floats % width ≡ 0) × (floats / width ≤ most_rows)
  taken = refusal_0.0

  -- and no other number
  pub no_other : code (refusal width floats) < 3
  no_other = go why
    where
      go : {w : Option Refusal} → Why width floats w → code w < 3
      go (uneven h) = omega arith
      go (many h a) = omega arith
      go (taken_as_they_are h l) = omega arith

-- ---- numbers

pub numbered : (why : Refusal) → 0 < number why
numbered Uneven = omega arith
numbered TooMany = omega arith
numbered Undecided = omega arith
numbered NothingFound = omega arith
numbered PrefixTooLong = omega arith
numbered Cut = omega arith
numbered UnknownKind = omega arith
numbered Malformed = omega arith

pub number_1 : (why : Refusal) → number why ≡ 1 → why ≡ Uneven
number_1 Uneven e = refl
number_1 TooMany e = absurd (omega arith)
number_1 Undecided e = absurd (omega arith)
number_1 NothingFound e = absurd (omega arith)
number_1 PrefixTooLong e = absurd (omega arith)
number_1 Cut e = absurd (omega arith)
number_1 UnknownKind e = absurd (omega arith)
number_1 Malformed e = absurd (omega arith)

pub number_2 : (why : Refusal) → number why ≡ 2 → why ≡ TooMany
number_2 Uneven e = absurd (omega arith)
number_2 TooMany e = refl
number_2 Undecided e = absurd (omega arith)
number_2 NothingFound e = absurd (omega arith)
number_2 PrefixTooLong e = absurd (omega arith)
number_2 Cut e = absurd (omega arith)
number_2 UnknownKind e = absurd (omega arith)
number_2 Malformed e = absurd (omega arith)

pub number_10 : (why : Refusal) → number why ≡ 10 → why ≡ Malformed
number_10 Uneven e = absurd (omega arith)
number_10 TooMany e = absurd (omega arith)
number_10 Undecided e = absurd (omega arith)
number_10 NothingFound e = absurd (omega arith)
number_10 PrefixTooLong e = absurd (omega arith)
number_10 Cut e = absurd (omega arith)
number_10 UnknownKind e = absurd (omega arith)
number_10 Malformed e = refl
