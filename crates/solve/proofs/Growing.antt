-- The solves of growing boxes, a list that is never empty: where it ends and where it grows, and that what each solve has, the answer has and the rows left
-- have.
use mathlib.Core.Path.{◌≡◌, refl, ap}
use mathlib.Core.Logic.{◌⊎◌, inl, inr}
use mathlib.Core.Bool.{Bool, true, false}
use mathlib.Core.List.{List}
use Prim.Native.Nat.{ℕ, zero, suc, ◌≤◌, ◌-◌}
use native.Mathlib.Omega.{arith}
use lib.Ieee.{Float}
use Rattle.float.specs.Operators.{when◌then◌else◌, ◌⊗◌}
use Rattle.readings.proofs.Gives.{either}
use Rattle.rows.specs.Constants.{lp_box_growth}
use Rattle.rows.specs.declared.Row.{Row}
use Rattle.once.specs.declared.Task.{Task}
use Rattle.once.specs.Once.{Once, once}
use Rattle.solve.specs.Solve.{Solves, last, ◌before◌, solves, all_solves, last_of, taken_by, count, rows_within}
use Rattle.solve.specs.Solve.{Ended, answered, finished, allowed}

-- ---- how many they are, and the first of them

unfoldable pub rounds : Solves → ℕ
rounds (last o) = 1
rounds (o before os) = suc (rounds os)

abbrev pub first_of : Solves → Once
first_of (last o) = o
first_of (o before os) = o

pub first_counted : (os : Solves) → taken_by (first_of os) ≤ count os
unfolding count
first_counted (last o) = omega arith
first_counted (o before os) = omega arith

module _ (T : Task) (rows : List Row) (bound : Float) where
  abbrev first : Once
  first = once T rows bound

  -- it is the last where the box may not grow, and where it does not sit on it
  pub ends : (k : ℕ) → (k ≡ 0) ⊎ (first.saturated ≡ false) → solves k T rows bound ≡ last first
  unfolding solves when◌then◌else◌
  ends zero h = refl
  ends (suc k) (inl none) = absurd (omega arith)
  ends (suc k) (inr off) = rw off

  -- and else the box grows
  pub grows : (k : ℕ) → first.saturated ≡ true → solves (suc k) T rows bound ≡ first before solves k T first.rows.value (bound ⊗ lp_box_growth)
  unfolding solves when◌then◌else◌
  grows k on = rw on

  -- so by whether it sits on its box
  pub by_box : (P : Solves → Type 0) (k : ℕ) → (first.saturated ≡ false → P (last first))
      → (first.saturated ≡ true → P (first before solves k T first.rows.value (bound ⊗ lp_box_growth))) → P (solves (suc k) T rows bound)
  by_box P k off on = go first.saturated refl
    where
      go : (b : Bool) → first.saturated ≡ b → P (solves (suc k) T rows bound)
      go true e = rw (grows k e) (on e)
      go false e = rw (ends (suc k) (inr e)) (off e)

  pub is_first : (k : ℕ) → first_of (solves k T rows bound) ≡ first
  is_first zero = ap first_of (ends 0 (inl refl))
  is_first (suc k) = by_box (λ os. first_of os ≡ first) k (λ off. refl) (λ on. refl)

-- ---- what each of them has

module _ (P : Once → Type 0) where
  abbrev pub Each : Solves → Type 0
  Each (last o) = P o
  Each (o before os) = P o × Each os

  pub last_has : (os : Solves) → Each os → P (last_of os)
  unfolding last_of
  last_has (last o) h = h
  last_has (o before os) h = last_has os h.1

-- I of the rows, where every solve of rows with I leaves rows with I
module _ (T : Task) (I : List Row → Type 0) (keeps : (rows : List Row) (bound : Float) → I rows → I (once T rows bound).rows.value) where
  pub solves_have : (P : Once → Type 0) → ((rows : List Row) (bound : Float) → I rows → P (once T rows bound))
      → (k : ℕ) (rows : List Row) (bound : Float) → I rows → Each P (solves k T rows bound)
  solves_have P has zero rows bound i = rw (ends T rows bound 0 (inl refl)) (has rows bound i)
  solves_have P has (suc k) rows bound i =
      let first = has rows bound i in
      by_box T rows bound (Each P) k (λ off. first) (λ on. (first, solves_have P has k _ _ (keeps rows bound i)))

  within_keeps : (left : ℕ) (rows : List Row) (os : Solves) → I rows → Each (λ o. I o.rows.value) os → I (rows_within left rows os)
  unfolding rows_within
  within_keeps left rows (last o) i each = either I _ i each
  within_keeps left rows (o before os) i each = either I _ i (either I _ each.0 (within_keeps (left - taken_by o) o.rows.value os each.0 each.1))

  pub allowed_keeps : (A : ℕ) (rows : List Row) → I rows → I (allowed T A rows).rows
  unfolding allowed finished answered all_solves
  allowed_keeps A rows i =
      let each = solves_have (λ o. I o.rows.value) keeps _ rows _ i in
      either (λ (e : Ended (List Row)). I e.rows) _ (within_keeps A rows _ i each) (last_has (λ o. I o.rows.value) _ each)
