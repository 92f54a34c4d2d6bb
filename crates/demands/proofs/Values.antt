-- What an answer says of the point that a solve found: which of x and y it has. And what one row comes to, and no row.
use Rattle.std.specs.Prelude.{Option, Some, None}
use mathlib.Core.Path.{◌≡◌, refl, sym, ap, ◌∙◌}
use mathlib.Core.Logic.{◌⊎◌, inl, inr, ◌≢◌}
use mathlib.Core.Bool.{Bool, true, false, false≢true, ◌&&◌}
use mathlib.Core.List.{List, [], ◌∷◌}
use Prim.Native.Nat.{ℕ}
use native.Mathlib.Omega.{arith}
use lib.Ieee.{Float, nan, inf, is_nan}
use Rattle.float.specs.Operators.{when◌then◌else◌, ◌⊘◌, ◌≺◌, ◌≻◌}
use Rattle.float.specs.Float.{abs}
use Rattle.float.proofs.Nans.{one_nan}
use Rattle.readings.specs.Readings.{pure, read, ◌>>◌}
use Rattle.rows.specs.Constants.{eps_zero}
use Rattle.rows.specs.declared.Row.{Row}
use Rattle.rows.specs.declared.Point.{Point}
use Rattle.rows.specs.Rows.{rows_of, flat_of}
use Rattle.active.specs.declared.Active.{Active}
use Rattle.active.specs.Active.{no_rows}
use Rattle.step.specs.declared.State.{State}
use Rattle.once.specs.declared.Task.{Task}
use Rattle.solve.specs.declared.Answer.{Answer}
use Rattle.solve.specs.declared.Answer.TheVariants as AnswerIs
use Rattle.once.specs.Once.{lone, once}
use Rattle.solve.specs.Solve.{Answered, solves, all_solves, last_of, count, answer, active_rows, answered, finished, solve, lp2d_incre_max_y, values}
use Rattle.solve.proofs.Refusals.{refusal_0}
use Rattle.solve.proofs.Allowance.{takes}
use Rattle.demands.proofs.Outcomes.{answer_has}

-- ---- which of x and y

module _ (s : State) where
  abbrev x : Float
  x = s.at.x

  abbrev y : Float
  y = s.at.y

  -- point with x and y, level with y alone, across with x alone, nothing
  pub four_answers :
      (is_nan x ≡ false → is_nan y ≡ false → answer (Some s) ≡ AnswerIs.Point x y)
      × (is_nan x ≡ true → is_nan y ≡ false → answer (Some s) ≡ AnswerIs.Level y)
      × (is_nan x ≡ false → is_nan y ≡ true → answer (Some s) ≡ AnswerIs.Across x)
      × (is_nan x ≡ true → is_nan y ≡ true → answer (Some s) ≡ AnswerIs.Nothing)
  unfolding answer when◌then◌else◌
  four_answers = (λ p q. rw (p, q), λ p q. rw (p, q), λ p q. rw (p, q), λ p q. rw (p, q))

  -- so what it has not is NaN
  pub values_found : values (answer (Some s)) ≡ s.at
  unfolding values
  values_found = by_tests (is_nan x) (is_nan y) refl refl
    where
      by_tests : (b c : Bool) → is_nan x ≡ b → is_nan y ≡ c → values (answer (Some s)) ≡ s.at
      by_tests false false p q = rw (four_answers.0 p q)
      by_tests true false p q = rw (four_answers.1 p q, one_nan x p)
      by_tests false true p q = rw (four_answers.2 p q, one_nan y q)
      by_tests true true p q = rw (four_answers.3 p q, one_nan x p, one_nan y q)

  -- and an infinite number is one
  pub infinite_numbers : {minus : Bool} → (x ≡ inf minus) ⊎ (y ≡ inf minus) → answer (Some s) ≢ AnswerIs.Nothing
  unfolding values is_nan
  infinite_numbers h none = go h
    where
      nothing : record { x = nan; y = nan } ≡ s.at
      nothing = ap values (sym none) ∙ values_found

      go : {minus : Bool} → (x ≡ inf minus) ⊎ (y ≡ inf minus) → ⊥
      go (inl e) = false≢true (sym (ap is_nan (ap (λ (p : Point). p.x) nothing ∙ e)))
      go (inr e) = false≢true (sym (ap is_nan (ap (λ (p : Point). p.y) nothing ∙ e)))

-- what an answer has is a number
abbrev pub Numbers : Answer → Type 0
Numbers (AnswerIs.Point x y) = (is_nan x ≡ false) × (is_nan y ≡ false)
Numbers (AnswerIs.Level y) = is_nan y ≡ false
Numbers (AnswerIs.Across x) = is_nan x ≡ false
Numbers AnswerIs.Nothing = Unit {0}

answer_numbers : (found : Option State) → Numbers (answer found)
unfolding answer
answer_numbers None = tt
answer_numbers (Some s) = by_tests (is_nan s.at.x) (is_nan s.at.y) refl refl
  where
    by_tests : (b c : Bool) → is_nan s.at.x ≡ b → is_nan s.at.y ≡ c → Numbers (answer (Some s))
    by_tests false false p q = rw ((four_answers s).0 p q) (p, q)
    by_tests true false p q = rw ((four_answers s).1 p q) q
    by_tests false true p q = rw ((four_answers s).2 p q) p
    by_tests true true p q = rw ((four_answers s).3 p q) tt

pub has_numbers : (T : Task) (A : ℕ) {a : Answer} {act : Active} {n : ℕ} (flat : List Float) → (solve T A flat).outcome ≡ Answered a act n → Numbers a
has_numbers T A flat =
    answer_has T (λ a act. Numbers a) (λ rows. Unit {0}) (λ rows bound i. tt) (λ rows bound i. answer_numbers (once T rows bound).run.value) A flat tt

-- ---- no row, and one

pub no_row : (T : Task) → lp2d_incre_max_y T [] ≡ record { outcome = Answered AnswerIs.Nothing no_rows 0; rows = [] }
unfolding lp2d_incre_max_y finished answered answer active_rows all_solves solves last_of once count pure rows_of flat_of when◌then◌else◌
no_row T = takes T (finished T) [] ((refusal_0 T []).1 (omega arith, omega arith))

module _ (T : Task) (a b c : Float) where
  abbrev row : Row
  row = record { a = a; b = b; c = c }

  one_row : lp2d_incre_max_y T (a ∷ b ∷ c ∷ []) ≡ record { outcome = Answered (answer (lone row)) (active_rows (lone row)) 1; rows = a ∷ b ∷ c ∷ [] }
  unfolding lp2d_incre_max_y finished answered all_solves solves last_of once count pure read ◌>>◌ rows_of flat_of when◌then◌else◌
  one_row = takes T (finished T) (a ∷ b ∷ c ∷ []) ((refusal_0 T (a ∷ b ∷ c ∷ [])).1 (omega arith, omega arith))

  pub one_row_level : abs a ≺ eps_zero ≡ true → b ≻ eps_zero ≡ true
      → (bounds : Answer)
      × (lp2d_incre_max_y T (a ∷ b ∷ c ∷ []) ≡ record { outcome = Answered bounds no_rows 1; rows = a ∷ b ∷ c ∷ [] })
      × (values bounds ≡ record { x = nan; y = c ⊘ b })
  unfolding lone active_rows when◌then◌else◌
  one_row_level p q =
      let found : State = record { at = record { x = nan; y = c ⊘ b }; active = no_rows } in
      (answer (Some found), one_row ∙ rw (p, q), values_found found)

  pub one_row_nothing : abs a ≺ eps_zero && b ≻ eps_zero ≡ false
      → lp2d_incre_max_y T (a ∷ b ∷ c ∷ []) ≡ record { outcome = Answered AnswerIs.Nothing no_rows 1; rows = a ∷ b ∷ c ∷ [] }
  unfolding lone answer active_rows when◌then◌else◌
  one_row_nothing p = one_row ∙ rw p
