-- The first rows of a slice: rows that are set one after the other, rows that lie first in a flat slice, and rows that go there to be solved and come back.
-- Assumes nothing.
use Rattle.std.proofs.Common.{◌≡◌, refl, sym, ap, ◌∙◌, List, [], ◌∷◌, ◌++◌, ℕ, zero, suc, ◌+◌, ◌*◌, ◌≤◌, ◌<◌, arith, length, get_or, set, take}
use Rattle.std.proofs.Math.Seq.{take-length}
use Rattle.std.proofs.lemmas.List.{take_more, take_more_set}
use lib.Ieee.{Float}
use Rattle.rows.specs.declared.Row.{Row}
use Rattle.rows.specs.Rows.{zeros, rows_of, flat_of, row_at}
use Rattle.rows.proofs.Flat.{next_start}
use Rattle.once.specs.declared.Task.{Task}
use Rattle.solve.specs.Solve.{Outcome, solve}
use Rattle.lent.specs.Lent.{solve_rows}

-- where the first i rows are those of `from`, so are the first i + 1 once row i is set
pub next : (from to : List Row) (i : ℕ) → i < length from → i < length to → take i to ≡ take i from → take (i + 1) (set to i (row_at from i))
    ≡ take (i + 1) from
unfolding row_at
next from to i h k e =
    take_more_set to i (get_or from i zeros) k
    ∙ (ap {B = List Row} (λ (l : List Row). l ++ get_or from i zeros ∷ []) e
    ∙ sym (take_more from i zeros h))

-- the rows of the first floats are the first rows
first_rows : (flat : List Float) (n : ℕ) → 3 * n ≤ length flat → rows_of (take (3 * n) flat) ≡ take n (rows_of flat)
unfolding rows_of
first_rows flat zero h = refl
first_rows [] (suc n) h = absurd (omega arith)
first_rows (a ∷ []) (suc n) h = absurd (omega arith)
first_rows (a ∷ b ∷ []) (suc n) h = absurd (omega arith)
first_rows (a ∷ b ∷ c ∷ flat) (suc n) h = rw (next_start n) (ap {B = List Row} (λ l. record { a = a; b = b; c = c } ∷ l) (first_rows flat n (omega arith)))

-- and whole rows
first_floats : (flat : List Float) (n : ℕ) → 3 * n ≤ length flat → flat_of (take n (rows_of flat)) ≡ take (3 * n) flat
unfolding rows_of flat_of
first_floats flat zero h = refl
first_floats [] (suc n) h = absurd (omega arith)
first_floats (a ∷ []) (suc n) h = absurd (omega arith)
first_floats (a ∷ b ∷ []) (suc n) h = absurd (omega arith)
first_floats (a ∷ b ∷ c ∷ flat) (suc n) h = rw (next_start n) (ap {B = List Float} (λ l. a ∷ b ∷ c ∷ l) (first_floats flat n (omega arith)))

-- rows that are gathered into the first floats, solved there and scattered back, come back as the solve of records says
module _ (task : Task) (allowance : ℕ) (rows : List Row) (before : List Float) (room : 3 * length rows ≤ length before)
    (gathered : take (length rows) (rows_of before) ≡ take (length rows) rows) where
  floats : take (3 * length rows) before ≡ flat_of rows
  floats = sym (first_floats before (length rows) room) ∙ ap flat_of (gathered ∙ take-length rows)

  pub answer : {r : Outcome} → r ≡ (solve task allowance (take (3 * length rows) before)).outcome → r ≡ (solve_rows task allowance rows).outcome
  unfolding solve_rows
  answer e = e ∙ ap (λ (flat : List Float). (solve task allowance flat).outcome) floats

  pub lent : (after : List Float) (last : List Row) → 3 * length rows ≤ length after → length last ≡ length rows
      → take (3 * length rows) after ≡ (solve task allowance (take (3 * length rows) before)).rows
      → take (length rows) last ≡ take (length rows) (rows_of after) → last ≡ (solve_rows task allowance rows).rows
  unfolding solve_rows
  lent after last Room-after as_long e scattered =
      sym (take-length last)
      ∙ (ap (λ (k : ℕ). take k last) as_long
      ∙ (scattered ∙ (sym (first_rows after (length rows) Room-after)
      ∙ (ap rows_of e ∙ ap (λ (flat : List Float). rows_of (solve task allowance flat).rows) floats))))
