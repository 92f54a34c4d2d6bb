-- Preparing: what was paid for it says which rows it leaves.
use mathlib.Core.Path.{◌≡◌, refl, ap}
use mathlib.Core.List.{List, [], ◌∷◌}
use Prim.Native.Nat.{ℕ, ◌-◌, ◌*◌}
use native.Mathlib.Omega.{arith}
use lib.ListN.{length}
use lib.Ieee.{Float}
use borrow.Author.Tests.{le-leb}
use Rattle.std.specs.Prelude.{Ok, Err}
use Rattle.float.specs.Operators.{when◌then◌else◌}
use Rattle.readings.specs.Readings.{Counted, pure, read, ◌>>◌, within, paying}
use Rattle.readings.specs.declared.Spent.{Spent}
use Rattle.readings.proofs.Laws.{pays, pays_nothing}
use Rattle.rows.specs.declared.Row.{Row}
use Rattle.rows.specs.Rows.{rows_of, flat_of, normalized}
use Rattle.rows.proofs.Lengths.{length-rows_of}
use Rattle.once.specs.declared.Normalize.{Normalize}
use Rattle.once.specs.declared.Normalize.TheVariants.{Off, Source}
use Rattle.once.specs.Once.{prepared, leaves}

pub rows_again : (rows : List Row) → rows_of (flat_of rows) ≡ rows
unfolding rows_of flat_of
rows_again [] = refl
rows_again (r ∷ rows) = ap (λ l. r ∷ l) (rows_again rows)

-- preparing takes a reading for each row where it normalises, and none where it does not
pub off_is_free : (left : ℕ) (rows : List Row) → paying left (prepared Off rows).readings ≡ Ok left
unfolding prepared pure paying when◌then◌else◌
off_is_free left rows = rw (le-leb 0 left (omega arith)) (ap Ok (let all : left - 0 ≡ left = omega arith in all))

pub off_leaves : (rows : List Row) → (prepared Off rows).value ≡ rows
unfolding prepared pure
off_leaves rows = refl

module _ (flat : List Float) (n : ℕ) (even : 3 * n ≡ length flat) where
  pub source_takes : (prepared Source (rows_of flat)).readings ≡ n
  unfolding prepared read pure ◌>>◌
  source_takes = omega (arith, length-rows_of flat)

pub source_normalises : (rows : List Row) → (prepared Source rows).value ≡ normalized rows
unfolding prepared pure ◌>>◌
source_normalises rows = refl

-- where it was paid the rows are as it makes them, and else as they were
module _ (left : ℕ) (mode : Normalize) (flat : List Float) where
  abbrev ready : Counted (List Row)
  ready = prepared mode (rows_of flat)

  pub leaves_prepared : {rest : ℕ} → paying left ready.readings ≡ Ok rest → leaves flat (within left ready) ≡ flat_of ready.value
  unfolding leaves
  leaves_prepared e = rw (pays left ready e)

  pub leaves_as_lent : {e : Spent} → paying left ready.readings ≡ Err e → leaves flat (within left ready) ≡ flat
  unfolding leaves
  leaves_as_lent e = rw (pays_nothing left ready e)
