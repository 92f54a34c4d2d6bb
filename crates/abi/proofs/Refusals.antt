-- The refusal beside a mode's number: with no mode there always is one, and with a mode it is the solve's own.
use mathlib.Core.Path.{◌≡◌, refl}
use mathlib.Core.Bool.{true, false}
use Prim.Native.Nat.{ℕ, ◌*◌, ◌≤◌, ◌<◌}
use native.Mathlib.Omega.{arith}
use Rattle.std.specs.Prelude.{Option, Some, None}
use Rattle.float.specs.Operators.{when◌then◌else◌}
use Rattle.rows.specs.Constants.{most_rows}
use Rattle.rows.specs.declared.Refusal.{Refusal}
use Rattle.rows.specs.declared.Refusal.TheVariants.{TooMany, Malformed}
use Rattle.rows.specs.Rows.{refusal}
use Rattle.rows.proofs.Refusals.{refusal_0, refusal_2}
use Rattle.abi.specs.Entries.{no_mode, or_ten}

-- with no mode there always is one
pub some_refusal : (why : Option Refusal) (mode : ℕ) → no_mode mode ≡ true → (refusal : Refusal) × (or_ten why mode ≡ Some refusal)
unfolding or_ten when◌then◌else◌
some_refusal None mode h = (Malformed, rw h)
some_refusal (Some why) mode h = (why, refl)

-- with one it is the refusal given
pub same_refusal : (why : Option Refusal) (mode : ℕ) → no_mode mode ≡ false → or_ten why mode ≡ why
unfolding or_ten when◌then◌else◌
same_refusal None mode h = rw h
same_refusal (Some why) mode h = refl

-- of n rows that are records
pub many-rows : (n mode : ℕ) → most_rows < n → or_ten (refusal 3 (3 * n)) mode ≡ Some TooMany
unfolding or_ten
many-rows n mode h = rw ((refusal_2 3 (3 * n)).1 (omega arith, omega arith))

pub few_rows_lem : (n mode : ℕ) → n ≤ most_rows → or_ten (refusal 3 (3 * n)) mode ≡ or_ten None mode
few_rows_lem n mode h = rw ((refusal_0 3 (3 * n)).1 (omega arith, omega arith))
