-- `abi::has_row` meets its contract.
use Rattle.std.proofs.Common.{◌≡◌, refl, ℕ, Option, Some, None}
use Rattle.std.specs.Prelude.{is_some}
use Rattle.abi.specs.Records.{has_row}
use Rattle.abi.proofs.has_row.Goals as goal

by_cases : (found : Option ℕ) → is_some found ≡ has_row found
unfolding has_row
by_cases None = refl
by_cases (Some k) = refl

pub returns : goal.returns
returns c = rw c.is_some.ensures (by_cases c.args.found)
