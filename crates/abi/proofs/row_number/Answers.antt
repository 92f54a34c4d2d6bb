-- `abi::row_number` meets its contract.
use Rattle.std.proofs.Common.{◌≡◌, refl, ℕ, Option, Some, None}
use Rattle.std.specs.Prelude.{unwrap_or}
use Rattle.abi.specs.Records.{row_number}
use Rattle.abi.proofs.row_number.Goals as goal

by_cases : (found : Option ℕ) → unwrap_or found 0 ≡ row_number found
unfolding row_number
by_cases None = refl
by_cases (Some k) = refl

pub returns : goal.returns
returns c = rw c.unwrap_or.ensures (by_cases c.args.found)
