-- `abi::slot_of` meets its contract.
use Rattle.std.proofs.Common.{◌≡◌, refl, Bool, true, false, ℕ}
use Rattle.std.specs.Bool.{then_some}
use Rattle.abi.specs.Records.{slot}
use Rattle.abi.proofs.slot_of.Goals as goal

by_flag : (held : Bool) (row : ℕ) → then_some held row ≡ slot held row
unfolding slot
by_flag true row = refl
by_flag false row = refl

pub returns : goal.returns
returns c = rw c.then_some.ensures (by_flag c.args.held c.args.row)
