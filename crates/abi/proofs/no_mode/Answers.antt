-- `abi::no_mode` meets its contract.
use mathlib.Core.Path.{refl}
use Rattle.abi.specs.Entries.{no_mode}
use Rattle.abi.proofs.no_mode.Goals as goal

pub returns : goal.returns
unfolding no_mode
returns c = refl
