-- `text::put_decimal` meets its contract.
use native.Mathlib.Omega.{arith}
use lib.ListN.{length-take, length-drop}
use Rattle.text.specs.Sizes.{longest_decimal}
use Rattle.text.proofs.put_decimal.Goals as goal

pub put-requires : goal.put-requires
unfolding longest_decimal
put-requires c = simp (length-take, length-drop) (omega arith)
