-- `rounding::root::radicand_of` meets its contract.
use Rattle.rounding.proofs.Roots.{radical}
use Rattle.rounding.proofs.root.radicand_of.Goals as goal

pub returns : goal.returns
returns c = radical c.parts_of-m.ensures
