-- `passes::frame` meets its contract.
use mathlib.Core.Path.{refl}
use Rattle.passes.specs.Passes.{frame}
use Rattle.passes.proofs.frame.Goals as goal

pub returns : goal.returns
unfolding frame
returns c = refl
