-- `passes::beyond_rounding` meets its contract.
use mathlib.Core.Path.{sym}
use Rattle.float.specs.Float.{zero}
use Rattle.float.proofs.Laws.{above_no_size}
use Rattle.rows.specs.Constants.{eps_rounding}
use Rattle.rows.proofs.Sizes.{rounding_not_negative}
use Rattle.passes.proofs.beyond_rounding.Goals as goal

pub returns-then-residual : goal.returns-then-residual
unfolding eps_rounding
returns-then-residual c = rw c.weight.ensures

pub returns : goal.returns
unfolding zero
returns c =
    let a = c.args in
    sym (above_no_size a.residual _ (rounding_not_negative a.r a.p) c.if-residual.false)
