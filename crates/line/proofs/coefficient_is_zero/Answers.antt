-- `line::coefficient_is_zero` meets its contract.
use Rattle.float.specs.Float.{one}
use Rattle.rows.specs.Constants.{eps_zero, eps_normalize, ccw_errbound_a}
use Rattle.line.specs.Line.{coefficient_is_zero}
use Rattle.line.proofs.coefficient_is_zero.Goals as goal

pub returns-then-cancel : goal.returns-then-cancel
unfolding coefficient_is_zero one eps_zero eps_normalize ccw_errbound_a
returns-then-cancel c = simp (c.if-cancel.true, ← c.abs.ensures)

pub returns : goal.returns
unfolding coefficient_is_zero one eps_zero eps_normalize ccw_errbound_a
returns c = simp (c.if-cancel.false, ← c.abs-2.ensures, ← c.abs-3.ensures, ← c.clamp.ensures)
