-- `rounding::fused::sum_aligned` meets its contract.
use Rattle.std.proofs.Common.{◌∙◌, arith}
use Rattle.std.proofs.lemmas.Grind.{common_steps}
use Rattle.rounding.proofs.Sums.{aligned_like, aligned_less, aligned_more, aligned_same}
use Rattle.rounding.proofs.fused.sum_aligned.Goals as goal

pub returns-then-na-nc : goal.returns-then-na-nc
returns-then-na-nc c = c.finish.ensures ∙ aligned_like _ _ _ _ _ _ c.if-na-nc.true c.plus.ensures

pub returns-in-Less : goal.returns-in-Less
returns-in-Less c = c.finish-in-Less.ensures ∙ aligned_less _ _ _ _ _ _ c.if-na-nc.false (grind (arith, common_steps)) c.minus.ensures

pub returns-in-Greater : goal.returns-in-Greater
returns-in-Greater c = c.finish-in-Greater.ensures ∙ aligned_more _ _ _ _ _ _ c.if-na-nc.false (grind (arith, common_steps)) c.minus-in-Greater.ensures

pub returns-in-Equal : goal.returns-in-Equal
returns-in-Equal c = aligned_same _ _ _ _ _ c.if-na-nc.false (grind (arith, common_steps))
