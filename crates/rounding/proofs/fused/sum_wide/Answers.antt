-- `rounding::fused::sum_wide` meets its contract.
use Rattle.std.proofs.Common.{◌∙◌, le_of_lt}
use Rattle.rounding.proofs.Sums.{right, left}
use Rattle.rounding.proofs.fused.sum_wide.Goals as goal

pub returns-then-ea-ec : goal.returns-then-ea-ec
returns-then-ea-ec c =
    let r = c.args in
    c.sum_aligned.ensures
    ∙ left _ _ _ r.ea r.ec c.requires.multiplied.0 c.requires.raised.0 r.na r.nc (le_of_lt c.if-ea-ec.true) c.shift_jam.ensures

pub returns-else-ea-ec : goal.returns-else-ea-ec
returns-else-ea-ec c =
    let r = c.args in
    c.sum_aligned-else-ea-ec.ensures
    ∙ right _ _ _ r.ea r.ec c.requires.multiplied.0 c.requires.raised.0 r.na r.nc c.if-ea-ec.false c.shift_jam-else-ea-ec.ensures
