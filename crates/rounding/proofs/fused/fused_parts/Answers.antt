-- `rounding::fused::fused_parts` meets its contract.
use Rattle.std.proofs.Common.{arith}
use Rattle.rounding.proofs.Products.{multiplied, fuses}
use Rattle.rounding.proofs.fused.fused_parts.Goals as goal

pub returns : goal.returns
returns c = fuses c.parts_of-px.ensures c.parts_of-py.ensures c.parts_of-pz.ensures c.product-product.ensures _ _ _ c.sum_wide.ensures

pub sum_wide-requires-clause-multiplied : goal.sum_wide-requires-clause-multiplied
sum_wide-requires-clause-multiplied c =
    let tx = c.parts_of-px.ensures in
    let ty = c.parts_of-py.ensures in
    let tz = c.parts_of-pz.ensures in
    (multiplied tx ty c.product-product.ensures, omega (arith, tx.far, ty.far))
