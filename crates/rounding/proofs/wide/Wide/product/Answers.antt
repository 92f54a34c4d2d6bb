-- `rounding::wide::Wide::product` meets its contract.
use Rattle.std.proofs.Common.{ℕ, ◌*◌, ◌∙◌, ap₂, arith}
use Rattle.rounding.proofs.Words.{halves, product_fits, product_is, joined_fits}
use Rattle.rounding.proofs.wide.Wide.product.Goals as goal

pub overflow_add-result-2 : goal.overflow_add-result-2
overflow_add-result-2 c = record { fits = (product_fits c.args.u c.args.v c.ranges.u.fits c.ranges.v.fits).upper }

pub invariant_of-result : goal.invariant_of-result
invariant_of-result c = omega (arith, joined_fits)

pub returns : goal.returns
returns c = product_is _ _ _ _ ∙ ap₂ (λ (x y : ℕ). x * y) (halves _ c.ranges.u.fits).2 (halves _ c.ranges.v.fits).2
