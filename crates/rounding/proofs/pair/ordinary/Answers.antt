-- `rounding::pair::ordinary` meets its contract.
use Rattle.rounding.proofs.RootCases.{above_real, bits_positive}
use Rattle.rounding.proofs.pair.ordinary.Goals as goal

pub returns-then-b-lt9218868437227405312 : goal.returns-then-b-lt9218868437227405312
returns-then-b-lt9218868437227405312 c =
    λ e. (above_real c.args.x c.if-x.true, bits_positive c.args.x c.well_formed.0.1 c.if-x.true, c.if-b-lt9218868437227405312.true)
