-- `rounding::pack::round_pack` meets its contract.
use Rattle.std.proofs.Common.{◌∙◌}
use Rattle.rounding.proofs.Rounding.{round_high, round_low}
use Rattle.rounding.proofs.pack.round_pack.Goals as goal

pub returns-then-e-lt1251 : goal.returns-then-e-lt1251
returns-then-e-lt1251 c =
    c.pack.ensures
    ∙ rw c.drop_eleven.ensures (round_low c.args.neg c.args.sig c.args.e c.requires c.ranges.sig.fits c.shift_jam.result
    c.if-e-lt1251.true c.shift_jam.ensures)

pub returns-else-e-lt1251 : goal.returns-else-e-lt1251
returns-else-e-lt1251 c =
    c.pack-else-e-lt1251.ensures
    ∙ rw c.drop_eleven-else-e-lt1251.ensures (round_high c.args.neg c.args.sig c.args.e c.requires c.ranges.sig.fits c.if-e-lt1251.false)
