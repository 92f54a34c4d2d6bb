-- `kernel::ravelsickle_lp_1d` meets its contract.
use mathlib.Core.Path.{sym, ap, ◌∙◌}
use Rattle.abi.specs.Records.{bounded}
use Rattle.abi.specs.Entries.{line_bounds}
use Rattle.kernel.proofs.ravelsickle_lp_1d.Goals as goal

pub returns-in-Ok : goal.returns-in-Ok
unfolding line_bounds bounded
returns-in-Ok c = ap bounded (sym c.in-Ok.is ∙ c.lp_1d.ensures)

pub returns-in-Err : goal.returns-in-Err
unfolding line_bounds bounded
returns-in-Err c = rw (c.from.ensures, c.nan.ensures, c.nan-in-Err.ensures) (ap bounded (sym c.in-Err.is ∙ c.lp_1d.ensures))
