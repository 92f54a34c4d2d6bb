-- `kernel::ravelsickle_solve_2x2` meets its contract.
use mathlib.Core.Path.{sym, ap, ◌∙◌}
use Rattle.abi.specs.Records.{crossed}
use Rattle.kernel.proofs.ravelsickle_solve_2x2.Goals as goal

pub returns-in-Ok : goal.returns-in-Ok
unfolding crossed
returns-in-Ok c = ap crossed (sym c.in-Ok.is ∙ c.solve_2x2.ensures)

pub returns-in-Err : goal.returns-in-Err
unfolding crossed
returns-in-Err c = rw (c.from.ensures, c.nan.ensures, c.nan-in-Err.ensures) (ap crossed (sym c.in-Err.is ∙ c.solve_2x2.ensures))
