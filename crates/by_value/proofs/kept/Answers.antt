-- `by_value::kept` meets its contract.
use Rattle.active.specs.Collector.{held, collected}
use Rattle.solve.specs.Solve.{collector}
use Rattle.by_value.specs.ByValue.{kept}
use Rattle.by_value.proofs.kept.Goals as goal

pub returns-in-Ok : goal.returns-in-Ok
unfolding kept held collected collector
returns-in-Ok c = simp c.in-Ok.is

pub returns-in-Err-Stopped : goal.returns-in-Err-Stopped
unfolding kept held collected collector
returns-in-Err-Stopped c =
    let stopped = rw c.in-Err-Stopped.is at c.in-Err-Stopped.field-0-is in
    rw (c.in-Err-Stopped.is, stopped) c.no_rows.ensures

pub returns-in-Err-Refused : goal.returns-in-Err-Refused
unfolding kept held collected collector
returns-in-Err-Refused c =
    let refused = rw c.in-Err-Refused.is at c.in-Err-Refused.field-0-is in
    rw (c.in-Err-Refused.is, refused)
