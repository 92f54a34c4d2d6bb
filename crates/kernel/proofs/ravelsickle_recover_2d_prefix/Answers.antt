-- `kernel::ravelsickle_recover_2d_prefix` meets its contract.
use Rattle.abi.specs.Entries.{recovered, recovery}
use Rattle.kernel.proofs.ravelsickle_recover_2d_prefix.Goals as goal

pub returns-in-Ok : goal.returns-in-Ok
unfolding recovery recovered
returns-in-Ok c = rw (← c.collector_of-act.ensures, ← c.recover_2d_prefix.ensures, c.in-Ok.is, ← c.held.ensures) c.recovered_at.ensures

pub returns-in-Err : goal.returns-in-Err
unfolding recovery recovered
returns-in-Err c =
    let back = rw (c.from.ensures, c.nan.ensures, c.nan-in-Err.ensures) at c.recovered_at-in-Err.ensures in
    rw (← c.collector_of-act.ensures, ← c.recover_2d_prefix.ensures, c.in-Err.is) back
