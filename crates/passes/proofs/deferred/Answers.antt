-- `passes::deferred` meets its contract: at each turn the rounds that are left, with `rest` readings, give the whole.
use native.Mathlib.Omega.{arith}
use Prim.Native.Nat.{◌+◌, ◌-◌}
use borrow.Author.Rules.{rules}
use Rattle.passes.proofs.Rounds.{rounds_end, scan_stops, none_worse, named, step_stops, step_fails, step_finds}
use Rattle.passes.proofs.deferred.Goals as goal

pub returns-in_err-w : goal.returns-in_err-w
returns-in_err-w c =
    scan_stops c.loop-round.invariant (4 - (c.loop-round.round + 1)) (omega arith) c.worst_row.ensures c.in_err-w.was c.from_residual.ensures.1

pub returns-in_default : goal.returns-in_default
returns-in_default c =
    none_worse c.loop-round.invariant (4 - (c.loop-round.round + 1)) (omega arith) c.worst_row.ensures c.in_ok-w.was c.in_default.is

pub incre_step_2d-requires : goal.incre_step_2d-requires
incre_step_2d-requires c =
    let below = named c.loop-round.invariant (4 - (c.loop-round.round + 1)) (omega arith) c.worst_row.ensures c.in_ok-w.was c.in-Some.is in
    search rules

pub returns-in_err-found : goal.returns-in_err-found
returns-in_err-found c =
    step_stops c.loop-round.invariant (4 - (c.loop-round.round + 1)) (omega arith) c.worst_row.ensures c.in_ok-w.was c.in-Some.is
    c.incre_step_2d.ensures c.in_err-found.was c.from_residual-in_err-found.ensures.1

pub returns-in-None : goal.returns-in-None
returns-in-None c =
    step_fails c.loop-round.invariant (4 - (c.loop-round.round + 1)) (omega arith) c.worst_row.ensures c.in_ok-w.was c.in-Some.is
    c.incre_step_2d.ensures (rw c.in-None.is at c.in_ok-found.was)

pub loop-round-preserved : goal.loop-round-preserved
loop-round-preserved c =
    rw c.fresh-s.ensures
    (step_finds c.loop-round.invariant (4 - (c.loop-round.round + 1)) (omega arith) c.worst_row.ensures c.in_ok-w.was c.in-Some.is
    c.incre_step_2d.ensures (rw c.in-Some-found.is at c.in_ok-found.was))

pub returns : goal.returns
returns c = rounds_end c.loop-round.invariant (omega arith)
