-- `passes::deferred` meets its contract: at each turn the rounds that are left, with `rest` readings, give the whole.
use Prim.Native.Nat.{◌-◌}
use Rattle.readings.specs.Readings.{within}
use Rattle.rows.specs.Rows.{rows_of}
use Rattle.passes.specs.Passes.{deferred}
use Rattle.passes.proofs.Rounds.{Round}
use Rattle.passes.proofs.deferred.Given as goal

abbrev pub invariant-loop-round : goal.invariant-loop-round
invariant-loop-round l = Round l.f l.rows l.n (4 - l.round) l.rest l.s (within l.left (deferred 4 (rows_of l.rows) l.f l.initial.s))
