-- `scan::every` meets its contract.
use mathlib.Core.Path.{sym, ◌∙◌}
use Rattle.scan.proofs.Turns.{ends, stops, goes_on, fails}
use Rattle.scan.proofs.every.Goals as goal

pub returns-in_err-rest : goal.returns-in_err-rest
returns-in_err-rest g c = stops c.loop-i.invariant c.loop-i-test.true c.requires c.pay.ensures c.in_err-rest.was c.from_residual.ensures.1

pub loop-i-preserved : goal.loop-i-preserved
loop-i-preserved g c =
    goes_on c.loop-i.invariant c.loop-i-test.true c.requires c.pay.ensures c.in_ok-rest.was
    (rw (← c.row_at.ensures) (sym c.passes.ensures ∙ c.if-not-passes.false))

pub returns-then-not-passes : goal.returns-then-not-passes
returns-then-not-passes g c =
    fails c.loop-i.invariant c.loop-i-test.true c.requires c.pay.ensures c.in_ok-rest.was
    (rw (← c.row_at.ensures) (sym c.passes.ensures ∙ c.if-not-passes.true))

pub returns : goal.returns
returns g c = ends c.loop-i.invariant c.loop-i-test.false
