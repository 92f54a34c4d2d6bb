-- `project::first_that_works` meets its contract.
use Rattle.project.proofs.Attempts.{ends, stops, finds, tries_on}
use Rattle.project.proofs.first_that_works.Goals as goal

pub returns-in_err-ok : goal.returns-in_err-ok
returns-in_err-ok c = stops c.loop-x.invariant c.loop-x-test.true c.works.ensures c.in_err-ok.was c.from_residual.ensures.1

pub returns-then-ok : goal.returns-then-ok
returns-then-ok c = finds c.loop-x.invariant c.loop-x-test.true c.works.ensures c.in_ok-ok.was c.if-ok.true

pub loop-x-preserved : goal.loop-x-preserved
loop-x-preserved c = tries_on c.loop-x.invariant c.loop-x-test.true c.works.ensures c.in_ok-ok.was c.if-ok.false

pub returns : goal.returns
returns c = ends c.loop-x.invariant c.loop-x-test.false
