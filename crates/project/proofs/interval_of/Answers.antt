-- `project::interval_of` meets its contract.
use mathlib.Core.Path.{sym, ◌∙◌}
use lib.Ieee.{neg}
use Rattle.project.specs.Project.{everywhere}
use Rattle.project.proofs.Cuts.{ends-crossed, ends, stops, keeps, empties}
use Rattle.project.proofs.interval_of.Goals as goal

pub loop-i-init : goal.loop-i-init
unfolding everywhere neg
loop-i-init c = record { gives = rw c.infinity-top.ensures }

pub returns-in_err-rest : goal.returns-in_err-rest
returns-in_err-rest c = stops c.loop-i.invariant c.loop-i-test.true c.requires c.pay.ensures c.in_err-rest.was c.from_residual.ensures.1

pub returns-in-None : goal.returns-in-None
returns-in-None c =
    empties c.loop-i.invariant c.loop-i-test.true c.requires c.pay.ensures c.in_ok-rest.was
    (rw (← c.row_at.ensures) (sym c.cut_by.ensures ∙ c.in-None.is))

pub loop-i-preserved : goal.loop-i-preserved
loop-i-preserved c =
    keeps c.loop-i.invariant c.loop-i-test.true c.requires c.pay.ensures c.in_ok-rest.was
    (rw (← c.row_at.ensures) (sym c.cut_by.ensures ∙ c.in-Some.is))

pub returns-then-v : goal.returns-then-v
returns-then-v c = ends-crossed c.loop-i.invariant c.loop-i-test.false c.if-v.true

pub returns : goal.returns
returns c = ends c.loop-i.invariant c.loop-i-test.false c.if-v.false
