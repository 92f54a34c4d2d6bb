-- `solve::solve` meets its contract.
use mathlib.Core.Path.{sym, ◌∙◌}
use native.Mathlib.Omega.{arith}
use Rattle.solve.specs.Solve.{allowed, solve}
use Rattle.solve.proofs.Refusals.{refusal_0}
use Rattle.solve.proofs.Allowance.{solve_refuses, takes}
use Rattle.solve.proofs.solve.Goals as goal

pub of_rows-requires : goal.of_rows-requires
of_rows-requires c =
    let a = c.args in
    omega (arith, (refusal_0 a.task a.rows.now).0 (sym c.refusal_of.ensures ∙ c.in-None.is))

pub returns-in-Some-clause-answer : goal.returns-in-Some-clause-answer
returns-in-Some-clause-answer c =
    let a = c.args in
    rw (solve_refuses a.task a.rows.now a.allowance (sym c.refusal_of.ensures ∙ c.in-Some.is))

pub returns-in-Some-clause-lent : goal.returns-in-Some-clause-lent
returns-in-Some-clause-lent c =
    let a = c.args in
    rw (solve_refuses a.task a.rows.now a.allowance (sym c.refusal_of.ensures ∙ c.in-Some.is))

pub returns-in-None-clause-answer : goal.returns-in-None-clause-answer
unfolding solve
returns-in-None-clause-answer c =
    let a = c.args in
    rw (takes a.task (allowed a.task a.allowance) a.rows.now (sym c.refusal_of.ensures ∙ c.in-None.is)) c.of_rows.ensures.answer

pub returns-in-None-clause-lent : goal.returns-in-None-clause-lent
unfolding solve
returns-in-None-clause-lent c =
    let a = c.args in
    rw (takes a.task (allowed a.task a.allowance) a.rows.now (sym c.refusal_of.ensures ∙ c.in-None.is)) c.of_rows.ensures.lent
