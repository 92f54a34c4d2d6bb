-- `kernel::ravelsickle_solve` meets its contract.
use mathlib.Core.Path.{sym, ap, ◌∙◌}
use Rattle.abi.specs.Records.{solved}
use Rattle.kernel.proofs.Refusals.{solving_refuses, solving-solves}
use Rattle.kernel.proofs.ravelsickle_solve.Goals as goal

pub returns-then-no_mode-clause-answer : goal.returns-then-no_mode-clause-answer
unfolding solved
returns-then-no_mode-clause-answer c =
    let refused = solving_refuses c.args.task c.args.rows.now (sym c.no_mode.ensures ∙ c.if-no_mode.true) in
    rw refused.2 (rw (c.number_of.ensures, c.refusal_of.ensures, refused.1) at c.unsolved.ensures)

pub returns-then-no_mode-clause-lent : goal.returns-then-no_mode-clause-lent
returns-then-no_mode-clause-lent c = rw (solving_refuses c.args.task c.args.rows.now (sym c.no_mode.ensures ∙ c.if-no_mode.true)).2

pub returns-clause-answer : goal.returns-clause-answer
returns-clause-answer c =
    let args = c.args in
    let e = solving-solves args.task args.rows.now (sym c.no_mode.ensures ∙ c.if-no_mode.false) in
    let t = c.task_of.ensures in
    rw (e, ← t) (c.solved_of.ensures ∙ ap solved c.solve-got.ensures.answer)

pub returns-clause-lent : goal.returns-clause-lent
returns-clause-lent c =
    let args = c.args in
    let e = solving-solves args.task args.rows.now (sym c.no_mode.ensures ∙ c.if-no_mode.false) in
    let t = c.task_of.ensures in
    rw (e, ← t) c.solve-got.ensures.lent
