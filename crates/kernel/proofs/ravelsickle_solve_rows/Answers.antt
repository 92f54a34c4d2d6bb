-- `kernel::ravelsickle_solve_rows` meets its contract.
use mathlib.Core.Path.{sym, ap, ◌∙◌}
use Rattle.abi.specs.Records.{solved}
use Rattle.kernel.proofs.Refusals.{rows_refuse, rows-solve}
use Rattle.kernel.proofs.ravelsickle_solve_rows.Goals as goal

pub returns-then-no_mode-clause-answer : goal.returns-then-no_mode-clause-answer
unfolding solved
returns-then-no_mode-clause-answer c =
    let refused = rows_refuse c.args.task c.args.rows.now (sym c.no_mode.ensures ∙ c.if-no_mode.true) in
    rw refused.2 (rw refused.1 at c.unsolved_rows.ensures)

pub returns-then-no_mode-clause-lent : goal.returns-then-no_mode-clause-lent
returns-then-no_mode-clause-lent c = rw (rows_refuse c.args.task c.args.rows.now (sym c.no_mode.ensures ∙ c.if-no_mode.true)).2

pub returns-clause-answer : goal.returns-clause-answer
returns-clause-answer c =
    let e = rows-solve c.args.task c.args.rows.now (sym c.no_mode.ensures ∙ c.if-no_mode.false) in
    let t = c.task_of.ensures in
    rw (e, ← t) (c.solved_of.ensures ∙ ap solved c.solve_rows-got.ensures.answer)

pub returns-clause-lent : goal.returns-clause-lent
returns-clause-lent c =
    let e = rows-solve c.args.task c.args.rows.now (sym c.no_mode.ensures ∙ c.if-no_mode.false) in
    let t = c.task_of.ensures in
    rw (e, ← t) c.solve_rows-got.ensures.lent
