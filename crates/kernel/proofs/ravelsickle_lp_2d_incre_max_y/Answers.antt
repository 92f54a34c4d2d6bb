-- `kernel::ravelsickle_lp_2d_incre_max_y` meets its contract.
use mathlib.Core.Path.{sym, ap, ◌∙◌}
use Rattle.solve.specs.Solve.{silent}
use Rattle.abi.specs.Records.{source}
use Rattle.kernel.proofs.Refusals.{source_refuses, source-solves}
use Rattle.kernel.proofs.ravelsickle_lp_2d_incre_max_y.Goals as goal

pub returns-then-no_mode-clause-answer : goal.returns-then-no_mode-clause-answer
unfolding source silent
returns-then-no_mode-clause-answer c =
    let refused = source_refuses c.args.task c.args.rows.now (sym c.no_mode.ensures ∙ c.if-no_mode.true) in
    rw refused.2 (rw (c.number_of.ensures, c.refusal_of.ensures, refused.1) at c.refused.ensures)

pub returns-then-no_mode-clause-lent : goal.returns-then-no_mode-clause-lent
returns-then-no_mode-clause-lent c = rw (source_refuses c.args.task c.args.rows.now (sym c.no_mode.ensures ∙ c.if-no_mode.true)).2

pub returns-clause-answer : goal.returns-clause-answer
returns-clause-answer c =
    let args = c.args in
    let e = source-solves args.task args.rows.now (sym c.no_mode.ensures ∙ c.if-no_mode.false) in
    let t = c.task_of.ensures in
    rw (e, ← t) (c.source_of.ensures ∙ ap source c.lp_2d_incre_max_y-got.ensures.answer)

pub returns-clause-lent : goal.returns-clause-lent
returns-clause-lent c =
    let args = c.args in
    let e = source-solves args.task args.rows.now (sym c.no_mode.ensures ∙ c.if-no_mode.false) in
    let t = c.task_of.ensures in
    rw (e, ← t) c.lp_2d_incre_max_y-got.ensures.lent
