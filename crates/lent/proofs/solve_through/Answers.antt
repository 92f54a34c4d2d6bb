-- `lent::solve_through` meets its contract: the records, gathered into the first of the floats, solved there and scattered back, are the solve of records.
-- Assumes nothing.
use Rattle.std.proofs.Common.{arith}
use Rattle.lent.proofs.Prefix.{answer, lent}
use Rattle.lent.proofs.solve_through.Goals as goal

pub whole_as_slice-gather : goal.whole_as_slice-gather
whole_as_slice-gather g c = omega arith

pub returns-clause-answer : goal.returns-clause-answer
returns-clause-answer g c =
    answer c.args.task c.args.allowance c.args.rows.now c.gather.new.flat (omega arith) c.gather.ensures c.solve_first-outcome.ensures.answer

pub returns-clause-lent : goal.returns-clause-lent
returns-clause-lent g c =
    lent c.args.task c.args.allowance c.args.rows.now c.gather.new.flat (omega arith) c.gather.ensures c.solve_first-outcome.new.flat c.scatter.new.rows
    (omega arith) (omega arith) c.solve_first-outcome.ensures.lent c.scatter.ensures
