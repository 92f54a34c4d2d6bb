-- `solve::refusal_of` meets its contract.
use Rattle.rows.proofs.Refusals.{unless_err}
use Rattle.solve.specs.Solve.{refusal_of}
use Rattle.solve.proofs.refusal_of.Goals as goal

pub returns : goal.returns
unfolding refusal_of
returns c = rw (c.err.ensures.value, c.count.ensures) (unless_err _ _)
