-- `kernel::ravelsickle_normalize` meets its contract.
use Rattle.abi.specs.Records.{of_normalized}
use Rattle.kernel.proofs.ravelsickle_normalize.Goals as goal

pub returns-in-Ok-clause-answer : goal.returns-in-Ok-clause-answer
unfolding of_normalized
returns-in-Ok-clause-answer c = rw (← c.normalize_lp2d.ensures.answer, c.in-Ok.is)

pub returns-in-Err-clause-answer : goal.returns-in-Err-clause-answer
unfolding of_normalized
returns-in-Err-clause-answer c = rw (← c.normalize_lp2d.ensures.answer, c.in-Err.is) c.from.ensures
