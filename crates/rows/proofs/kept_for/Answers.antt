-- `rows::kept_for` meets its contract. Assumes nothing.
use Rattle.rows.proofs.Squares.{equals_itself}
use Rattle.rows.proofs.kept_for.Goals as goal

pub returns : goal.returns
returns c = (equals_itself c.args.square c.requires.2, c.root_pair-both.ensures)
