-- `line::pair_at` meets its contract.
use mathlib.Core.Path.{sym}
use Rattle.float.specs.Float.{zero}
use Rattle.line.proofs.Pairs.{pair_of}
use borrow.Author.Rules.{rules}
use Rattle.line.proofs.pair_at.Goals as goal

pub returns : goal.returns
unfolding zero
returns c = let a = c.args in sym (pair_of a.pairs.now a.k (search rules))
