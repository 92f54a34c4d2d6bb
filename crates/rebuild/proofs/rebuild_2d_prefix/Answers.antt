-- `rebuild::rebuild_2d_prefix` meets its contract: at each turn row i is next, and what is left of the search gives the whole.
use native.Mathlib.Omega.{arith}
use borrow.Author.Rules.{rules}
use Rattle.rebuild.proofs.Search.{search_ends, search_spent, search_won, search_goes_on}
use Rattle.rebuild.proofs.rebuild_2d_prefix.Goals as goal

pub returns-in_err-turn : goal.returns-in_err-turn
returns-in_err-turn c =
    search_spent c.loop-i.invariant (search rules) (search rules) c.turn_of.ensures c.in_err-turn.was c.from_residual.ensures.1

pub returns-in-Won : goal.returns-in-Won
returns-in-Won c = search_won c.loop-i.invariant (search rules) (search rules) c.turn_of.ensures (rw c.in-Won.is at c.in_ok-turn.was)

pub loop-i-preserved : goal.loop-i-preserved
loop-i-preserved c = search_goes_on c.loop-i.invariant (search rules) (search rules) c.turn_of.ensures (rw c.in-On.is at c.in_ok-turn.was)

pub returns : goal.returns
returns c = search_ends c.loop-i.invariant (omega arith)
