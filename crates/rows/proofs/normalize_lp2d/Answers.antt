-- `rows::normalize_lp2d` meets its contract. Assumes nothing.
use mathlib.Core.Path.{sym, ◌∙◌}
use native.Mathlib.Omega.{arith}
use lib.ListN.{length}
use Rattle.float.proofs.Passed.{passed_on}
use Rattle.rows.specs.Rows.{normalizing, normalized_flat}
use Rattle.rows.proofs.Refusals.{taken, was_taken, was_refused}
use Rattle.rows.proofs.normalize_lp2d.Goals as goal

pub returns-in_err-n-clause-answer : goal.returns-in_err-n-clause-answer
unfolding normalizing
returns-in_err-n-clause-answer c =
    rw (passed_on _ c.from_residual.ensures.1, was_refused _ _ (sym c.count.ensures ∙ c.in_err-n.was))

pub returns-in_err-n-clause-lent : goal.returns-in_err-n-clause-lent
unfolding normalized_flat
returns-in_err-n-clause-lent c = rw (was_refused _ _ (sym c.count.ensures ∙ c.in_err-n.was))

pub normalize-requires : goal.normalize-requires
normalize-requires c =
    let floats = length c.args.rows.now in
    let was = was_taken _ (sym c.count.ensures ∙ c.in_ok-n.was) in
    omega (arith, taken 3 floats was.0, was.1)

pub returns-clause-answer : goal.returns-clause-answer
unfolding normalizing
returns-clause-answer c = rw (was_taken _ (sym c.count.ensures ∙ c.in_ok-n.was)).0

pub returns-clause-lent : goal.returns-clause-lent
unfolding normalized_flat
returns-clause-lent c = rw (was_taken _ (sym c.count.ensures ∙ c.in_ok-n.was)).0 c.normalize.ensures
