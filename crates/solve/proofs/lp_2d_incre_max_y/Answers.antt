-- `solve::lp_2d_incre_max_y` meets its contract: no solve takes as many readings as it is allowed.
use mathlib.Core.Path.{◌≡◌}
use mathlib.Core.List.{List}
use native.Mathlib.Omega.{arith}
use lib.Ieee.{Float}
use Rattle.float.proofs.Passed.{passed_on}
use Rattle.once.specs.declared.Task.{Task}
use Rattle.solve.specs.Solve.{silent, solve, lp2d_incre_max_y}
use Rattle.solve.proofs.Unlimited.{unlimited}
use Rattle.solve.proofs.lp_2d_incre_max_y.Goals as goal

enough : (T : Task) (flat : List Float) → solve T 18446744073709551615 flat ≡ lp2d_incre_max_y T flat
enough T flat = unlimited T flat 18446744073709551615 (omega arith)

pub returns-in_err-got-clause-answer : goal.returns-in_err-got-clause-answer
unfolding silent
returns-in_err-got-clause-answer c =
    rw (← enough c.args.task c.args.rows.now, ← c.solve.ensures.answer, c.in_err-got.was) (passed_on _ c.from_residual.ensures.1)

pub returns-in_err-got-clause-lent : goal.returns-in_err-got-clause-lent
returns-in_err-got-clause-lent c = rw (← enough c.args.task c.args.rows.now) c.solve.ensures.lent

pub returns-clause-answer : goal.returns-clause-answer
unfolding silent
returns-clause-answer c = rw (← enough c.args.task c.args.rows.now, ← c.solve.ensures.answer, c.in_ok-got.was)

pub returns-clause-lent : goal.returns-clause-lent
returns-clause-lent c = rw (← enough c.args.task c.args.rows.now) c.solve.ensures.lent
