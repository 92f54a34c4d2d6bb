-- The contracts of the entries leave no choice: whatever two results and exit states they allow of one call, the results are equal, and so are the
-- floats that the lent slice is left with.
use mathlib.Core.Path.{sym, ◌∙◌}
use Rattle.float.proofs.One.{One}
use Rattle.solve.proofs.refusal_of.Kinds as refusal-of
use Rattle.solve.proofs.refusal_of.Reads as refusal-of-contract
use Rattle.solve.proofs.solve.Kinds as solve
use Rattle.solve.proofs.solve.Reads as solve-contract
use Rattle.solve.proofs.lp_2d_incre_max_y.Kinds as lp-2d-incre-max-y
use Rattle.solve.proofs.lp_2d_incre_max_y.Reads as lp-2d-incre-max-y-contract

pub refusal_of_answer : One 1 refusal-of.ps refusal-of.r refusal-of-contract.Post (λ κs z e. z)
refusal_of_answer κs args z z' e e' h k = h ∙ sym k

pub solve-answer : One 1 solve.ps solve.r solve-contract.Post (λ κs z e. z)
solve-answer κs args z z' e e' h k = h.0 ∙ sym k.0

pub solve_lent : One 1 solve.ps solve.r solve-contract.Post (λ κs z e. e.0.now)
solve_lent κs args z z' e e' h k = h.1 ∙ sym k.1

pub lp_2d_incre_max_y_answer : One 1 lp-2d-incre-max-y.ps lp-2d-incre-max-y.r lp-2d-incre-max-y-contract.Post (λ κs z e. z)
lp_2d_incre_max_y_answer κs args z z' e e' h k = h.0 ∙ sym k.0

pub lp_2d_incre_max_y_lent : One 1 lp-2d-incre-max-y.ps lp-2d-incre-max-y.r lp-2d-incre-max-y-contract.Post (λ κs z e. e.0.now)
lp_2d_incre_max_y_lent κs args z z' e e' h k = h.1 ∙ sym k.1
