-- The contracts of the public entries leave no choice: whatever two results and exit states they allow of one call, the results are equal, and so are the
-- floats that a lent slice is left with.
use mathlib.Core.Path.{sym, ◌∙◌}
use Rattle.float.proofs.One.{One}
use Rattle.rows.proofs.normalize_lp2d.Kinds as normalize
use Rattle.rows.proofs.normalize_lp2d.Reads as normalize-contract
use Rattle.rows.proofs.solve_2x2.Kinds as solve
use Rattle.rows.proofs.solve_2x2.Reads as solve-contract

pub normalize_lp2d_answer : One 1 normalize.ps normalize.r normalize-contract.Post (λ κs z e. z)
normalize_lp2d_answer κs args z z' e e' h k = h.0 ∙ sym k.0

pub normalize_lp2d_lent : One 1 normalize.ps normalize.r normalize-contract.Post (λ κs z e. e.0.now)
normalize_lp2d_lent κs args z z' e e' h k = h.1 ∙ sym k.1

pub solve_2x2_answer : One 0 solve.ps solve.r solve-contract.Post (λ κs z e. z)
solve_2x2_answer κs args z z' e e' h k = h ∙ sym k
