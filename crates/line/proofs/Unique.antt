-- The contract of the public entry leaves no choice: whatever two results it allows of one call are equal.
use mathlib.Core.Path.{sym, ◌∙◌}
use Rattle.float.proofs.One.{One}
use Rattle.line.proofs.lp_1d.Kinds as lp-1d
use Rattle.line.proofs.lp_1d.Reads as lp-1d-contract

pub lp_1d_answer : One 1 lp-1d.ps lp-1d.r lp-1d-contract.Post (λ κs z e. z)
lp_1d_answer κs args z z' e e' h k = h ∙ sym k
