-- The contracts of the public entries leave no choice: whatever two results they allow of one call are equal.
use Rattle.std.proofs.Common.{sym, ◌∙◌}
use Rattle.float.proofs.One.{One}
use Rattle.rounding.proofs.root.root.Kinds as root
use Rattle.rounding.proofs.root.root.Reads as root-contract
use Rattle.rounding.proofs.fused.fused.Kinds as fused
use Rattle.rounding.proofs.fused.fused.Reads as fused-contract

pub root_answer : One 0 root.ps root.r root-contract.Post (λ κs z e. z)
root_answer κs args z z' e e' h k = h ∙ sym k

pub fused-answer : One 0 fused.ps fused.r fused-contract.Post (λ κs z e. z)
fused-answer κs args z z' e e' h k = h ∙ sym k
