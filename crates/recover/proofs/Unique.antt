-- The contract of the public entry leaves no choice: whatever two results it allows of one call are equal.
use mathlib.Core.Path.{sym, ◌∙◌}
use Rattle.float.proofs.One.{One}
use Rattle.recover.proofs.recover_2d_prefix.Kinds as entry
use Rattle.recover.proofs.recover_2d_prefix.Reads as entry-contract

pub recover_2d_prefix_answer : One 1 entry.ps entry.r entry-contract.Post (λ κs z e. z)
recover_2d_prefix_answer κs args z z' e e' h k = h ∙ sym k
