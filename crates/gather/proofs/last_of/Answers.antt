-- `gather::last_of` meets its contract.
use mathlib.Core.Path.{sym, ◌∙◌}
use mathlib.Core.List.{[]}
use Prim.Native.Nat.{◌*◌}
use native.Mathlib.Omega.{arith}
use Rattle.gather.proofs.Strides.{none_more, last_word}
use Rattle.gather.proofs.last_of.Goals as goal

pub returns-then-n-eq0 : goal.returns-then-n-eq0
returns-then-n-eq0 c = let a = c.args in λ at. sym (none_more (8 * at) a.word [] 0 a.bytes.now (omega arith)).0

pub returns : goal.returns
returns c = let a = c.args in λ at. c.le64.ensures ∙ last_word at a.word a.n a.bytes.now (omega arith) (omega arith)
