-- `gather::push_bytes` meets its contract.
use mathlib.Core.Path.{◌≡◌, sym, ◌∙◌}
use Prim.Native.Nat.{◌+◌, ◌<◌}
use native.Mathlib.Omega.{arith}
use lib.ListN.{length, get_or}
use Rattle.gather.specs.Gather.{rows_in}
use Rattle.gather.proofs.Pushes.{rows_in_eighth, rows_in_other}
use Rattle.gather.proofs.Strides.{byte_more, none_more}
use Rattle.gather.proofs.push_bytes.Goals.{else-before-i-eq7, then-before-i-eq7}
use Rattle.gather.proofs.push_bytes.Goals as goal

pub loop-i-preserved : goal.loop-i-preserved
loop-i-preserved c =
    let result = c.push-now.ensures in
    let turn = c.loop-i in
    let a = c.args in
    let bytes = a.bytes.now in
    let there : turn.i < length bytes = omega arith in
    let more = byte_more a.before turn.now turn.rows turn.i bytes there in
    let stored : c.if-before-i-eq7.rows ≡ rows_in (a.before + turn.i) turn.now (get_or bytes turn.i 0) turn.rows =
    elim c.if-before-i-eq7.branch [
      | then-before-i-eq7 w ↦ w.rows-is ∙ rw (w.float_of.ensures, result) (sym (rows_in_eighth _ _ _ _ w.if-before-i-eq7.true))
      | else-before-i-eq7 w ↦ w.rows-is ∙ sym (rows_in_other _ _ _ _ w.if-before-i-eq7.false)
    ] in
    rw (result, stored) (sym more.0 ∙ turn.invariant.0, sym more.1 ∙ turn.invariant.1)

pub returns : goal.returns
returns c =
    let turn = c.loop-i in
    let a = c.args in
    let none = none_more (a.before + turn.i) turn.now turn.rows turn.i a.bytes.now (omega arith) in
    record { word = sym none.0 ∙ turn.invariant.0; rows = sym none.1 ∙ turn.invariant.1 }
