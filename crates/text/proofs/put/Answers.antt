-- `text::put` meets its contract. The loop's invariant: the first i bytes of the text are copied.
use mathlib.Core.Path.{◌≡◌, ◌∙◌}
use native.Mathlib.Omega.{arith}
use native.Mathlib.Numerals.{add-one}
use lib.ListN.{length}
use lib.Seq.{paste-suc}
use Rattle.text.proofs.Written.{copied_all}
use Rattle.text.proofs.put.Goals as goal

pub loop-i-preserved : goal.loop-i-preserved
loop-i-preserved c =
    let l = c.loop-i in
    let a = c.args in
    let copied = paste-suc a.out.now a.at a.text.now l.i 0 (omega arith) (omega arith) in
    rw (l.invariant, add-one l.i) copied

pub returns-clause-out : goal.returns-clause-out
returns-clause-out c =
    let l = c.loop-i in
    let a = c.args in
    let all : l.i ≡ length a.text.now = omega arith in
    l.invariant ∙ rw all (copied_all a.out.now a.at a.text.now)
