-- `rowrun::write_whole`: what a turn writes stands behind what was written.
use Rattle.std.proofs.Common.{◌++◌, length, take, sym, ap, ◌∙◌, subst}
use native.Mathlib.Omega.{arith}
use lib.ListN.{length-drop}
use lib.Seq.{take-add}
use Rattle.std.specs.Io.KnownBytes.{Appends}
use Rattle.std.proofs.KnownBytes.{Appends-trans}
use Rattle.record.proofs.Bytes.{lent}
use Rattle.rowrun.proofs.write_whole.Goals as goal

pub loop-done-preserved : goal.loop-done-preserved
loop-done-preserved g c =
    let text = c.args.text.now in
    let done = c.loop-done.done in
    let put = c.in_ok-put.put in
    let both = ap (λ l. take done text ++ take put l) (lent text done) ∙ sym (take-add done put text) in (
      omega (arith, c.in_ok-put.ensures.bound, ap length (lent text done), length-drop done text),
      subst (Appends _ _) both (Appends-trans _ _ _ _ _ c.loop-done.invariant.1 c.in_ok-put.ensures.bytes),
    )
