-- `gather::read_floats` meets its contract.
use mathlib.Core.Path.{refl}
use native.Mathlib.Omega.{arith}
use Rattle.record.specs.Bytes.{float, floats as floatsOf}
use Rattle.record.proofs.Bytes.{floats_stored}
use Rattle.gather.proofs.read_floats.Goals as goal

pub loop-i-init : goal.loop-i-init
unfolding floatsOf
loop-i-init c = refl

pub loop-i-preserved : goal.loop-i-preserved
unfolding float
loop-i-preserved c =
    let l = c.loop-i in
    rw (c.float_of.ensures, c.le64.ensures) (floats_stored l.i c.args.bytes.now l.floats (omega arith) l.invariant)
