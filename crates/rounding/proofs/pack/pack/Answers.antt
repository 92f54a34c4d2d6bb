-- `rounding::pack::pack` meets its contract.
use Rattle.std.proofs.Common.{◌≡◌, ℕ, true, false, add-zero}
use lib.Ieee.{binary64, units, of_bits}
use Rattle.rounding.specs.Near.{Pattern}
use Rattle.rounding.proofs.Packed.{no_nan}
use Rattle.rounding.proofs.pack.pack.Goals as goal

positive : {k q b : ℕ} → Pattern k q b → of_bits binary64 b ≡ units binary64 false q k
positive {b} p = rw (add-zero b) at (p.reads false)

pub float_from_bits-result : goal.float_from_bits-result
float_from_bits-result c = no_nan _ true _ _ (c.magnitude-b.ensures.reads true)

pub float_from_bits-result-else-neg : goal.float_from_bits-result-else-neg
float_from_bits-result-else-neg c = no_nan _ false _ _ (positive c.magnitude-b.ensures)
