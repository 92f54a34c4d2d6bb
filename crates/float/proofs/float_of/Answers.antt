-- `float::float_of` meets its contract: a pattern is a NaN's where all but its sign is above infinity's. Assumes nothing.
use mathlib.Core.Path.{sym, ◌∙◌}
use Prim.Native.Nat.{◌%◌}
use native.Mathlib.Omega.{arith}
use borrow.Author.Tests.{lt-ltb, le-ltb}
use lib.Ieee.{binary64, of_bits}
use lib.Ieee.Bits.{nan_bits_is, nan_bits_above}
use Rattle.float.proofs.Nans.{one_nan}
use Rattle.float.proofs.float_of.Goals as goal

pub float_from_bits-result : goal.float_from_bits-result
float_from_bits-result c =
    let n = c.args.n in
    rw (nan_bits_above binary64 n, le-ltb 0x7FF0_0000_0000_0000 (n % 0x8000_0000_0000_0000) (omega arith)) tt

pub returns-then-magnitude-gt9218868437227405312 : goal.returns-then-magnitude-gt9218868437227405312
returns-then-magnitude-gt9218868437227405312 c =
    let n = c.args.n in
    let above = lt-ltb 0x7FF0_0000_0000_0000 (n % 0x8000_0000_0000_0000) (omega arith) in
    c.nan.ensures ∙ sym (one_nan (of_bits binary64 n) (sym (nan_bits_is binary64 n) ∙ nan_bits_above binary64 n ∙ above))
