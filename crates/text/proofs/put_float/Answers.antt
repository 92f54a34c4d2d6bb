-- `text::put_float` meets its contract.
use mathlib.Core.List.{[], ◌∷◌}
use native.Mathlib.Omega.{arith}
use lib.Ieee.{binary64, to_bits}
use Rattle.text.specs.Sizes.{longest_float}
use Rattle.text.specs.Text.{hex}
use Rattle.text.specs.Lines.{float_word}
use Rattle.text.proofs.Written.{then_ensured}
use Rattle.text.proofs.Hex.{hex-length}
use Rattle.text.proofs.put_float.Goals as goal

pub returns : goal.returns
unfolding float_word longest_float
returns c =
    let a = c.args in
    let bits = to_bits binary64 a.x in
    let put = rw c.bits_of.ensures at c.put_hex.ensures in
    then_ensured a.out.now a.at (32 ∷ []) (hex bits) (omega (arith, hex-length bits)) c.put-digits.ensures put
