-- `text::put_number` meets its contract.
use mathlib.Core.List.{[], ◌∷◌}
use native.Mathlib.Omega.{arith}
use Rattle.text.specs.Sizes.{longest_number}
use Rattle.text.specs.Text.{decimal}
use Rattle.text.specs.Lines.{number_word}
use Rattle.text.proofs.Written.{then_ensured}
use Rattle.text.proofs.Decimal.{decimal-length}
use Rattle.text.proofs.put_number.Goals as goal

pub returns : goal.returns
unfolding number_word longest_number
returns c =
    let a = c.args in
    then_ensured a.out.now a.at (32 ∷ []) (decimal a.n) (omega (arith, decimal-length a.n)) c.put-digits.ensures c.put_decimal.ensures
