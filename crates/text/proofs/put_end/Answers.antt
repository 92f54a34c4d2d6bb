-- `text::put_end` meets its contract.
use mathlib.Core.List.{[], ◌∷◌}
use native.Mathlib.Omega.{arith}
use Rattle.text.specs.Sizes.{longest_end}
use Rattle.text.specs.Lines.{number_word, end_line}
use Rattle.text.proofs.Written.{then_two_ensured}
use Rattle.text.proofs.Lengths.{number-length}
use Rattle.text.proofs.put_end.Goals as goal

pub put-requires : goal.put-requires
unfolding longest_end
put-requires c = omega (arith, number-length c.args.lines)

pub returns : goal.returns
unfolding end_line longest_end
returns c =
    let a = c.args in
    let put = then_two_ensured a.out.now a.at (101 ∷ 110 ∷ 100 ∷ []) (number_word a.lines) (10 ∷ []) (omega (arith, number-length a.lines)) in
    put c.put-word.ensures c.put_number-number.ensures c.put.ensures
