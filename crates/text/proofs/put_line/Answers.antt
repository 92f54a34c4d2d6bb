-- `text::put_line` meets its contract.
use mathlib.Core.List.{[], ◌∷◌}
use native.Mathlib.Omega.{arith}
use Rattle.text.specs.Sizes.{longest_line}
use Rattle.text.specs.Text.{decimal}
use Rattle.text.specs.Lines.{outcome_words, outcome_line}
use Rattle.text.proofs.Written.{then_two_ensured}
use Rattle.text.proofs.Decimal.{decimal-length}
use Rattle.text.proofs.Lengths.{outcome-length}
use Rattle.text.proofs.put_line.Goals as goal

pub put_outcome-words-requires : goal.put_outcome-words-requires
unfolding longest_line
put_outcome-words-requires c = omega (arith, decimal-length c.args.number)

pub put-requires : goal.put-requires
unfolding longest_line
put-requires c =
    let a = c.args in
    omega (arith, decimal-length a.number, outcome-length a.got)

pub returns : goal.returns
unfolding outcome_line longest_line
returns c =
    let a = c.args in
    let number = decimal a.number in
    let outcome = outcome_words a.got in
    let put = then_two_ensured a.out.now a.at number outcome (10 ∷ []) (omega (arith, decimal-length a.number, outcome-length a.got)) in
    put c.put_decimal-begun.ensures c.put_outcome-words.ensures c.put.ensures
