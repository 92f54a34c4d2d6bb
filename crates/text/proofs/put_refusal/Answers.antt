-- `text::put_refusal` meets its contract.
use native.Mathlib.Omega.{arith}
use Rattle.text.specs.Sizes.{longest_refusal}
use Rattle.text.specs.Lines.{refused_word, number_word, refusal_words}
use Rattle.text.proofs.Written.{then_ensured}
use Rattle.text.proofs.Lengths.{number-length}
use Rattle.text.proofs.put_refusal.Goals as goal

pub returns : goal.returns
unfolding refusal_words refused_word longest_refusal
returns c =
    let a = c.args in
    then_ensured a.out.now a.at refused_word (number_word a.k) (omega (arith, number-length a.k)) c.put-word.ensures c.put_number.ensures
