-- `text::put_answer` meets its contract.
use native.Mathlib.Omega.{arith}
use Rattle.text.specs.Sizes.{longest_answer}
use Rattle.text.specs.Lines.{point_word, level_word, across_word, nothing_word, float_word, answer_words}
use Rattle.text.proofs.Written.{then_ensured, then_two_ensured}
use Rattle.text.proofs.Lengths.{float-length}
use Rattle.text.proofs.put_answer.Goals as goal

pub put_float-requires : goal.put_float-requires
unfolding longest_answer
put_float-requires c = omega (arith, float-length c.in-Point.x)

pub returns-in-Point : goal.returns-in-Point
unfolding answer_words point_word longest_answer
returns-in-Point c =
    let a = c.args in
    let x = c.in-Point.x in
    let y = c.in-Point.y in
    let put = then_two_ensured a.out.now a.at point_word (float_word x) (float_word y) (omega (arith, float-length x, float-length y)) in
    rw c.in-Point.is (put c.put-word.ensures c.put_float-first.ensures c.put_float.ensures)

pub returns-in-Level : goal.returns-in-Level
unfolding answer_words level_word longest_answer
returns-in-Level c =
    let a = c.args in
    let y = c.in-Level.y in
    let put = then_ensured a.out.now a.at level_word (float_word y) (omega (arith, float-length y)) in
    rw c.in-Level.is (put c.put-word-in-Level.ensures c.put_float-in-Level.ensures)

pub returns-in-Across : goal.returns-in-Across
unfolding answer_words across_word longest_answer
returns-in-Across c =
    let a = c.args in
    let x = c.in-Across.x in
    let put = then_ensured a.out.now a.at across_word (float_word x) (omega (arith, float-length x)) in
    rw c.in-Across.is (put c.put-word-in-Across.ensures c.put_float-in-Across.ensures)

pub returns-in-Nothing : goal.returns-in-Nothing
unfolding answer_words nothing_word
returns-in-Nothing c = rw c.in-Nothing.is c.put.ensures
