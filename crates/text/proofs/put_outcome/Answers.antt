-- `text::put_outcome` meets its contract.
use mathlib.Core.List.{◌++◌}
use Prim.Native.Nat.{◌+◌, ◌≤◌}
use native.Mathlib.Omega.{arith}
use lib.ListN.{length, length-append}
use Rattle.text.specs.Sizes.{longest_outcome}
use Rattle.text.specs.Lines.{number_word, slot_word, answer_words, outcome_words}
use Rattle.text.proofs.Written.{then_ensured, then_two_ensured}
use Rattle.text.proofs.Lengths.{number-length, slot-length, answer-length}
use Rattle.text.proofs.put_outcome.Goals as goal

pub put_slot-first-requires : goal.put_slot-first-requires
unfolding longest_outcome
put_slot-first-requires c = omega (arith, answer-length c.in-Ok.solved.answer)

pub put_slot-second-requires : goal.put_slot-second-requires
unfolding longest_outcome
put_slot-second-requires c =
    let g = c.in-Ok.solved in
    omega (arith, answer-length g.answer, slot-length g.active.first)

pub put_number-requires : goal.put_number-requires
unfolding longest_outcome
put_number-requires c =
    let g = c.in-Ok.solved in
    omega (arith, answer-length g.answer, slot-length g.active.first, slot-length g.active.second)

pub returns-in-Ok : goal.returns-in-Ok
unfolding outcome_words longest_outcome
returns-in-Ok c =
    let g = c.in-Ok.solved in
    let a = c.args in
    let words = answer_words g.answer in
    let first = slot_word g.active.first in
    let second = slot_word g.active.second in
    let count = number_word g.count in
    let room : a.at + length words + length first + length second + length count ≤ length a.out.now =
    omega (arith, answer-length g.answer, slot-length g.active.first, slot-length g.active.second, number-length g.count) in
    let rows = then_two_ensured a.out.now a.at words first second (omega arith) in
    let before = rows c.put_answer-words.ensures c.put_slot-first.ensures c.put_slot-second.ensures in
    rw c.in-Ok.is (then_ensured a.out.now a.at (words ++ first ++ second) count (simp length-append (omega arith)) before c.put_number.ensures)
