-- How long the words and lines are at most.
use mathlib.Core.Path.{◌≡◌}
use Prim.Native.Nat.{ℕ, ◌≤◌}
use native.Mathlib.Omega.{arith}
use lib.Ieee.{Float, binary64, to_bits}
use lib.ListN.{length, length-append}
use Rattle.std.specs.Prelude.{Option, Some, None, Ok, Err}
use Rattle.solve.specs.declared.Answer.{Answer}
use Rattle.solve.specs.declared.Answer.TheVariants.{Point, Level, Across, Nothing}
use Rattle.solve.specs.Solve.{Outcome, number_of}
use Rattle.text.specs.Sizes.{longest_number, longest_float, longest_answer, longest_refusal, longest_outcome}
use Rattle.text.specs.Lines.{point_word, level_word, across_word, nothing_word, refused_word, number_word, float_word, slot_word}
use Rattle.text.specs.Lines.{answer_words, refusal_words, outcome_words}
use Rattle.text.proofs.Decimal.{decimal-length}
use Rattle.text.proofs.Hex.{hex-length}

pub number-length : (n : ℕ) → length (number_word n) ≤ longest_number
unfolding number_word longest_number
number-length n = omega (arith, decimal-length n)

pub float-length : (x : Float) → length (float_word x) ≡ longest_float
unfolding float_word longest_float
float-length x = omega (arith, hex-length (to_bits binary64 x))

pub slot-length : (s : Option ℕ) → length (slot_word s) ≤ longest_number
unfolding slot_word longest_number
slot-length None = omega arith
slot-length (Some k) = number-length k

pub answer-length : (a : Answer) → length (answer_words a) ≤ longest_answer
unfolding answer_words point_word level_word across_word nothing_word longest_answer
answer-length (Point x y) = simp length-append (omega (arith, float-length x, float-length y))
answer-length (Level y) = simp length-append (omega (arith, float-length y))
answer-length (Across x) = simp length-append (omega (arith, float-length x))
answer-length Nothing = omega arith

refusal-length : (k : ℕ) → length (refusal_words k) ≤ longest_refusal
unfolding refusal_words refused_word longest_refusal
refusal-length k = simp length-append (omega (arith, number-length k))

pub outcome-length : (got : Outcome) → length (outcome_words got) ≤ longest_outcome
unfolding outcome_words longest_outcome longest_refusal
outcome-length (Ok got) =
    let act = got.active in
    simp length-append (omega (arith, answer-length got.answer, slot-length act.first, slot-length act.second, number-length got.count))
outcome-length (Err why) = omega (arith, refusal-length (number_of why))
