-- The decimal digits of a number: there are no more than have room, and they can be spelled one by one from the last to the first.
use mathlib.Core.Path.{◌≡◌, ◌∙◌}
use mathlib.Core.Bool.{Bool, true, false}
use mathlib.Core.List.{List, [], ◌∷◌, ◌++◌, append-nil, append_assoc}
use Prim.Native.Nat.{ℕ, zero, suc, ◌+◌, ◌/◌, ◌%◌, ◌^◌, ◌≤◌, ◌<◌}
use native.Mathlib.Omega.{arith}
use native.Mathlib.Numerals.{add-one}
use lib.Dec.{ltb}
use lib.ListN.{length, drop, set, length-append, length-set, drop_of_length-le}
use lib.Seq.{drop-cons, get_or-set_same, drop-set-lt}
use borrow.Author.Tests.{lt-ltb, le-ltb}
use Rattle.float.specs.Operators.{when◌then◌else◌}
use Rattle.text.specs.Sizes.{longest_decimal}
use Rattle.text.specs.Text.{glyph, decimal_within, decimal}

longer : (b : Bool) (only last : ℕ) (rest : List ℕ) (k : ℕ) → length rest ≤ k → length (when b then only ∷ [] else rest ++ last ∷ []) ≤ suc k
unfolding when◌then◌else◌
longer true only last rest k h = omega arith
longer false only last rest k h = simp length-append (omega arith)

within-length : (k n : ℕ) → length (decimal_within k n) ≤ k
unfolding decimal_within
within-length zero n = omega arith
within-length (suc k) n = longer (ltb n 10) (glyph n) (glyph (n % 10)) (decimal_within k (n / 10)) k (within-length k (n / 10))

pub decimal-length : (n : ℕ) → length (decimal n) ≤ longest_decimal
unfolding decimal
decimal-length n = within-length longest_decimal n

-- ---- spelled from the last to the first: behind `at` stand digits, and `rest` is the number that they leave

pub none_spelled : (n : ℕ) (digits : List ℕ) → length digits ≡ longest_decimal → decimal_within longest_decimal n ++ drop longest_decimal digits ≡ decimal n
unfolding decimal
none_spelled n digits filled =
    let none = drop_of_length-le digits {i = longest_decimal} (omega arith) in
    rw none (append-nil (decimal n))

-- a number of several digits does not fit into the first place
pub place_left : (rest at : ℕ) → 9 < rest → rest < 10 ^ (at + 1) → 0 < at
place_left rest zero several fits = absurd (omega arith)
place_left rest (suc k) several fits = omega arith

digit_put : (digits : List ℕ) (at d : ℕ) → at < length digits → drop at (set digits at d) ≡ d ∷ drop (suc at) digits
digit_put digits at d inside =
    rw (drop-cons (set digits at d) at 0 (simp length-set inside), get_or-set_same, drop-set-lt (suc at) digits at d (omega arith))

module _ (n rest at : ℕ) (digits : List ℕ) (inside : at < length digits) (left : decimal_within (at + 1) rest ++ drop (at + 1) digits ≡ decimal n) where
  pub one_more_spelled : 9 < rest → decimal_within at (rest / 10) ++ drop at (set digits at (48 + rest % 10)) ≡ decimal n
  unfolding decimal_within glyph when◌then◌else◌
  one_more_spelled several =
      let last = digit_put digits at (48 + rest % 10) inside in
      rw last (rw (add-one at, le-ltb rest 10 (omega arith), lt-ltb (rest % 10) 10 (omega arith), append_assoc) at left)

  pub all_spelled : rest ≤ 9 → drop at (set digits at (48 + rest)) ≡ decimal n
  unfolding decimal_within glyph when◌then◌else◌
  all_spelled one = digit_put digits at (48 + rest) inside ∙ rw (add-one at, lt-ltb rest 10 (omega arith)) at left
