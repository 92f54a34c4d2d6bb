-- What is left to push behind one byte more, what whole floats leave, and bytes in three parts: for `push_bytes`, `last_of` and `push_rows`.
use mathlib.Core.Path.{◌≡◌, refl, sym, ap, ◌∙◌}
use mathlib.Core.List.{List, [], ◌++◌, append_assoc}
use Prim.Native.Nat.{ℕ, zero, suc, ◌+◌, ◌-◌, ◌*◌, ◌≤◌, ◌<◌}
use native.Mathlib.Nat.{add_assoc, add-sub_cancel_left}
use native.Mathlib.Numerals.{add-one}
use native.Mathlib.Omega.{arith}
use lib.ListN.{length, take, drop, get_or, length-drop, drop_of_length-le}
use lib.Seq.{take_all, drop-cons, drop-drop, sets-eq}
use lib.Ieee.{Float}
use borrow.Rule.Slice.PartMut.{mid_of, put_mid, mid_len}
use Rattle.record.specs.Bytes.{field, floats}
use Rattle.record.proofs.Bytes.{behind, lent, length-floats}
use Rattle.gather.specs.Gather.{pushed, rows_in, word_all, rows_all}
use Rattle.gather.proofs.Pushes.{all_cut, word_of_eight, whole-floats}

-- byte i, then the rest
pub byte_more : (before word : ℕ) (rows : List Float) (i : ℕ) (bytes : List ℕ) → i < length bytes
    → (word_all (before + i) word (drop i bytes) ≡ word_all (before + (i + 1)) (pushed (before + i) word (get_or bytes i 0)) (drop (i + 1) bytes))
    × (rows_all (before + i) word rows (drop i bytes)
    ≡ rows_all (before + (i + 1)) (pushed (before + i) word (get_or bytes i 0)) (rows_in (before + i) word (get_or bytes i 0) rows) (drop (i + 1) bytes))
unfolding word_all rows_all
byte_more before word rows i bytes there = rw (drop-cons bytes i 0 there, ← add_assoc before i 1, add-one i) (refl, refl)

-- no byte is left
pub none_more : (before word : ℕ) (rows : List Float) (i : ℕ) (bytes : List ℕ) → length bytes ≤ i
    → (word_all before word (drop i bytes) ≡ word) × (rows_all before word rows (drop i bytes) ≡ rows)
unfolding word_all rows_all
none_more before word rows i bytes end = rw (drop_of_length-le bytes end) (refl, refl)

-- behind whole floats the word is the last of them
pub last_word : (at word n : ℕ) (bytes : List ℕ) → length bytes ≡ 8 * n → 0 < n → field 8 (8 * (n - 1)) bytes ≡ word_all (8 * at) word bytes
unfolding field
last_word at word n bytes long some =
    let k = 8 * (n - 1) in
    let eight : length (drop k bytes) ≡ 8 = omega (arith, length-drop k bytes) in
    let place : 8 * (at + (n - 1)) ≡ 8 * at + k = omega arith in
    rw (take_all 8 (drop k bytes) (omega arith), ← word_of_eight (at + (n - 1)) (word_all (8 * at) word (take k bytes)) (drop k bytes) eight, place)
    (all_cut (8 * at) word [] k bytes (omega arith)).0

-- n floats, put in the place of those from float `at` on as `&mut rows[at..end]` gives them back
pub put_floats : (n at end word : ℕ) (rows made : List Float) (bytes : List ℕ) → end ≡ at + n → length bytes ≡ 8 * n → end ≤ length rows
    → made ≡ floats (length (mid_of at (end - at) rows)) bytes → put_mid at (end - at) rows made ≡ rows_all (8 * at) word rows bytes
put_floats n at end word rows made bytes e long room is =
    let those : length (mid_of at (end - at) rows) ≡ n = omega (arith, mid_len at end rows room) in
    let all = length-floats n bytes in
    let behind : at + (end - at) ≡ at + length (floats n bytes) = omega (arith, all) in
    ap (put_mid at (end - at) rows) (is ∙ ap (λ k. floats k bytes) those)
    ∙ ap (λ (l : List Float). take at rows ++ (floats n bytes ++ l)) (drop-drop (end - at) at rows ∙ ap (λ k. drop k rows) behind)
    ∙ sym (append_assoc (take at rows) (floats n bytes) _)
    ∙ sym (sets-eq (floats n bytes) rows at (omega (arith, all)))
    ∙ sym (whole-floats n at word rows bytes long)

-- ---- in three parts: n floats in the middle, the first of which is float `at`

-- where none are, `at` does not matter
from_there : (n at from word : ℕ) (rows : List Float) (bytes : List ℕ) → (0 < n → 8 * at ≡ from)
    → (word_all (8 * at) word (take (8 * n) bytes) ≡ word_all from word (take (8 * n) bytes))
    × (rows_all (8 * at) word rows (take (8 * n) bytes) ≡ rows_all from word rows (take (8 * n) bytes))
unfolding word_all rows_all
from_there zero at from word rows bytes begins = (refl, refl)
from_there (suc n) at from word rows bytes begins = rw (begins (omega arith)) (refl, refl)

module _ (before word first n at : ℕ) (rows : List Float) (bytes : List ℕ)
    (there : first + 8 * n ≤ length bytes) (begins : 0 < n → 8 * at ≡ before + first) where
  abbrev last : ℕ
  last = first + 8 * n

  abbrev begun : ℕ
  begun = word_all before word (take first bytes)

  abbrev rows₁ : List Float
  rows₁ = rows_all before word rows (take first bytes)

  abbrev middle : List ℕ
  middle = take (last - first) (drop first bytes)

  pub in_parts : (word_all (before + last) (word_all (8 * at) begun middle) (behind bytes last) ≡ word_all before word bytes)
      × (rows_all (before + last) (word_all (8 * at) begun middle) (rows_all (8 * at) begun rows₁ middle) (behind bytes last) ≡ rows_all before word rows bytes)
  in_parts =
      let from = from_there n at (before + first) begun rows₁ (drop first bytes) begins in
      let front = all_cut before word rows first bytes (omega arith) in
      let back = all_cut (before + first) begun rows₁ (8 * n) (drop first bytes) (omega (arith, length-drop first bytes)) in
      rw (add-sub_cancel_left first (8 * n), lent bytes last, ← drop-drop (8 * n) first bytes, from.0, from.1, ← add_assoc before first (8 * n))
      (back.0 ∙ front.0, back.1 ∙ front.1)
