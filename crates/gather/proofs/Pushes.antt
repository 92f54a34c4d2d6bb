-- Bytes of rows pushed one after the other: in parts as at once, and eight from a float's first byte on put the float in its place.
use mathlib.Core.Path.{◌≡◌, refl, sym, ap, ◌∙◌}
use mathlib.Core.List.{List, [], ◌∷◌, ◌++◌}
use Prim.Native.Nat.{ℕ, zero, suc, ◌+◌, ◌*◌, ◌/◌, ◌%◌, ◌^◌, ◌≤◌, ◌<◌}
use native.Mathlib.Nat.{add-zero, add_assoc, one-le-pow, pow-succ', add-mul-div_left, div-div-eq-div-mul}
use native.Mathlib.Numerals.{add-one}
use native.Mathlib.Omega.{arith}
use lib.Dec.{eqb}
use lib.Pow.{pow-add}
use lib.ListN.{length, take, drop, set, length-set, length-drop, take-append-drop}
use lib.Seq.{length-take-le, sets}
use lib.Ieee.{Float, binary64, of_bits}
use borrow.Author.Tests.{eq-eqb, ne_eqb}
use Rattle.float.specs.Operators.{when◌then◌else◌}
use Rattle.record.specs.Bytes.{little, field, float, floats}
use Rattle.gather.specs.Gather.{pushed, rows_in, word_all, rows_all}
use Rattle.gather.proofs.Choice.{either}

-- ---- in parts as at once

one_more : (before n : ℕ) → before + 1 + n ≡ before + suc n
one_more before n = omega arith

pub all_append : (before word : ℕ) (rows : List Float) (xs ys : List ℕ)
    → (word_all before word (xs ++ ys) ≡ word_all (before + length xs) (word_all before word xs) ys)
    × (rows_all before word rows (xs ++ ys) ≡ rows_all (before + length xs) (word_all before word xs) (rows_all before word rows xs) ys)
unfolding word_all rows_all
all_append before word rows [] ys = rw (add-zero before) (refl, refl)
all_append before word rows (b ∷ xs) ys =
    rw (← one_more before (length xs)) (all_append (before + 1) (pushed before word b) (rows_in before word b rows) xs ys)

-- at once what is cut behind k bytes
pub all_cut : (before word : ℕ) (rows : List Float) (k : ℕ) (bytes : List ℕ) → k ≤ length bytes
    → (word_all (before + k) (word_all before word (take k bytes)) (drop k bytes) ≡ word_all before word bytes)
    × (rows_all (before + k) (word_all before word (take k bytes)) (rows_all before word rows (take k bytes)) (drop k bytes) ≡ rows_all before word rows bytes)
all_cut before word rows k bytes there =
    let both = rw (take-append-drop k bytes, length-take-le k bytes there) at (all_append before word rows (take k bytes) (drop k bytes)) in
    (sym both.0, sym both.1)

-- ---- one byte: a float is there with its eighth

pub length-rows_in : (before word b : ℕ) (rows : List Float) → length (rows_in before word b rows) ≡ length rows
unfolding rows_in
length-rows_in before word b rows =
    either (λ (l : List Float). length l ≡ length rows) (eqb (before % 8) 7) (length-set rows (before / 8) (of_bits binary64 (pushed before word b))) refl

pub rows_in_eighth : (before word b : ℕ) (rows : List Float) → before % 8 ≡ 7
    → rows_in before word b rows ≡ set rows (before / 8) (of_bits binary64 (pushed before word b))
unfolding rows_in when◌then◌else◌
rows_in_eighth before word b rows eighth = rw (eq-eqb (before % 8) 7 eighth)

pub rows_in_other : (before word b : ℕ) (rows : List Float) → (before % 8 ≡ 7 → ⊥) → rows_in before word b rows ≡ rows
unfolding rows_in when◌then◌else◌
rows_in_other before word b rows other = rw (ne_eqb (before % 8) 7 other)

-- the first drops the word of the float before
pushed_first : (at word b : ℕ) → pushed (8 * at) word b ≡ b * 2 ^ 56
unfolding pushed when◌then◌else◌
pushed_first at word b = rw (eq-eqb (8 * at % 8) 0 (omega arith)) (omega arith)

pushed_later : (at j word b : ℕ) → 0 < j → j < 8 → pushed (8 * at + j) word b ≡ word / 256 + b * 2 ^ 56
unfolding pushed when◌then◌else◌
pushed_later at j word b later within = rw (ne_eqb ((8 * at + j) % 8) 0 (λ e. omega arith))

-- ---- the bytes of a float from its byte j on

-- p q = 2^56: a word goes down by one byte as the next comes on top
byte_down : (word b p q : ℕ) → 0 < p → p * q ≡ 2 ^ 56 → (word / 256 + b * 2 ^ 56) / p ≡ word / (256 * p) + q * b
byte_down word b p q pos e =
    let top : b * 2 ^ 56 ≡ p * (q * b) = rw (← e) (omega arith) in
    rw (top, add-mul-div_left (word / 256) (q * b) pos, div-div-eq-div-mul word 256 p)

word_from : (at j word : ℕ) (bytes : List ℕ) → 0 < j → j + length bytes ≡ 8
    → word_all (8 * at + j) word bytes ≡ word / 256 ^ length bytes + 256 ^ j * little bytes
unfolding word_all little
word_from at j word [] later all = omega arith
word_from at j word (b ∷ bytes) later all =
    let k = length bytes in
    let seven : k + j ≡ 7 = omega arith in
    let more = word_from at (j + 1) (word / 256 + b * 2 ^ 56) bytes (omega arith) (omega arith) in
    let down = byte_down word b (256 ^ k) (256 ^ j) (one-le-pow k 256 (omega arith)) (sym (pow-add 256 k j) ∙ ap (λ (n : ℕ). 256 ^ n) seven) in
    rw (pushed_later at j word b later (omega arith), add_assoc (8 * at) j 1, more, down, pow-succ' 256 k, pow-add 256 j 1) (omega arith)

rows_from : (at j word b : ℕ) (rows : List Float) (bytes : List ℕ) → j + length (b ∷ bytes) ≡ 8
    → rows_all (8 * at + j) word rows (b ∷ bytes) ≡ set rows at (of_bits binary64 (word_all (8 * at + j) word (b ∷ bytes)))
unfolding word_all rows_all
rows_from at j word b rows [] all =
    let here : (8 * at + j) / 8 ≡ at = omega arith in
    rw here at (rows_in_eighth (8 * at + j) word b rows (omega arith))
rows_from at j word b rows (b' ∷ bytes) all =
    rw (rows_in_other (8 * at + j) word b rows (λ e. omega arith), add_assoc (8 * at) j 1)
    (rows_from at (j + 1) (pushed (8 * at + j) word b) b' rows bytes (omega arith))

-- ---- eight bytes from a float's first byte on

pub word_of_eight : (at word : ℕ) (bytes : List ℕ) → length bytes ≡ 8 → word_all (8 * at) word bytes ≡ little bytes
unfolding word_all little
word_of_eight at word [] all = absurd (omega arith)
word_of_eight at word (b ∷ bytes) all =
    let seven : length bytes ≡ 7 = omega arith in
    rw (pushed_first at word b, word_from at 1 (b * 2 ^ 56) bytes (omega arith) (omega arith), seven) (omega arith)

rows_of_eight : (at word : ℕ) (rows : List Float) (bytes : List ℕ) → length bytes ≡ 8
    → rows_all (8 * at) word rows bytes ≡ set rows at (of_bits binary64 (little bytes))
rows_of_eight at word rows [] all = absurd (omega arith)
rows_of_eight at word rows (b ∷ bytes) all =
    rw (← word_of_eight at word (b ∷ bytes) all) (rw (add-zero (8 * at)) at (rows_from at 0 word b rows bytes (omega arith)))

-- ---- m floats from float `at` on

pub whole-floats : (m at word : ℕ) (rows : List Float) (bytes : List ℕ) → length bytes ≡ 8 * m
    → rows_all (8 * at) word rows bytes ≡ sets rows at (floats m bytes)
unfolding rows_all floats float field
whole-floats zero at word rows [] all = refl
whole-floats zero at word rows (b ∷ bytes) all = absurd (omega arith)
whole-floats (suc m) at word rows bytes all =
    let eight = length-take-le 8 bytes (omega arith) in
    let next : 8 * at + 8 ≡ 8 * (at + 1) = omega arith in
    let left : length (drop 8 bytes) ≡ 8 * m = omega (arith, length-drop 8 bytes) in
    sym (all_cut (8 * at) word rows 8 bytes (omega arith)).1
    ∙ rw (rows_of_eight at word rows (take 8 bytes) eight, next)
    (whole-floats m (at + 1) (word_all (8 * at) word (take 8 bytes)) (set rows at (float 0 bytes)) (drop 8 bytes) left ∙ rw (add-one at))
