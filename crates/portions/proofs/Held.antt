-- What a reader holds of the bytes seen of the record in hand: the first ones, as many as are kept, and of rows that are kept the fold over their bytes.
-- Each byte leaves it so; and where the record is all there, what is answered is what comes of the record.
use mathlib.Core.Path.{◌≡◌, refl, sym, ap, ◌∙◌}
use mathlib.Core.Bool.{true, false}
use mathlib.Core.List.{List, [], ◌∷◌, ◌++◌}
use Prim.Native.Nat.{ℕ, zero, suc, ◌+◌, ◌-◌, ◌*◌, ◌≤◌, ◌<◌}
use native.Mathlib.Decide.{dec_le}
use native.Mathlib.Nat.{zero-add}
use native.Mathlib.Numerals.{add-one}
use native.Mathlib.Omega.{arith}
use lib.Dec.{ltb}
use lib.ListN.{length, take, drop, set, length-append, length-drop, drop_of_length-le}
use lib.Seq.{take-length, take_all, take-append-le, drop-append-le, take-set-le, take-suc-set, sets-eq}
use lib.Ieee.{Float}
use borrow.Author.Tests.{lt-ltb, le-ltb, ltb-true, ltb-false}
use Rattle.float.specs.Operators.{when◌then◌else◌}
use Rattle.record.specs.Sizes.{header_bytes, field_bytes, row_bytes, rows_at, most_floats}
use Rattle.record.specs.Bytes.{floats}
use Rattle.record.specs.Record.{body_length, kind, size, float_count, row_floats, answered, outcome}
use Rattle.record.proofs.Bytes.{length-floats}
use Rattle.record.proofs.Refusals.{solved-length}
use Rattle.gather.specs.Gather.{pushed, rows_in, word_all, rows_all}
use Rattle.reader.specs.Reader.{State, state, unfinished, kept, keeps_rows, in_rows, head_with, word_with, rows_with, placed}
use Rattle.gather.proofs.Choice.{either}
use Rattle.gather.proofs.Pushes.{all_append, whole-floats}
use Rattle.portions.proofs.Lengths.{length-placed}
use Rattle.reader.proofs.Kept.{kept_between, rows-kept}
use Rattle.reader.proofs.Alike.{same_told}
use Rattle.reader.proofs.Places.{has_header, unfinished_is}
use Rattle.portions.proofs.Alike.{same_outcome, more_told}

-- ---- the word and the floats that the bytes of rows leave, whatever there was before

-- whole floats are there, from the first on
pub stored : (m word : ℕ) (rows : List Float) (bytes : List ℕ) → length bytes ≡ 8 * m → m ≤ length rows
    → take m (rows_all 0 word rows bytes) ≡ floats m bytes
stored m word rows bytes all room =
    let long = length-floats m bytes in
    rw (whole-floats m 0 word rows bytes all, sets-eq (floats m bytes) rows 0 (omega (arith, long)))
    (take-append-le m (floats m bytes) _ (omega (arith, long)) ∙ take_all m (floats m bytes) (omega (arith, long)))

pub record Gathered (bytes : List ℕ) (word : ℕ) (rows : List Float) : Type 0 where
  pub word₀ : ℕ
  pub rows₀ : List Float
  pub room : length rows₀ ≡ most_floats
  pub word_is : word ≡ word_all 0 word₀ bytes
  pub rows_are : rows ≡ rows_all 0 word₀ rows₀ bytes

gathered_none : (word : ℕ) (rows : List Float) → length rows ≡ most_floats → Gathered [] word rows
unfolding word_all rows_all
gathered_none word rows room = record { word₀ = word; rows₀ = rows; room = room; word_is = refl; rows_are = refl }

gathered_more : (bytes : List ℕ) (word : ℕ) (rows : List Float) (b : ℕ) → Gathered bytes word rows
    → Gathered (bytes ++ b ∷ []) (pushed (length bytes) word b) (rows_in (length bytes) word b rows)
unfolding word_all rows_all
gathered_more bytes word rows b g =
    let all = rw (zero-add (length bytes), ← g.word_is, ← g.rows_are) at (all_append 0 g.word₀ g.rows₀ bytes (b ∷ [])) in
    record { word₀ = g.word₀; rows₀ = g.rows₀; room = g.room; word_is = sym all.0; rows_are = sym all.1 }

-- ---- what is held

pub record Holds (seen : List ℕ) (s : State) : Type 0 where
  pub passed : s.link.passed ≡ length seen
  pub head_room : length s.head ≡ rows_at
  pub rows_room : length s.rows ≡ most_floats
  pub first : (n : ℕ) → n ≤ length seen → n ≤ kept seen → take n s.head ≡ take n seen
  pub gathered : keeps_rows seen ≡ true → rows_at ≤ length seen → Gathered (drop rows_at seen) s.link.word s.rows

pub holds_nothing : (s : State) → s.link.passed ≡ 0 → length s.head ≡ rows_at → length s.rows ≡ most_floats → Holds [] s
unfolding rows_at
holds_nothing s none head rows =
    record { passed = none; head_room = head; rows_room = rows; first = nothing; gathered = λ keeps there. absurd (omega arith) }
  where
    nothing : (n : ℕ) → n ≤ 0 → n ≤ kept [] → take n s.head ≡ take n []
    nothing zero among few = refl
    nothing (suc n) among few = absurd (omega arith)

module _ (seen : List ℕ) (s : State) (holds : Holds seen s) where
  -- ---- what it tells

  held_told : header_bytes ≤ length seen → (size s.head ≡ size seen) × (kept s.head ≡ kept seen) × (keeps_rows s.head ≡ keeps_rows seen)
  held_told there = same_told header_bytes s.head seen (holds.first header_bytes there (kept_between seen).0) (omega arith)

  -- ---- the record is not all there, or it is, and is answered

  abbrev p : ℕ
  p = s.link.passed

  pub lacks : unfinished p s.head ≡ true → length seen < size seen
  lacks u =
      let short = ltb-true p (size s.head) (sym (unfinished_is p s.head) ∙ u) in
      elim (dec_le header_bytes (length seen)) [
        | yes there ↦ omega (arith, (held_told there).0, holds.passed)
        | no few ↦ omega (arith, has_header seen)
      ]

  pub lacks_nothing : unfinished p s.head ≡ false → size seen ≤ length seen
  lacks_nothing u =
      let all = ltb-false p (size s.head) (sym (unfinished_is p s.head) ∙ u) in
      elim (dec_le header_bytes (length seen)) [
        | yes there ↦ omega (arith, (held_told there).0, holds.passed)
        | no few ↦ absurd (omega (arith, has_header s.head, holds.passed))
      ]

  module _ (all : size seen ≡ length seen) where
    rows_there : keeps_rows seen ≡ true → take (float_count seen) s.rows ≡ row_floats seen
    unfolding row_floats float_count size header_bytes field_bytes row_bytes rows_at most_floats
    rows_there keeps =
        let solved = solved-length (kind seen) (body_length seen) 0 (rows-kept seen keeps) in
        let bytes = drop rows_at seen in
        let long = length-drop rows_at seen in
        let g = holds.gathered keeps (omega arith) in
        rw g.rows_are (stored (float_count seen) g.word₀ g.rows₀ bytes (omega arith) (omega (arith, g.room)))

    pub answers : (answered s.head s.rows).outcome ≡ outcome seen
    answers =
        let few = (kept_between seen).2 in
        same_outcome s.head seen s.rows rows_there (holds.first (kept seen) (omega arith) (omega arith))

  -- ---- one byte more

  module _ (b : ℕ) where
    abbrev more : List ℕ
    more = seen ++ b ∷ []

    long : length more ≡ length seen + 1
    long = length-append seen (b ∷ [])

    -- fewer bytes than a header are kept whatever they are
    kept_before : (n : ℕ) → n ≤ length seen → n ≤ kept more → n ≤ kept seen
    kept_before n among few =
        elim (dec_le header_bytes (length seen)) [
          | yes there ↦ omega (arith, (more_told seen (b ∷ []) there).1)
          | no short ↦ omega (arith, (kept_between seen).0)
        ]

    kept-now : length seen < kept more → length seen < kept s.head
    kept-now few =
        elim (dec_le header_bytes (length seen)) [
          | yes there ↦ omega (arith, (more_told seen (b ∷ []) there).1, (held_told there).1)
          | no short ↦ omega (arith, (kept_between s.head).0)
        ]

    first_before : (n : ℕ) → n ≤ length seen → take n (head_with s b) ≡ take n s.head
    unfolding head_with
    first_before n among =
        either (λ (l : List ℕ). take n l ≡ take n s.head) (ltb s.link.passed (kept s.head))
        (take-set-le n s.head s.link.passed b (omega (arith, holds.passed)))
        refl

    head-set : length seen < kept s.head → head_with s b ≡ set s.head (length seen) b
    unfolding head_with when◌then◌else◌
    head-set few = rw (holds.passed, lt-ltb (length seen) (kept s.head) few)

    first_last : length seen < kept more → take (length seen + 1) (head_with s b) ≡ take (length seen + 1) more
    first_last few =
        let now = kept-now few in
        let there : length seen < length s.head = omega (arith, now, (kept_between s.head).1, holds.head_room) in
        let before = holds.first (length seen) (omega arith) (kept_before (length seen) (omega arith) (omega arith)) ∙ take-length seen in
        rw (head-set now, add-one (length seen))
        (take-suc-set s.head (length seen) b there
        ∙ ap (λ (l : List ℕ). l ++ b ∷ []) before
        ∙ sym (take_all (suc (length seen)) more (omega (arith, long))))

    first_more : (n : ℕ) → n ≤ length more → n ≤ kept more → take n (head_with s b) ≡ take n more
    first_more n among few =
        elim (dec_le n (length seen)) [
          | yes h ↦ first_before n h ∙ holds.first n h (kept_before n h few) ∙ sym (take-append-le n seen (b ∷ []) h)
          | no h ↦ let last : n ≡ length seen + 1 = omega (arith, long) in rw last (first_last (omega arith))
        ]

    module _ (keeps : keeps_rows s.head ≡ true) (there : rows_at ≤ length seen) where
      is_in_rows : in_rows s ≡ true
      unfolding in_rows
      is_in_rows = rw (keeps, holds.passed, le-ltb (length seen) rows_at there)

      behind : s.link.passed - rows_at ≡ length (drop rows_at seen)
      behind = ap (λ n. n - rows_at) holds.passed ∙ sym (length-drop rows_at seen)

      word_next : word_with s b ≡ pushed (length (drop rows_at seen)) s.link.word b
      unfolding word_with when◌then◌else◌
      word_next = rw (is_in_rows, behind)

      rows_next : rows_with s b ≡ rows_in (length (drop rows_at seen)) s.link.word b s.rows
      unfolding rows_with when◌then◌else◌
      rows_next = rw (is_in_rows, behind)

    gathered_next : keeps_rows more ≡ true → rows_at ≤ length more → Gathered (drop rows_at more) (word_with s b) (rows_with s b)
    unfolding header_bytes rows_at placed state
    gathered_next keeps there =
        let header : header_bytes ≤ length seen = omega (arith, long) in
        let keeps-seen : keeps_rows seen ≡ true = sym (more_told seen (b ∷ []) header).2 ∙ keeps in
        let keeps-held : keeps_rows s.head ≡ true = (held_told header).2 ∙ keeps-seen in
        elim (dec_le rows_at (length seen)) [
          | yes h ↦
              rw (drop-append-le rows_at seen (b ∷ []) h, word_next keeps-held h, rows_next keeps-held h)
              (gathered_more (drop rows_at seen) s.link.word s.rows b (holds.gathered keeps-seen h))
          | no h ↦
              rw (drop_of_length-le more {i = rows_at} (omega (arith, long)))
              (gathered_none (word_with s b) (rows_with s b) ((length-placed s b).1 ∙ holds.rows_room))
        ]

    pub holds_more : Holds more (placed s b)
    unfolding placed state
    holds_more =
        record {
          passed = ap (λ n. n + 1) holds.passed ∙ sym long;
          head_room = (length-placed s b).0 ∙ holds.head_room;
          rows_room = (length-placed s b).1 ∙ holds.rows_room;
          first = first_more;
          gathered = gathered_next;
        }
