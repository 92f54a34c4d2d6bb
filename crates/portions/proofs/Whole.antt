-- THE READER'S THEOREM: the texts of an input's bytes, one after the other, and the last text at its end are what is defined for the input as a whole;
-- for every input, every limit, and whatever the lent memory held before.
use mathlib.Core.Path.{◌≡◌, refl, sym, ap, ap₂, ◌∙◌}
use mathlib.Core.Bool.{true, false}
use mathlib.Core.List.{List, [], ◌∷◌, ◌++◌, append_assoc, append-nil}
use Prim.Native.Nat.{ℕ, ◌+◌, ◌-◌, ◌≤◌, ◌<◌, min}
use native.Mathlib.Decide.{dec_le}
use native.Mathlib.Nat.{min-eq_left}
use native.Mathlib.Omega.{arith}
use lib.ListN.{length, take, length-append}
use lib.Seq.{take-nil, append_snoc}
use lib.Ieee.{Float}
use Rattle.text.specs.Lines.{outcome_line}
use Rattle.record.specs.Sizes.{header_bytes, rows_at, most_floats}
use Rattle.record.specs.Record.{size, outcome}
use Rattle.portions.specs.Stream.{output}
use Rattle.reader.specs.Reader.{State, state, most_bytes, started, placed, line_of, turned, after, text, after_all, texts, last_text}
use Rattle.reader.proofs.Byte.{lacking, uncounted, goes_on, is_there, by_case}
use Rattle.reader.proofs.Places.{has_header}
use Rattle.reader.proofs.Turns.{next_byte}
use Rattle.portions.proofs.Lengths.{length-turned}
use Rattle.portions.proofs.Alike.{more_told}
use Rattle.portions.proofs.Printed.{Prints, prints_cut, prints_first, last_is_ending}
use Rattle.portions.proofs.Held.{Holds, holds_nothing, holds_more, lacks, lacks_nothing, answers}

none-cut : length {A = ℕ} [] < size []
unfolding header_bytes
none-cut = omega (arith, has_header [])

-- what is still printed from a state on, where these bytes are still to come
abbrev says : State → List ℕ → List ℕ
says s bytes = texts s bytes ++ last_text (after_all s bytes).link

says_next : (s : State) (b : ℕ) (bytes : List ℕ) {t : State} {l : List ℕ} → after s b ≡ t → text s b ≡ l → says s (b ∷ bytes) ≡ l ++ says t bytes
unfolding texts after_all
says_next s b bytes {t} {l} e f =
    ap₂ (λ (u : State) (k : List ℕ). k ++ texts u bytes ++ last_text (after_all u bytes).link) e f
    ∙ append_assoc l (texts t bytes) (last_text (after_all t bytes).link)

-- of the record in hand, which is not all there, these were seen: from then on it says what is defined to be printed
abbrev Told : List ℕ → State → List ℕ → Type 0
Told seen s bytes = Prints s.link.lines (seen ++ take s.link.left bytes) (says s bytes)

module _ (seen : List ℕ) (s : State) (b : ℕ) (bytes : List ℕ) where
  abbrev more : List ℕ
  more = seen ++ b ∷ []

  told_uncounted : s.link.left ≡ 0 → Told seen s bytes → Told seen s (b ∷ bytes)
  told_uncounted none told = let same = uncounted s b none in rw (says_next s b bytes same.1 same.2, none) (rw none at told)

  module _ (some : 0 < s.link.left) where
    seen_now : more ++ take (s.link.left - 1) bytes ≡ seen ++ take s.link.left (b ∷ bytes)
    seen_now = rw (next_byte s.link.left b bytes some) (append_snoc seen b (take (s.link.left - 1) bytes))

    told_on : lacking s b ≡ true → Told more (placed s b) bytes → Told seen s (b ∷ bytes)
    unfolding placed state
    told_on u told = let on = goes_on s b some u in rw (says_next s b bytes on.1 on.2, ← seen_now) told

    module _ (holds : Holds seen s) (cut : length seen < size seen) (u : lacking s b ≡ false) where
      at_end : size more ≡ length more
      at_end =
          let all = lacks_nothing more (placed s b) (holds_more seen s holds b) u in
          let long = length-append seen (b ∷ []) in
          elim (dec_le header_bytes (length seen)) [
            | yes there ↦ omega (arith, (more_told seen (b ∷ []) there).0)
            | no short ↦ omega (arith, has_header more)
          ]

      line : line_of (placed s b) ≡ outcome_line (s.link.lines + 1) (outcome more)
      unfolding line_of placed state
      line = ap (outcome_line (s.link.lines + 1)) (answers more (placed s b) (holds_more seen s holds b) at_end)

      told_next : Told [] (turned (placed s b)) bytes → Told seen s (b ∷ bytes)
      unfolding turned placed state
      told_next told =
          let next = is_there s b some u in
          let Says-on = says_next s b bytes next.1 (next.2 ∙ line) in
          rw (Says-on, ← seen_now) (prints_first s.link.lines more (take (s.link.left - 1) bytes) (says (turned (placed s b)) bytes) at_end told)

      holds_next : Holds [] (turned (placed s b))
      unfolding turned state
      holds_next =
          let room = length-turned s b in
          holds_nothing (turned (placed s b)) refl (room.0 ∙ holds.head_room) (room.1 ∙ holds.rows_room)

told : (bytes seen : List ℕ) (s : State) → Holds seen s → length seen < size seen → Told seen s bytes
unfolding texts after_all
told [] seen s holds cut =
    rw (take-nil {A = ℕ} s.link.left, append-nil seen, last_is_ending s.link seen holds.passed) (prints_cut s.link.lines seen cut)
told (b ∷ bytes) seen s holds cut =
    let more = seen ++ b ∷ [] in
    let holds-now = holds_more seen s holds b in
    by_case s b (Told seen s (b ∷ bytes))
    (λ none. told_uncounted seen s b bytes none (told bytes seen s holds cut))
    (λ some u. told_on seen s b bytes some u (told bytes more (placed s b) holds-now (lacks more (placed s b) holds-now u)))
    (λ some u. told_next seen s b bytes some holds cut u (told bytes [] (turned (placed s b)) (holds_next seen s b bytes some holds cut u) none-cut))

-- no more than 2^63 bytes count
pub told_most : (limit : ℕ) (head : List ℕ) (rows : List Float) (input : List ℕ) → length head ≡ rows_at → length rows ≡ most_floats
    → let s = state (started limit) head rows in texts s input ++ last_text (after_all s input).link ≡ output (min limit most_bytes) input
unfolding state started output
told_most limit head rows input head_room rows_room =
    let s = state (started limit) head rows in
    sym (told input [] s (holds_nothing s refl head_room rows_room) none-cut (length (take (min limit most_bytes) input)) (omega arith))

pub told_whole : (limit : ℕ) (head : List ℕ) (rows : List Float) (input : List ℕ) → limit ≤ most_bytes → length head ≡ rows_at → length rows ≡ most_floats
    → let s = state (started limit) head rows in texts s input ++ last_text (after_all s input).link ≡ output limit input
told_whole limit head rows input few head_room rows_room = rw (min-eq_left few) at (told_most limit head rows input head_room rows_room)
