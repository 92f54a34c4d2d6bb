-- What bytes of one part of a record leave when they take their places: before the rows they are held, or passed over; of the rows likewise.
use mathlib.Core.Path.{◌≡◌, refl, sym, ◌∙◌}
use mathlib.Core.Bool.{Bool, true, false, and-false}
use mathlib.Core.List.{List, [], ◌∷◌, ◌++◌}
use Prim.Native.Nat.{ℕ, suc, ◌+◌, ◌-◌, ◌≤◌, ◌<◌}
use native.Mathlib.Nat.{sub-zero, add-zero}
use native.Mathlib.Numerals.{add-one, one-add}
use native.Mathlib.Decide.{dec_le}
use native.Mathlib.Omega.{arith}
use borrow.Author.Tests.{lt-ltb, le-ltb}
use lib.Dec.{ltb}
use lib.ListN.{length, set}
use lib.Seq.{sets, sets-eq, take-set-le}
use lib.Ieee.{Float}
use Rattle.float.specs.Operators.{when◌then◌else◌}
use Rattle.text.specs.Text.{written}
use Rattle.record.specs.Sizes.{header_bytes, rows_at}
use Rattle.record.specs.Record.{size}
use Rattle.gather.specs.Gather.{pushed, rows_in, word_all, rows_all}
use Rattle.gather.proofs.Choice.{either}
use Rattle.reader.specs.declared.Link.{Link}
use Rattle.reader.specs.Reader.{State, state, kept, keeps_rows, in_rows, head_with, word_with, rows_with, placed}
use Rattle.reader.specs.Parts.{word_on, rows_on, head_on, placed_all}
use Rattle.reader.proofs.Kept.{by_kept, kept_between, no_rows-kept}
use Rattle.reader.proofs.Alike.{same_told}

-- n bytes further, with this word
abbrev pub onward : Link → ℕ → ℕ → Link
onward link n word = record { live = link.live; lines = link.lines; left = link.left - n; passed = link.passed + n; word = word }

-- so many, and then so many more
pub further : (link : Link) (m n word word' : ℕ) → onward (onward link m word) n word' ≡ onward link (m + n) word'
further link m n word word' =
    let left : link.left - m - n ≡ link.left - (m + n) = omega arith in
    let passed : link.passed + m + n ≡ link.passed + (m + n) = omega arith in
    rw (left, passed)

one_more : (link : Link) (n word word' : ℕ) → onward (onward link 1 word) n word' ≡ onward link (suc n) word'
one_more link n word word' = rw (← one-add n) (further link 1 n word word')

no_more : (link : Link) → onward link 0 link.word ≡ link
no_more link = rw (sub-zero link.left, add-zero link.passed)

pub placed_all-append : (s : State) (xs ys : List ℕ) → placed_all s (xs ++ ys) ≡ placed_all (placed_all s xs) ys
unfolding placed_all
placed_all-append s [] ys = refl
placed_all-append s (b ∷ xs) ys = placed_all-append (placed s b) xs ys

-- ---- one byte

module _ (link : Link) (head : List ℕ) (rows : List Float) (b : ℕ) where
  abbrev s : State
  s = state link head rows

  placed-held : link.passed < kept head → placed s b ≡ state (onward link 1 link.word) (set head link.passed b) rows
  unfolding state placed in_rows head_with word_with rows_with when◌then◌else◌
  placed-held h =
      let early : link.passed < rows_at = omega (arith, (kept_between head).1) in
      rw (lt-ltb link.passed (kept head) h, lt-ltb link.passed rows_at early, and-false (keeps_rows head))

  placed_over : keeps_rows head ≡ false → kept head ≤ link.passed → placed s b ≡ state (onward link 1 link.word) head rows
  unfolding state placed in_rows head_with word_with rows_with when◌then◌else◌
  placed_over none h = rw (le-ltb link.passed (kept head) h, none)

  abbrev before : ℕ
  before = link.passed - rows_at

  placed_row : keeps_rows head ≡ true → rows_at ≤ link.passed
      → placed s b ≡ state (onward link 1 (pushed before link.word b)) head (rows_in before link.word b rows)
  unfolding state placed in_rows head_with word_with rows_with when◌then◌else◌
  placed_row keeps h =
      let late : kept head ≤ link.passed = omega (arith, (kept_between head).1) in
      rw (le-ltb link.passed (kept head) late, keeps, le-ltb link.passed rows_at h)

-- ---- many that stand before the rows and are held

-- a byte behind the header changes nothing that the header tells
told_set : (head : List ℕ) (i b : ℕ) → header_bytes ≤ i
    → (size (set head i b) ≡ size head) × (kept (set head i b) ≡ kept head) × (keeps_rows (set head i b) ≡ keeps_rows head)
told_set head i b behind = same_told header_bytes (set head i b) head (take-set-le header_bytes head i b behind) (omega arith)

held-placed : (k first : ℕ) → ((head : List ℕ) (i b : ℕ) → first ≤ i → k ≤ kept head → k ≤ kept (set head i b))
    → (link : Link) (head : List ℕ) (rows : List Float) (bytes : List ℕ) → (0 < length bytes → first ≤ link.passed) → k ≤ kept head
    → length bytes ≤ k - link.passed
    → placed_all (state link head rows) bytes ≡ state (onward link (length bytes) link.word) (sets head link.passed bytes) rows
unfolding placed_all
held-placed k first stays link head rows [] late keeps h = rw (no_more link)
held-placed k first stays link head rows (b ∷ bytes) late keeps h =
    let first-late = late (omega arith) in
    let kept-still = stays head link.passed b first-late keeps in
    let behind = held-placed k first stays (onward link 1 link.word) (set head link.passed b) rows bytes (λ _. omega arith) kept-still (omega arith) in
    rw (placed-held link head rows b (omega arith), ← add-one link.passed, ← one_more link (length bytes) link.word link.word) behind

-- bytes that are copied at once are set one by one
pub copied : (head : List ℕ) (at : ℕ) (bytes : List ℕ) → at + length bytes ≤ length head → written head at bytes ≡ sets head at bytes
unfolding written
copied head at bytes fits = sym (sets-eq bytes head at fits)

-- ---- many that are passed over

passed_over : (link : Link) (head : List ℕ) (rows : List Float) (bytes : List ℕ) → (0 < length bytes → (keeps_rows head ≡ false) × (kept head ≤ link.passed))
    → placed_all (state link head rows) bytes ≡ state (onward link (length bytes) link.word) head rows
unfolding placed_all
passed_over link head rows [] over = rw (no_more link)
passed_over link head rows (b ∷ bytes) over =
    let now = over (omega arith) in
    let behind = passed_over (onward link 1 link.word) head rows bytes (λ _. (now.0, omega (arith, now.1))) in
    rw (placed_over link head rows b now.0 now.1, ← one_more link (length bytes) link.word link.word) behind

-- ---- many of rows that are held

held_rows : (link : Link) (head : List ℕ) (rows : List Float) (bytes : List ℕ) → keeps_rows head ≡ true → (0 < length bytes → rows_at ≤ link.passed)
    → let before = link.passed - rows_at in
    let word = word_all before link.word bytes in
    placed_all (state link head rows) bytes ≡ state (onward link (length bytes) word) head (rows_all before link.word rows bytes)
unfolding placed_all word_all rows_all
held_rows link head rows [] keeps late = rw (no_more link)
held_rows link head rows (b ∷ bytes) keeps late =
    let now = late (omega arith) in
    let before = link.passed - rows_at in
    let word = pushed before link.word b in
    let behind = held_rows (onward link 1 word) head (rows_in before link.word b rows) bytes keeps (λ _. omega arith) in
    let next : link.passed + 1 - rows_at ≡ before + 1 = omega arith in
    let on = one_more link (length bytes) word (word_all (link.passed + 1 - rows_at) word bytes) in
    rw (placed_row link head rows b keeps now, ← next, ← on) behind

-- ---- the bytes of each part of a record

-- how much is kept
module _ (head : List ℕ) where
  keeps_all : header_bytes < kept head → kept head ≡ rows_at
  keeps_all = by_kept head (λ k. header_bytes < k → k ≡ rows_at) (λ _ _. refl) (λ _ _. refl) (λ _ _ h. absurd (omega arith))

  no_rows : kept head < rows_at → keeps_rows head ≡ false
  no_rows =
      by_kept head (λ k. k < rows_at → keeps_rows head ≡ false) (λ _ h. absurd (omega arith)) (λ _ h. absurd (omega arith))
      (λ some _ _. no_rows-kept head some)

module _ (link : Link) (head : List ℕ) (rows : List Float) (bytes : List ℕ) where
  abbrev s_all : State
  s_all = placed_all (state link head rows) bytes

  abbrev p : ℕ
  p = link.passed

  pub header_placed : length bytes ≤ header_bytes - p → s_all ≡ state (onward link (length bytes) link.word) (sets head p bytes) rows
  header_placed = held-placed header_bytes 0 (λ l i b _ _. (kept_between (set l i b)).0) link head rows bytes (λ _. omega arith) (kept_between head).0

  pub fields_placed : (0 < length bytes → header_bytes ≤ p) → length bytes ≤ rows_at - p
      → s_all ≡ state (onward link (length bytes) link.word) (head_on p head bytes) rows
  unfolding head_on when◌then◌else◌
  fields_placed there within =
      elim (dec_le (kept head) p) [
        | yes past ↦ rw (le-ltb p (kept head) past) (passed_over link head rows bytes (λ some. (no_rows head (omega arith), past)))
        | no before ↦
            let fits : length bytes ≤ kept head - p =
            elim (dec_le (length bytes) 0) [ yes none ↦ omega arith | no some ↦ let h = there (omega arith) in omega (arith, keeps_all head (omega arith)) ] in
            rw (lt-ltb p (kept head) (omega arith))
            (held-placed (kept head) header_bytes
            (λ l i b behind keeps. omega (arith, (told_set l i b behind).1)) link head rows bytes there (omega arith) fits)
      ]

  pub rows-placed : (0 < length bytes → rows_at ≤ p)
      → s_all ≡ state (onward link (length bytes) (word_on p link.word head bytes)) head (rows_on p link.word head rows bytes)
  unfolding word_on rows_on when◌then◌else◌
  rows-placed late = go (keeps_rows head) refl
    where
      go : (keeps : Bool) → keeps_rows head ≡ keeps
          → s_all ≡ state (onward link (length bytes) (word_on p link.word head bytes)) head (rows_on p link.word head rows bytes)
      go true keeps = rw keeps (held_rows link head rows bytes keeps late)
      go false none = rw none (passed_over link head rows bytes (λ some. let h = late some in (none, omega (arith, (kept_between head).1))))

-- ---- none

module _ (passed : ℕ) (head : List ℕ) where
  pub head_on-none : head_on passed head [] ≡ head
  unfolding head_on
  head_on-none = either (λ (l : List ℕ). l ≡ head) (ltb passed (kept head)) refl refl

  pub word_on-none : (word : ℕ) → word_on passed word head [] ≡ word
  unfolding word_on word_all
  word_on-none word = either (λ (w : ℕ). w ≡ word) (keeps_rows head) refl refl

  pub rows_on-none : (word : ℕ) (rows : List Float) → rows_on passed word head rows [] ≡ rows
  unfolding rows_on rows_all
  rows_on-none word rows = either (λ (l : List Float). l ≡ rows) (keeps_rows head) refl refl

-- ---- once the header is there, what it tells stays

pub size_stays : (s : State) (bytes : List ℕ) → header_bytes ≤ s.link.passed → size (placed_all s bytes).head ≡ size s.head
unfolding state placed head_with placed_all
size_stays s [] there = refl
size_stays s (b ∷ bytes) there =
    let p = s.link.passed in
    size_stays (placed s b) bytes (omega arith)
    ∙ either (λ (l : List ℕ). size l ≡ size s.head) (ltb p (kept s.head)) (told_set s.head p b there).0 refl
