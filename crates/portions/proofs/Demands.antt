-- What the request asks of a reader that is fed portions, in the terms of the entries' contracts: `taken`, `taken_in`, `fed`, `said`, `refusal_of`, `end_text`
-- and `ended`, for a link, the bytes and the floats lent with it, and a portion.
use mathlib.Core.Path.{◌≡◌, refl, ◌∙◌}
use mathlib.Core.Logic.{◌≢◌, ◌⊎◌, inl, inr, ⊎_elim}
use mathlib.Core.Bool.{true, false}
use mathlib.Core.List.{List, [], ◌∷◌, ◌++◌}
use Prim.Native.Nat.{ℕ, ◌+◌, ◌≤◌, ◌<◌}
use native.Mathlib.Omega.{arith}
use lib.ListN.{length, take, drop}
use lib.Seq.{take-nil}
use lib.Ieee.{Float}
use borrow.Author.Tests.{le-ltb}
use Rattle.float.specs.Operators.{when◌then◌else◌}
use Rattle.std.specs.Prelude.{Option, Some, None}
use Rattle.rows.specs.declared.Refusal.{Refusal}
use Rattle.rows.specs.declared.Refusal.TheVariants.{TooMany, UnknownKind, Malformed}
use Rattle.solve.specs.Solve as solving
use Rattle.solve.proofs.Allowance.{solve_no_other}
use Rattle.text.specs.Lines.{outcome_line}
use Rattle.record.specs.Sizes.{header_bytes, rows_at, most_floats}
use Rattle.record.specs.Record.{body_length, kind, normalize_byte, task, allowance, float_count, refusal, answered}
use Rattle.portions.specs.Stream.{output}
use Rattle.reader.specs.declared.Link.{Link}
use Rattle.reader.specs.Reader.{State, state, most_bytes, started, listening, kept, in_rows, head_with, word_with, rows_with, placed, line_of}
use Rattle.reader.specs.Reader.{turned, after, text, after_all, texts, up_to_end, up_to_room, taken, taken_in, refusal_of, fed, said, closed, end_text, ended}
use Rattle.portions.specs.Runs.{Offer, run}
use Rattle.gather.proofs.Choice.{either}
use Rattle.reader.proofs.Byte.{uncounted, goes_on, is_there, by_case, by_after}
use Rattle.portions.proofs.Listening.{started_listens, keeps_listening}
use Rattle.portions.proofs.Lengths.{length-after}
use Rattle.reader.proofs.Kept.{refusal_by_header, by_kept, no_rows-kept}
use Rattle.portions.proofs.Alike.{refused}
use Rattle.portions.proofs.Cut as cut

-- ---- 1. whatever the cuts, the limit and what the memory held: nothing is refused, and the lines are those defined for the input as a whole

module _ (limit : ℕ) (head : List ℕ) (rows : List Float) (input : List ℕ) (offers : List Offer) where
  abbrev s : State
  s = state (started limit) head rows

  abbrev now : State
  now = (run s input offers).now

  still_listens : listening now.link now.head ≡ true
  unfolding state
  still_listens = let got = cut.taken-once s input offers in rw got.now_is (keeps_listening s got.bytes (started_listens limit head))

  pub never_refused : refusal_of now.link now.head ≡ 0
  unfolding refusal_of when◌then◌else◌
  never_refused = rw still_listens

  pub whatever_cut : limit ≤ most_bytes → length head ≡ rows_at → length rows ≡ most_floats → (run s input offers).left ≡ []
      → (run s input offers).printed ++ end_text now.link now.head ≡ output limit input
  unfolding end_text when◌then◌else◌
  whatever_cut few head_room rows_room none = rw still_listens (cut.whatever_cut limit head rows input offers few head_room rows_room none)

-- ---- 2. a portion of no bytes changes nothing and prints nothing

module _ (link : Link) (head : List ℕ) (rows : List Float) where
  pub none-taken : taken link head rows [] ≡ 0
  unfolding taken up_to_end
  none-taken = either (λ n. n ≡ 0) (listening link head) refl refl

  pub none-taken_in : (room : ℕ) → taken_in room link head rows [] ≡ 0
  unfolding taken_in up_to_room
  none-taken_in room = either (λ n. n ≡ 0) (listening link head) refl refl

  pub none_changes : (n : ℕ) → fed link head rows n [] ≡ state link head rows
  unfolding fed after_all
  none_changes n = rw (take-nil {A = ℕ} n)

  pub none_prints : (n : ℕ) → said link head rows n [] ≡ []
  unfolding said texts
  none_prints n = rw (take-nil {A = ℕ} n)

-- ---- 3. a record is answered, or refused by 3 at most, by 9 or by 10; refusal 8 comes only when the end is told

unsolved_by : (P : Option Refusal → Type 0) → P None → P (Some TooMany) → P (Some UnknownKind) → P (Some Malformed) → (kind length byte : ℕ)
    → P (refusal kind length byte)
unfolding refusal
unsolved_by P none many unknown malformed kind length byte = either P _ unknown (either P _ malformed (either P _ many none))

module _ (head : List ℕ) (rows : List Float) where
  abbrev Numbered : ℕ → Type 0
  Numbered k = (k < 4) ⊎ (k ≡ 9) ⊎ (k ≡ 10)

  pub no_other : Numbered (solving.number (answered head rows).outcome)
  unfolding answered solving.number
  no_other =
      let n = float_count head in
      let solved = solving.solve (task head) (allowance head) (take n rows) in
      let done : solving.Ended (List Float) = record { outcome = solved.outcome; rows = solved.rows ++ drop n rows } in
      unsolved_by (λ why. Numbered (solving.number (solving.unless_refused why rows done).outcome))
      (inl (solve_no_other (task head) (take n rows) (allowance head)))
      (inl (omega arith))
      (inr (inl refl))
      (inr (inr refl))
      (kind head)
      (body_length head)
      (normalize_byte head)

  pub never_eight : solving.number (answered head rows).outcome ≢ 8
  never_eight e = ⊎_elim (λ few. omega arith) (⊎_elim (λ nine. omega arith) (λ ten. omega arith)) no_other

-- what a byte prints is nothing, or the line of an outcome that is not refusal 8
module _ (s : State) (b : ℕ) where
  abbrev NoLineOf8 : Type 0
  NoLineOf8 = (text s b ≡ []) ⊎ ((got : solving.Outcome) × (solving.number got ≢ 8) × (text s b ≡ outcome_line (s.link.lines + 1) got))

  pub no_line_of_8 : NoLineOf8
  unfolding line_of placed state
  no_line_of_8 =
      let t = placed s b in
      by_case s b NoLineOf8
      (λ none. inl (uncounted s b none).2)
      (λ some u. inl (goes_on s b some u).2)
      (λ some u. inr ((answered t.head t.rows).outcome, never_eight t.head t.rows, (is_there s b some u).2))

-- ---- 4. a link that does not listen is refused by 12, and all stays as it was; one that was told the end never listens

module _ (link : Link) (head : List ℕ) where
  module _ (not_so : listening link head ≡ false) where
    pub refused_by_12 : refusal_of link head ≡ 12
    unfolding refusal_of when◌then◌else◌
    refused_by_12 = rw not_so

    pub takes_nothing : (rows : List Float) (bytes : List ℕ) → taken link head rows bytes ≡ 0
    unfolding taken when◌then◌else◌
    takes_nothing rows bytes = rw not_so

    pub takes_nothing_in : (room : ℕ) (rows : List Float) (bytes : List ℕ) → taken_in room link head rows bytes ≡ 0
    unfolding taken_in when◌then◌else◌
    takes_nothing_in room rows bytes = rw not_so

    pub no_last-text : end_text link head ≡ []
    unfolding end_text when◌then◌else◌
    no_last-text = rw not_so

    pub stays_ended : ended link head ≡ link
    unfolding ended when◌then◌else◌
    stays_ended = rw not_so

  pub closed_never_listens : listening (closed link) head ≡ false
  unfolding listening closed
  closed_never_listens = refl

-- where nothing is taken
module _ (link : Link) (head : List ℕ) (rows : List Float) (bytes : List ℕ) where
  pub nothing_changes : fed link head rows 0 bytes ≡ state link head rows
  unfolding fed after_all
  nothing_changes = refl

  pub nothing_said : said link head rows 0 bytes ≡ []
  unfolding said texts
  nothing_said = refl

-- ---- 5. what is held never exceeds its room

pub room_stays : (s : State) (bytes : List ℕ)
    → let t = after_all s bytes in (length t.head ≡ length s.head) × (length t.rows ≡ length s.rows)
unfolding after_all
room_stays s [] = (refl, refl)
room_stays s (b ∷ bytes) =
    let later = room_stays (after s b) bytes in
    let one = length-after s b in
    (later.0 ∙ one.0, later.1 ∙ one.1)

-- ---- 6. a body that is skipped takes no room

module _ (s : State) (b : ℕ) where
  abbrev Untouched : State → Type 0
  Untouched t = (t.head ≡ s.head) × (t.link.word ≡ s.link.word) × (t.rows ≡ s.rows)

  module _ (some : refusal_by_header s.head ≢ None) (past : kept s.head ≤ s.link.passed) where
    not_in_rows : in_rows s ≡ false
    unfolding in_rows
    not_in_rows = rw (no_rows-kept s.head some)

    untouched_on : Untouched (placed s b)
    unfolding placed state head_with word_with rows_with when◌then◌else◌
    untouched_on = (rw (le-ltb s.link.passed (kept s.head) past), rw not_in_rows, rw not_in_rows)

    untouched_next : Untouched (turned (placed s b))
    unfolding turned state
    untouched_next =
        let t = placed s b in
        let same : (answered t.head t.rows).rows ≡ t.rows = rw (refused t.head t.rows (rw untouched_on.0 some)).2 in
        (untouched_on.0, untouched_on.1, same ∙ untouched_on.2)

    untouched : Untouched (after s b)
    untouched = by_after s b Untouched (refl, refl, refl) (λ _. untouched_on) (λ _. untouched_next)

  -- that of a record of another kind, or of another length
  pub skips_body : refusal_by_header s.head ≢ None → refusal_by_header s.head ≢ Some TooMany → header_bytes ≤ s.link.passed → Untouched (after s b)
  skips_body some other there =
      untouched some (by_kept s.head (λ k. k ≤ s.link.passed) (λ e. absurd (some e)) (λ e. absurd (other e)) (λ _ _. there))

  -- the rows of one with too many
  pub skips_rows : refusal_by_header s.head ≡ Some TooMany → rows_at ≤ s.link.passed → Untouched (after s b)
  unfolding header_bytes rows_at
  skips_rows many there =
      untouched (λ none. absurd (cc)) (by_kept s.head (λ k. k ≤ s.link.passed) (λ _. there) (λ _. there) (λ _ _. omega arith))
