-- How many bytes of a portion are taken: up to the first record's end, whose text is one line at most; and, by turns, as long as there is room for a line.
use mathlib.Core.Path.{◌≡◌, refl, ◌∙◌}
use mathlib.Core.Bool.{Bool, true, false}
use mathlib.Core.List.{List, [], ◌∷◌, append-nil}
use Prim.Native.Nat.{ℕ, suc, ◌+◌, ◌-◌, ◌≤◌, ◌<◌}
use native.Mathlib.Nat.{sub-zero}
use native.Mathlib.Numerals.{one-add}
use native.Mathlib.Omega.{arith}
use lib.Dec.{ltb}
use borrow.Author.Tests.{lt-ltb, le-ltb}
use lib.ListN.{length, take, drop}
use lib.Ieee.{Float}
use Rattle.float.specs.Operators.{when◌then◌else◌}
use Rattle.text.specs.Sizes.{longest_line}
use Rattle.reader.specs.declared.Link.{Link}
use Rattle.reader.specs.Reader.{State, state, listening, ends, after, text, after_all, texts, up_to_end, up_to_room, taken, taken_in}
use Rattle.gather.proofs.Choice.{either}
use Rattle.portions.proofs.Texts.{text-length}

-- ---- up to the first record's end, or all: what holds of no byte, of the record's last, and of one before it, where it holds of those behind

pub up_to_end_lem : (P : State → List ℕ → ℕ → Type 0)
    → ((s : State) → P s [] 0)
    → ((s : State) (b : ℕ) (bytes : List ℕ) → ends s b ≡ true → P s (b ∷ bytes) 1)
    → ((s : State) (b n : ℕ) (bytes : List ℕ) → ends s b ≡ false → P (after s b) bytes n → P s (b ∷ bytes) (suc n))
    → (s : State) (bytes : List ℕ) → P s bytes (up_to_end s bytes)
unfolding up_to_end when◌then◌else◌
up_to_end_lem P none last before s [] = none s
up_to_end_lem P none last before s (b ∷ bytes) = go (ends s b) refl (up_to_end_lem P none last before (after s b) bytes)
  where
    more : ℕ
    more = up_to_end (after s b) bytes

    go : (e : Bool) → ends s b ≡ e → P (after s b) bytes more → P s (b ∷ bytes) (when e then 1 else 1 + more)
    go true e behind = last s b bytes e
    go false e behind = rw (one-add more) (before s b more bytes e behind)

pub takes_no_more : (s : State) (bytes : List ℕ) → up_to_end s bytes ≤ length bytes
takes_no_more = up_to_end_lem (λ s bytes n. n ≤ length bytes) (λ s. omega arith) (λ s b bytes e. omega arith) (λ s b n bytes e h. omega arith)

pub takes_some : (s : State) (bytes : List ℕ) → 0 < length bytes → 0 < up_to_end s bytes
takes_some = up_to_end_lem (λ s bytes n. 0 < length bytes → 0 < n) (λ s h. omega arith) (λ s b bytes e h. omega arith) (λ s b n bytes e h some. omega arith)

before_end : (s : State) (b : ℕ) → ends s b ≡ false → text s b ≡ []
unfolding text when◌then◌else◌
before_end s b e = rw e

pub one_line : (s : State) (bytes : List ℕ) → length (texts s (take (up_to_end s bytes) bytes)) ≤ longest_line
unfolding texts
one_line =
    up_to_end_lem (λ s bytes n. length (texts s (take n bytes)) ≤ longest_line)
    (λ s. omega arith)
    (λ s b bytes e. rw (append-nil (text s b)) (text-length s b))
    (λ s b n bytes e h. rw (before_end s b e) h)

-- ---- as long as there is room for a line

pub no_room : (room : ℕ) (s : State) (bytes : List ℕ) → room < longest_line → up_to_room room s bytes ≡ 0
unfolding up_to_room when◌then◌else◌
no_room room s [] full = refl
no_room room s (b ∷ bytes) full = rw (lt-ltb room longest_line full)

with_room : (room : ℕ) (s : State) (b : ℕ) (bytes : List ℕ) → longest_line ≤ room
    → up_to_room room s (b ∷ bytes) ≡ 1 + up_to_room (room - length (text s b)) (after s b) bytes
unfolding up_to_room when◌then◌else◌
with_room room s b bytes free = rw (le-ltb room longest_line free)

-- up to a record's end the room is what it was: with room for a line it is taken whole, and the rest goes by the room that is left
pub room_by_turns : (room : ℕ) (s : State) (bytes : List ℕ) → longest_line ≤ room
    → let n = up_to_end s bytes in
    up_to_room room s bytes ≡ n + up_to_room (room - length (texts s (take n bytes))) (after_all s (take n bytes)) (drop n bytes)
unfolding up_to_room after_all texts
room_by_turns room s bytes free =
    up_to_end_lem (λ s bytes n. up_to_room room s bytes ≡ n + up_to_room (room - length (texts s (take n bytes))) (after_all s (take n bytes)) (drop n bytes))
    (λ s. omega arith)
    (λ s b bytes e. rw (append-nil (text s b)) (with_room room s b bytes free))
    (λ s b n bytes e h. with_room room s b bytes free ∙ rw (before_end s b e, sub-zero room, h) (omega arith))
    s bytes

fills_no_more : (room : ℕ) (s : State) (bytes : List ℕ) → up_to_room room s bytes ≤ length bytes
unfolding up_to_room
fills_no_more room s [] = omega arith
fills_no_more room s (b ∷ bytes) =
    let more = fills_no_more (room - length (text s b)) (after s b) bytes in
    either (λ n. n ≤ length (b ∷ bytes)) (ltb room longest_line) (omega arith) (omega arith)

pub fills_some : (room : ℕ) (s : State) (bytes : List ℕ) → longest_line ≤ room → 0 < length bytes → 0 < up_to_room room s bytes
fills_some room s bytes free some = omega (arith, room_by_turns room s bytes free, takes_some s bytes some)

-- ---- of a portion, whether the link listens or not

pub feeds_no_more : (link : Link) (head : List ℕ) (rows : List Float) (bytes : List ℕ) → taken link head rows bytes ≤ length bytes
unfolding taken
feeds_no_more link head rows bytes =
    either (λ n. n ≤ length bytes) (listening link head) (takes_no_more (state link head rows) bytes) (omega arith)

pub takes_no_more_in : (room : ℕ) (link : Link) (head : List ℕ) (rows : List Float) (bytes : List ℕ) → taken_in room link head rows bytes ≤ length bytes
unfolding taken_in
takes_no_more_in room link head rows bytes =
    either (λ n. n ≤ length bytes) (listening link head) (fills_no_more room (state link head rows) bytes) (omega arith)
