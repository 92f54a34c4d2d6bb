-- A portion on its way into lent bytes, turn by turn: the bytes taken so far and those that the room allows of the rest are all that it allows.
use mathlib.Core.Path.{◌≡◌, refl, ap, ◌∙◌}
use mathlib.Core.Bool.{true}
use mathlib.Core.List.{List, ◌++◌}
use Prim.Native.Nat.{ℕ, ◌+◌, ◌-◌, ◌≤◌, ◌<◌}
use native.Mathlib.Nat.{zero-add, add_assoc, sub-zero, sub-add-eq}
use native.Mathlib.Omega.{arith}
use lib.Ieee.{Float}
use lib.ListN.{length, take, drop, length-append, length-drop, drop_of_length-le}
use lib.Seq.{length-take-le, take-add, drop-drop}
use Rattle.text.specs.Sizes.{longest_line}
use Rattle.text.specs.Text.{written}
use Rattle.text.proofs.Written.{Put, then_put}
use Rattle.record.proofs.Bytes.{behind, lent}
use Rattle.reader.specs.declared.Link.{Link}
use Rattle.reader.specs.Reader.{State, state, listening, after_all, texts, up_to_end, up_to_room, taken_in, refusal_of, fed, said}
use Rattle.portions.proofs.Bytes.{after_all-append, texts-append}
use Rattle.portions.proofs.Listening.{keeps_listening}
use Rattle.portions.proofs.Taken.{takes_no_more, takes_some, one_line, no_room, room_by_turns}
use Rattle.link.proofs.Entries.{not_refused, taken_in_room}

-- of the bytes that a reader `s` is given, `from` are taken and have left `t`, and their text stands in `out` up to `at`
pub record Filling (s : State) (bytes out₀ : List ℕ) (t : State) (out : List ℕ) (from at : ℕ) : Type 0 where
  pub within : from ≤ length bytes
  pub fits : at ≤ length out
  pub same : length out ≡ length out₀
  pub hears : listening t.link t.head ≡ true
  pub left : t ≡ after_all s (take from bytes)
  pub put : Put out₀ 0 (texts s (take from bytes)) out at
  pub rest : from + up_to_room (length out₀ - at) t (drop from bytes) ≡ up_to_room (length out₀) s bytes

pub filling_start : (s : State) (bytes out₀ : List ℕ) → listening s.link s.head ≡ true → Filling s bytes out₀ s out₀ 0 0
unfolding after_all texts written
filling_start s bytes out₀ e = record {
  within = omega arith;
  fits = omega arith;
  same = refl;
  hears = e;
  left = refl;
  put = (refl, refl);
  rest = rw (zero-add, sub-zero);
}

-- ---- a turn over the rest

length-written : (out : List ℕ) (at : ℕ) (text : List ℕ) → at + length text ≤ length out → length (written out at text) ≡ length out
unfolding written
length-written out at text fits = simp length-append (omega (arith, length-take-le at out (omega arith), length-drop (at + length text) out))

module _ {s : State} {bytes out₀ : List ℕ} {t : State} {out : List ℕ} {from at : ℕ} (way : Filling s bytes out₀ t out from at) where
  abbrev n : ℕ
  n = up_to_end t (drop from bytes)

  abbrev those : List ℕ
  those = take n (drop from bytes)

  abbrev more : List ℕ
  more = texts t those

  within-turn : from + n ≤ length bytes
  within-turn = omega (arith, way.within, takes_no_more t (drop from bytes), length-drop from bytes)

  pub not_past : from + up_to_end t (behind bytes from) ≤ length bytes
  not_past = rw (lent bytes from) within-turn

  pub nearer : from < length bytes → length bytes - (from + up_to_end t (behind bytes from)) < length bytes - from
  nearer some =
      let there : 0 < length (drop from bytes) = omega (arith, length-drop from bytes) in
      rw (lent bytes from) (omega (arith, takes_some t (drop from bytes) there))

  left-turn : after_all t those ≡ after_all s (take (from + n) bytes)
  left-turn = rw (take-add from n bytes, after_all-append s (take from bytes) those, ← way.left)

  texts-turn : texts s (take (from + n) bytes) ≡ texts s (take from bytes) ++ more
  texts-turn = rw (take-add from n bytes, texts-append s (take from bytes) those, ← way.left)

  module _ (free : longest_line ≤ length out - at) where
    fits_turn : at + length more ≤ length out
    fits_turn = omega (arith, one_line t (drop from bytes), way.fits)

    put_turn : Put out₀ 0 (texts s (take (from + n) bytes)) (written out at more) (at + length more)
    put_turn =
        let fits : 0 + length (texts s (take from bytes)) + length more ≤ length out₀ = omega (arith, fits_turn, way.same, way.put.0) in
        rw texts-turn (then_put out₀ 0 (texts s (take from bytes)) more fits way.put (refl, refl))

    rest_turn : from + n + up_to_room (length out₀ - (at + length more)) (after_all t those) (drop (from + n) bytes) ≡ up_to_room (length out₀) s bytes
    rest_turn =
        let turn = room_by_turns (length out₀ - at) t (drop from bytes) (omega (arith, way.same)) in
        rw (add_assoc, sub-add-eq, ← drop-drop n from bytes, ← turn) way.rest

    filling_turn : Filling s bytes out₀ (after_all t those) (written out at more) (from + n) (at + length more)
    filling_turn = record {
      within = within-turn;
      fits = rw (length-written out at more fits_turn) fits_turn;
      same = length-written out at more fits_turn ∙ way.same;
      hears = keeps_listening t those way.hears;
      left = left-turn;
      put = put_turn;
      rest = rest_turn;
    }

    -- by what the turn ensures of its answer and of what it leaves
    pub filling_on : {link : Link} {head : List ℕ} {rows : List Float} {out' : List ℕ} {k at' : ℕ}
        → let t' = after_all t (take k (behind bytes from)) in
        k ≡ up_to_end t (behind bytes from) → link ≡ t'.link → head ≡ t'.head → rows ≡ t'.rows
        → Put out at (texts t (take k (behind bytes from))) out' at' → Filling s bytes out₀ (state link head rows) out' (from + k) at'
    unfolding state
    filling_on took l h r put = rw (l, h, r, put.0, put.1, took, lent bytes from) filling_turn

  -- ---- the end of it: no byte is left, or no room for a line

  pub none_left : length bytes ≤ from → from ≡ up_to_room (length out₀) s bytes
  unfolding up_to_room
  none_left none = let nothing = ap (up_to_room (length out₀ - at) t) (drop_of_length-le bytes none) in omega (arith, way.rest)

  pub full : length out - at < longest_line → from ≡ up_to_room (length out₀) s bytes
  full short =
      let less : length out₀ - at < longest_line = omega (arith, way.same) in
      omega (arith, no_room (length out₀ - at) t (drop from bytes) less, way.rest)

-- what the contract then ensures
pub filled : (link : Link) (head : List ℕ) (rows : List Float) {bytes out₀ : List ℕ} {t : State} {out : List ℕ} {from at : ℕ}
    → listening link head ≡ true → Filling (state link head rows) bytes out₀ t out from at → from ≡ up_to_room (length out₀) (state link head rows) bytes
    → let all = fed link head rows from bytes in
    let text = said link head rows from bytes in
    (0 ≡ refusal_of link head)
    × ((from ≡ taken_in (length out₀) link head rows bytes)
    × ((t.link ≡ all.link) × ((at ≡ length text) × ((t.head ≡ all.head) × ((t.rows ≡ all.rows) × (out ≡ written out₀ 0 text))))))
unfolding fed said
filled link head rows {out₀ = out₀} hears way ends =
    let left = way.left in (
      not_refused link head hears,
      (
        ends ∙ taken_in_room link head hears (length out₀) rows _,
        (ap (λ t. t.link) left, (way.put.0 ∙ zero-add _, (ap (λ t. t.head) left, (ap (λ t. t.rows) left, way.put.1)))),
      ),
    )
