-- However a caller cuts an input into offers, each byte is taken once, and what is printed is what is defined for the input as a whole.
use mathlib.Core.Path.{◌≡◌, refl, sym, ap, ap₂, ◌∙◌}
use mathlib.Core.Bool.{true}
use mathlib.Core.List.{List, [], ◌∷◌, ◌++◌, append_assoc, append-nil}
use Prim.Native.Nat.{ℕ, zero, suc, ◌≤◌, ◌<◌, min}
use native.Mathlib.Nat.{min-eq_left}
use native.Mathlib.Omega.{arith}
use lib.ListN.{length, take, drop, replicate, length-take, length-drop, take-append-drop}
use lib.Seq.{take-take}
use lib.Ieee.{Float}
use Rattle.float.specs.Operators.{when◌then◌else◌}
use Rattle.record.specs.Sizes.{rows_at, most_floats}
use Rattle.portions.specs.Stream.{output}
use Rattle.reader.specs.Reader.{State, state, most_bytes, started, listening, after_all, texts, taken, fed, said, last_text}
use Rattle.portions.specs.Runs.{Offer, to_end, to_room, offered, taken_of, Run, run}
use Rattle.portions.proofs.Bytes.{after_all-append, texts-append}
use Rattle.portions.proofs.Listening.{keeps_listening}
use Rattle.portions.proofs.Taken.{takes_some, feeds_no_more, takes_no_more_in}
use Rattle.portions.proofs.Whole.{told_most}

-- ---- no more is taken than is offered

no_more : (offer : Offer) (s : State) (bytes : List ℕ) → taken_of offer s bytes ≤ length bytes
unfolding taken_of
no_more (to_end size) s bytes = feeds_no_more s.link s.head s.rows bytes
no_more (to_room room size) s bytes = takes_no_more_in room s.link s.head s.rows bytes

-- those taken are the first ones that are not taken yet
first_ones : (offer : Offer) (n : ℕ) (bytes : List ℕ) → n ≤ length (offered offer bytes) → take n (offered offer bytes) ≡ take n bytes
unfolding offered
first_ones (to_end size) n bytes few = take-take n size bytes (omega (arith, length-take size bytes))
first_ones (to_room room size) n bytes few = take-take n size bytes (omega (arith, length-take size bytes))

-- ---- each byte is taken once

-- a run has taken these bytes, one after the other, and the others are left
pub record Taken (s : State) (input : List ℕ) (r : Run) : Type 0 where
  pub bytes : List ℕ
  pub all : bytes ++ r.left ≡ input
  pub now_is : r.now ≡ after_all s bytes
  pub printed_is : r.printed ≡ texts s bytes

pub taken-once : (s : State) (input : List ℕ) (offers : List Offer) → Taken s input (run s input offers)
unfolding run after_all texts fed said state
taken-once s input [] = record { bytes = []; all = refl; now_is = refl; printed_is = refl }
taken-once s input (offer ∷ offers) =
    let portion = offered offer input in
    let n = taken_of offer s portion in
    let first = take n portion in
    let later = run (after_all s first) (drop n input) offers in
    let rest = taken-once (after_all s first) (drop n input) offers in
    record {
      bytes = first ++ rest.bytes;
      all =
          append_assoc first rest.bytes later.left
          ∙ ap₂ (λ (x y : List ℕ). x ++ y) (first_ones offer n input (no_more offer s portion)) rest.all
          ∙ take-append-drop n input;
      now_is = rest.now_is ∙ sym (after_all-append s first rest.bytes);
      printed_is = ap (λ (l : List ℕ). texts s first ++ l) rest.printed_is ∙ sym (texts-append s first rest.bytes);
    }

-- ---- and so, where nothing is left and the end is told, all is printed

module _ (s : State) (input : List ℕ) (offers : List Offer) (none : (run s input offers).left ≡ []) where
  abbrev r : Run
  r = run s input offers

  abbrev took : Taken s input r
  took = taken-once s input offers

  took_all : took.bytes ≡ input
  took_all = sym (append-nil took.bytes) ∙ ap (λ (l : List ℕ). took.bytes ++ l) (sym none) ∙ took.all

  as_at_once : r.printed ++ last_text r.now.link ≡ texts s input ++ last_text (after_all s input).link
  as_at_once =
      ap₂ (λ (x : List ℕ) (t : State). x ++ last_text t.link) took.printed_is took.now_is
      ∙ ap (λ (l : List ℕ). texts s l ++ last_text (after_all s l).link) took_all

module _ (limit : ℕ) (head : List ℕ) (rows : List Float) (input : List ℕ) (offers : List Offer) where
  abbrev end_of : Run
  end_of = run (state (started limit) head rows) input offers

  -- no more than 2^63 bytes count
  pub whatever_limit : length head ≡ rows_at → length rows ≡ most_floats → end_of.left ≡ []
      → end_of.printed ++ last_text end_of.now.link ≡ output (min limit most_bytes) input
  whatever_limit head_room rows_room none =
      as_at_once (state (started limit) head rows) input offers none ∙ told_most limit head rows input head_room rows_room

  pub whatever_cut : limit ≤ most_bytes → length head ≡ rows_at → length rows ≡ most_floats → end_of.left ≡ []
      → end_of.printed ++ last_text end_of.now.link ≡ output limit input
  whatever_cut few head_room rows_room none = whatever_limit head_room rows_room none ∙ ap (λ n. output n input) (min-eq_left few)

-- two ways to cut one input print the same, whatever was held before
module _ (limit : ℕ) (head head' : List ℕ) (rows rows' : List Float) (input : List ℕ) (one other : List Offer) where
  abbrev first : Run
  first = run (state (started limit) head rows) input one

  abbrev second : Run
  second = run (state (started limit) head' rows') input other

  pub cut_either_way : length head ≡ rows_at → length rows ≡ most_floats → length head' ≡ rows_at → length rows' ≡ most_floats
      → first.left ≡ [] → second.left ≡ [] → first.printed ++ last_text first.now.link ≡ second.printed ++ last_text second.now.link
  cut_either_way head_room rows_room head-room' rows-room' none none' =
      whatever_limit limit head rows input one head_room rows_room none ∙ sym (whatever_limit limit head' rows' input other head-room' rows-room' none')

-- ---- who goes on offering some bytes comes to an end: as many offers as there are bytes are enough

module _ (size : ℕ) (some : 0 < size) where
  takes_one : (s : State) (input : List ℕ) → listening s.link s.head ≡ true → 0 < length input → 0 < taken_of (to_end size) s (take size input)
  unfolding taken_of taken state when◌then◌else◌
  takes_one s input listens there = rw listens (takes_some s (take size input) (omega (arith, length-take size input)))

  fewer : (n k : ℕ) (input : List ℕ) → (0 < length input → 0 < n) → length input ≤ suc k → length (drop n input) ≤ k
  fewer n k [] takes few = omega (arith, length-drop {A = ℕ} n [])
  fewer n k (b ∷ input) takes few = omega (arith, length-drop n (b ∷ input), takes (omega arith))

  pub comes_to_end : (k : ℕ) (s : State) (input : List ℕ) → listening s.link s.head ≡ true → length input ≤ k
      → (run s input (replicate k (to_end size))).left ≡ []
  unfolding run offered fed state
  comes_to_end zero s [] listens few = refl
  comes_to_end zero s (b ∷ input) listens few = absurd (omega arith)
  comes_to_end (suc k) s input listens few =
      let n = taken_of (to_end size) s (take size input) in
      let first = take n (take size input) in
      comes_to_end k (after_all s first) (drop n input) (keeps_listening s first listens) (fewer n k input (takes_one s input listens) few)
