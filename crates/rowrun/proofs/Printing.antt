-- A portion on its way, a buffer of lines at a time: the reader is as after the bytes taken so far, and listens.
use mathlib.Core.Path.{◌≡◌, refl, sym, ap, ap₂, ◌∙◌}
use mathlib.Core.Bool.{true}
use mathlib.Core.List.{List, ◌++◌}
use Prim.Native.Nat.{ℕ, ◌+◌, ◌-◌, ◌≤◌, ◌<◌}
use native.Mathlib.Omega.{arith}
use lib.Ieee.{Float}
use lib.ListN.{length, take, drop, length-drop}
use lib.Seq.{take_all, take-add}
use Rattle.text.specs.Sizes.{longest_line}
use Rattle.record.proofs.Bytes.{behind, lent}
use Rattle.reader.specs.declared.Link.{Link}
use Rattle.reader.specs.Reader.{State, state, listening, after_all, texts, up_to_room, taken_in, fed}
use Rattle.portions.proofs.Bytes.{after_all-append, texts-append}
use Rattle.portions.proofs.Listening.{keeps_listening}
use Rattle.portions.proofs.Taken.{takes_no_more_in, fills_some}
use Rattle.link.proofs.Entries.{taken_in_room}

-- of the bytes that a reader `s` is given, `from` are taken and have left `t`
pub record Printing (s : State) (bytes : List ℕ) (t : State) (from : ℕ) : Type 0 where
  pub within : from ≤ length bytes
  pub hears : listening t.link t.head ≡ true
  pub left : t ≡ after_all s (take from bytes)

pub printing_start : (s : State) (bytes : List ℕ) → listening s.link s.head ≡ true → Printing s bytes s 0
unfolding after_all
printing_start s bytes e = record { within = omega arith; hears = e; left = refl }

module _ {s : State} {bytes : List ℕ} {t : State} {from : ℕ} (way : Printing s bytes t from) (room : ℕ) where
  abbrev n : ℕ
  n = taken_in room t.link t.head t.rows (behind bytes from)

  is_room : n ≡ up_to_room room t (drop from bytes)
  unfolding state
  is_room = sym (taken_in_room t.link t.head way.hears room t.rows (behind bytes from)) ∙ ap (up_to_room room t) (lent bytes from)

  pub not_past : from + n ≤ length bytes
  not_past =
      let few = takes_no_more_in room t.link t.head t.rows (behind bytes from) in
      omega (arith, way.within, ap length (lent bytes from), length-drop from bytes)

  pub nearer : longest_line ≤ room → from < length bytes → length bytes - (from + n) < length bytes - from
  nearer free some =
      let there : 0 < length (drop from bytes) = omega (arith, length-drop from bytes) in
      omega (arith, is_room, fills_some room t (drop from bytes) free there)

  left_then : after_all t (take n (behind bytes from)) ≡ after_all s (take (from + n) bytes)
  left_then =
      ap (λ l. after_all t (take n l)) (lent bytes from)
      ∙ ap (λ u. after_all u (take n (drop from bytes))) way.left
      ∙ sym (after_all-append s (take from bytes) (take n (drop from bytes)))
      ∙ ap (after_all s) (sym (take-add from n bytes))

  pub printing_on : Printing s bytes (fed t.link t.head t.rows n (behind bytes from)) (from + n)
  unfolding fed state
  printing_on = record { within = not_past; hears = keeps_listening t (take n (behind bytes from)) way.hears; left = left_then }

  -- by what `fill` ensures of its answer and of what it leaves
  pub printing_next : {link : Link} {head : List ℕ} {rows : List Float} {k : ℕ}
      → let t' = fed t.link t.head t.rows k (behind bytes from) in
      k ≡ n → link ≡ t'.link → head ≡ t'.head → rows ≡ t'.rows → Printing s bytes (state link head rows) (from + k)
  unfolding state
  printing_next took l h r = rw (l, h, r, took) printing_on

pub all_printed : {s : State} {bytes : List ℕ} {t : State} {from : ℕ} → Printing s bytes t from → length bytes ≤ from → t ≡ after_all s bytes
all_printed {s} {bytes} {from = from} way none = way.left ∙ rw (take_all from bytes none)

-- what the next bytes print stands behind what those before printed
pub printed_then : {s : State} {bytes : List ℕ} {t : State} {from : ℕ} → Printing s bytes t from → (n : ℕ)
    → texts s (take from bytes) ++ texts t (take n (behind bytes from)) ≡ texts s (take (from + n) bytes)
printed_then {s} {bytes} {t} {from} way n =
    ap₂ (λ u l. texts s (take from bytes) ++ texts u (take n l)) way.left (lent bytes from)
    ∙ sym (texts-append s (take from bytes) (take n (drop from bytes)))
    ∙ ap (texts s) (sym (take-add from n bytes))
