-- An input on its way: some bytes of it are read, the reader is as after them, and their lines are written; and when it ends, or when as many are read as
-- count, what is written is what is defined for the input as a whole.
use mathlib.Core.Path.{◌≡◌, refl, sym, ap, ◌∙◌}
use mathlib.Core.Bool.{true}
use mathlib.Core.List.{List, [], ◌++◌, append-nil}
use Prim.Native.Nat.{ℕ, ◌+◌, ◌≤◌, ◌<◌}
use native.Mathlib.Omega.{arith}
use lib.Ieee.{Float}
use lib.ListN.{length, length-append}
use lib.Seq.{take-append-le}
use Rattle.std.proofs.Common.{None, Some, IfSome, subst}
use Rattle.std.specs.declared.option.Option.{Option}
use Rattle.std.specs.Io.KnownBytes.{Appends, Consumes, IsAtEnd}
use Rattle.std.proofs.KnownBytes.{Appends-nil, Appends-trans, Consumes-nil, Consumes-trans, Consumes-whole}
use Rattle.record.specs.Sizes.{rows_at, most_floats}
use Rattle.reader.specs.declared.Link.{Link}
use Rattle.reader.specs.Reader.{State, state, most_bytes, started, listening, after_all, texts, last_text, end_text}
use Rattle.portions.specs.Stream.{output}
use Rattle.portions.proofs.Bytes.{after_all-append, texts-append}
use Rattle.portions.proofs.Listening.{started_listens, keeps_listening}
use Rattle.portions.proofs.Whole.{told_whole}
use Rattle.link.proofs.Entries.{last-text}

-- what holds of these bytes with any behind them
whatever_left : (input left : Option (List ℕ)) (seen : List ℕ) (P : List ℕ → Type 0) → Consumes input left seen
    → ((ys : List ℕ) → P (seen ++ ys)) → IfSome input P
whatever_left None left seen P p h = tt
whatever_left (Some xs) None seen P p h = absurd p
whatever_left (Some xs) (Some ys) seen P p h = subst P (sym p) (h ys)

-- after so many reads
pub record Reading (input left held filled : Option (List ℕ)) (now : State) (reads : ℕ) : Type 0 where
  pub head : List ℕ
  pub rows : List Float
  pub head_room : length head ≡ rows_at
  pub rows_room : length rows ≡ most_floats
  pub seen : List ℕ
  pub consumed : Consumes input left seen
  pub now_is : now ≡ after_all (state (started most_bytes) head rows) seen
  pub written : Appends held filled (texts (state (started most_bytes) head rows) seen)
  pub counted : reads ≤ length seen

pub reading_start : (input held : Option (List ℕ)) (link : Link) (head : List ℕ) (rows : List Float) → link ≡ started most_bytes
    → length head ≡ rows_at → length rows ≡ most_floats → Reading input input held held (state link head rows) 0
unfolding after_all texts
reading_start input held link head rows e head_room rows_room =
    record {
      head = head;
      rows = rows;
      head_room = head_room;
      rows_room = rows_room;
      seen = [];
      consumed = Consumes-nil input;
      now_is = ap (λ l. state l head rows) e;
      written = Appends-nil held;
      counted = omega arith;
    }

module _ {input left held filled : Option (List ℕ)} {t : State} {reads : ℕ} (way : Reading input left held filled t reads) where
  abbrev begun : State
  begun = state (started most_bytes) way.head way.rows

  pub reading_listens : listening t.link t.head ≡ true
  unfolding state
  reading_listens = rw way.now_is (keeps_listening begun way.seen (started_listens most_bytes way.head))

  pub reading_on : {left' filled' : Option (List ℕ)} {u : State} (portion : List ℕ) → 0 < length portion → Consumes left left' portion
      → u ≡ after_all t portion → Appends filled filled' (texts t portion) → Reading input left' held filled' u (reads + 1)
  reading_on {left'} {filled'} {u} portion some took now_is more =
      let seen = way.seen in
      let lines : Appends filled filled' (texts (after_all begun seen) portion) =
      subst (λ v. Appends filled filled' (texts v portion)) way.now_is more in
      record {
        head = way.head;
        rows = way.rows;
        head_room = way.head_room;
        rows_room = way.rows_room;
        seen = seen ++ portion;
        consumed = Consumes-trans input left left' seen portion way.consumed took;
        now_is = now_is ∙ ap (λ v. after_all v portion) way.now_is ∙ sym (after_all-append begun seen portion);
        written =
            subst (Appends held filled') (sym (texts-append begun seen portion)) (Appends-trans held filled filled' _ _ way.written lines);
        counted = omega (arith, way.counted, length-append seen portion);
      }

  last_is : end_text t.link t.head ≡ last_text (after_all begun way.seen).link
  last_is = sym (last-text t.link t.head reading_listens) ∙ ap (λ u. last_text u.link) way.now_is

  -- with the last text all is written that is defined for the bytes that were seen
  seen_told : (filled' : Option (List ℕ)) → Appends filled filled' (end_text t.link t.head) → Appends held filled' (output most_bytes way.seen)
  seen_told filled' last =
      let all = told_whole most_bytes way.head way.rows way.seen (omega arith) way.head_room way.rows_room in
      subst (Appends held filled') (ap (λ l. texts begun way.seen ++ l) last_is ∙ all) (Appends-trans held filled filled' _ _ way.written last)

  -- the input is at its end
  pub all_told : (left' filled' : Option (List ℕ)) → Appends filled filled' (end_text t.link t.head) → Consumes left left' [] → IsAtEnd left'
      → IfSome input (λ xs. Appends held filled' (output most_bytes xs))
  all_told left' filled' last took end =
      let read : Consumes input left' way.seen =
      subst (Consumes input left') (append-nil way.seen) (Consumes-trans input left left' way.seen [] way.consumed took) in
      Consumes-whole input left' way.seen (λ xs. Appends held filled' (output most_bytes xs)) read end (seen_told filled' last)

  no_more_counts : (ys : List ℕ) → most_bytes ≤ reads → output most_bytes way.seen ≡ output most_bytes (way.seen ++ ys)
  unfolding output
  no_more_counts ys many = rw (take-append-le most_bytes way.seen ys (omega (arith, way.counted))) refl

  -- as many bytes are read as count
  pub most_told : (filled' : Option (List ℕ)) → Appends filled filled' (end_text t.link t.head) → most_bytes ≤ reads
      → IfSome input (λ xs. Appends held filled' (output most_bytes xs))
  most_told filled' last many =
      whatever_left input left way.seen (λ xs. Appends held filled' (output most_bytes xs)) way.consumed
      (λ ys. subst (Appends held filled') (no_more_counts ys many) (seen_told filled' last))
