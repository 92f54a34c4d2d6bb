-- `reader::place` meets its contract: what its three calls take and leave is what the bytes leave that take their places one by one.
use mathlib.Core.Path.{◌≡◌, sym, ap, ◌∙◌}
use mathlib.Core.Bool.{true}
use mathlib.Core.List.{List}
use Prim.Native.Nat.{ℕ, ◌+◌, ◌-◌, ◌≤◌, ◌<◌}
use native.Mathlib.Omega.{arith}
use borrow.Author.Tests.{ltb-true}
use lib.ListN.{length, take, drop}
use lib.Seq.{sets}
use lib.Ieee.{Float}
use Rattle.record.specs.Sizes.{header_bytes, rows_at}
use Rattle.record.specs.Record.{size}
use Rattle.record.proofs.Bytes.{lent}
use Rattle.reader.specs.declared.Link.{Link}
use Rattle.reader.specs.Reader.{State, state, unfinished}
use Rattle.reader.specs.Parts.{word_on, rows_on, head_on, of_header, of_fields, of_rows, placed_up}
use Rattle.reader.proofs.Placed.{onward}
use Rattle.reader.proofs.Places.{unfinished_is, before_rows, no_more_than, all_parts}
use Rattle.reader.proofs.place.Goals as goal

-- all of a portion from n on, as a slice has it
abbrev rest : ℕ → List ℕ → List ℕ
rest n bytes = take (length bytes - n) (drop n bytes)

module _ (link : Link) (head : List ℕ) (rows : List Float) (bytes : List ℕ) (more : unfinished link.passed head ≡ true) {n₁ n₂ : ℕ}
    {head₁ head₂ : List ℕ} (taken₁ : n₁ ≡ of_header link.passed bytes) (head₁-is : head₁ ≡ sets head link.passed (take n₁ bytes))
    (taken₂ : n₂ ≡ of_fields (link.passed + n₁) head₁ (rest n₁ bytes))
    (head₂-is : head₂ ≡ head_on (link.passed + n₁) head₁ (take n₂ (rest n₁ bytes))) where
  lack : link.passed < size head
  lack = ltb-true _ _ (sym (unfinished_is link.passed head) ∙ more)

  fields : n₂ ≡ of_fields (link.passed + n₁) (sets head link.passed (take n₁ bytes)) (drop n₁ bytes)
  fields = rw (← head₁-is, ← lent bytes n₁) taken₂

  left : head₂ ≡ head_on (link.passed + n₁) (sets head link.passed (take n₁ bytes)) (take n₂ (drop n₁ bytes))
  left = rw (← head₁-is, ← lent bytes n₁) head₂-is

  not-past-end : link.passed + (n₁ + n₂) ≤ size head₂
  not-past-end = rw left (before_rows link head rows bytes lack n₁ n₂ taken₁ fields)

  module _ {n₃ word : ℕ} {rows₃ : List Float} (taken₃ : n₃ ≡ of_rows (link.passed + (n₁ + n₂)) head₂ (rest (n₁ + n₂) bytes))
      (word-is : word ≡ word_on (link.passed + (n₁ + n₂)) link.word head₂ (take n₃ (rest (n₁ + n₂) bytes)))
      (rows₃-is : rows₃ ≡ rows_on (link.passed + (n₁ + n₂)) link.word head₂ rows (take n₃ (rest (n₁ + n₂) bytes))) where
    few : n₁ + n₂ + n₃ ≤ length bytes
    few = no_more_than link head rows bytes lack n₁ n₂ taken₁ fields n₃ (rw (left, lent bytes (n₁ + n₂)) at taken₃)

    up : placed_up (state link head rows) bytes ≡ state (onward link (n₁ + n₂ + n₃) word) head₂ rows₃
    up =
        rw (word-is, rows₃-is, lent bytes (n₁ + n₂), left)
        (all_parts link head rows bytes lack n₁ n₂ taken₁ fields n₃ (rw (left, lent bytes (n₁ + n₂)) at taken₃))

pub overflow_add-link : goal.overflow_add-link
unfolding of_header header_bytes
overflow_add-link c = omega arith

pub slice_bounds-take_fields-count : goal.slice_bounds-take_fields-count
unfolding of_header header_bytes
slice_bounds-take_fields-count c = omega arith

pub slice_bounds-take_fields-start : goal.slice_bounds-take_fields-start
unfolding of_header header_bytes
slice_bounds-take_fields-start c = omega arith

pub overflow_add-from : goal.overflow_add-from
unfolding of_header header_bytes of_fields rows_at
overflow_add-from c = omega arith

pub overflow_add-link-2 : goal.overflow_add-link-2
unfolding of_header header_bytes of_fields rows_at
overflow_add-link-2 c = omega arith

pub slice_bounds-take_rows-count : goal.slice_bounds-take_rows-count
unfolding of_header header_bytes of_fields rows_at
slice_bounds-take_rows-count c = omega arith

pub slice_bounds-take_rows-start : goal.slice_bounds-take_rows-start
unfolding of_header header_bytes of_fields rows_at
slice_bounds-take_rows-start c = omega arith

pub take_rows-rows-requires : goal.take_rows-rows-requires
take_rows-rows-requires c =
    let a = c.args in
    let h = c.take_header-first.ensures in
    let f = c.take_fields.ensures in
    not-past-end a.link a.head.now a.rows.now a.bytes.now c.requires.head_value h.taken h.head f.taken f.head

pub overflow_sub-result : goal.overflow_sub-result
overflow_sub-result c =
    let a = c.args in
    let h = c.take_header-first.ensures in
    let f = c.take_fields.ensures in
    let r = c.take_rows-rows.ensures in
    omega (arith, few a.link a.head.now a.rows.now a.bytes.now c.requires.head_value h.taken h.head f.taken f.head r.taken r.word r.rows)

pub returns : goal.returns
unfolding state
returns c =
    let a = c.args in
    let h = c.take_header-first.ensures in
    let f = c.take_fields.ensures in
    let r = c.take_rows-rows.ensures in
    let all = up a.link a.head.now a.rows.now a.bytes.now c.requires.head_value h.taken h.head f.taken f.head r.taken r.word r.rows in
    record {
      link = ap (λ (s : State). s.link) (sym all);
      head = ap (λ (s : State). s.head) (sym all);
      rows = ap (λ (s : State). s.rows) (sym all);
    }
