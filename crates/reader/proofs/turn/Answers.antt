-- `reader::turn` meets its contract.
use mathlib.Core.Path.{◌≡◌, refl, sym, ap, ◌∙◌}
use mathlib.Core.Bool.{true, false}
use mathlib.Core.List.{List}
use Prim.Native.Nat.{ℕ, ◌+◌, ◌-◌, min}
use native.Mathlib.Decide.{dec_le}
use native.Mathlib.Nat.{add-zero}
use native.Mathlib.Omega.{arith}
use lib.ListN.{length, take}
use lib.Seq.{take-length, take_all}
use lib.Ieee.{Float}
use Rattle.solve.specs.Solve.{Outcome}
use Rattle.text.specs.Text.{written}
use Rattle.text.specs.Lines.{outcome_line}
use Rattle.record.specs.Sizes.{most_floats}
use Rattle.record.specs.Record.{answered}
use Rattle.reader.specs.declared.Link.{Link}
use Rattle.reader.specs.Reader.{State, state, most_bytes, unfinished, line_of, turned, up_to_end, fed, said}
use Rattle.reader.specs.Parts.{placed_up}
use Rattle.reader.proofs.Listening.{was_listening}
use Rattle.reader.proofs.Texts.{nothing_written}
use Rattle.reader.proofs.Turns.{same_lines, up, part_turn, whole-turn}
use Rattle.reader.proofs.turn.Goals as goal

-- as many bytes count as there are, or as may still come
counting : (n left : ℕ) (bytes : List ℕ) → n ≡ min (length bytes) left → take n bytes ≡ take left bytes
counting n left bytes counted =
    elim (dec_le (length bytes) left) [
      | yes all ↦ take_all n bytes (omega arith) ∙ sym (take_all left bytes all)
      | no some ↦ let same : n ≡ left = omega arith in rw same
    ]

-- ---- what is ensured, by the state u that the bytes which count leave up to the record's end

module _ (link : Link) (head : List ℕ) (rows : List Float) (bytes out : List ℕ) (at : ℕ) where
  abbrev s : State
  s = state link head rows

  abbrev u : State
  u = up s bytes

  abbrev Turned : ℕ → Link → ℕ → List ℕ → List Float → List ℕ → Type 0
  Turned n link' end' head' rows' out' =
      let all = fed link head rows n bytes in
      let text = said link head rows n bytes in
      let out'' = written out at text in
      record {
        taken : n ≡ up_to_end s bytes;
        link : link' ≡ all.link;
        end : end' ≡ at + length text;
        head : head' ≡ all.head;
        rows : rows' ≡ all.rows;
        out : out' ≡ out'';
      }

  -- what `place` leaves of the first n bytes
  abbrev Left : ℕ → Link → List ℕ → List Float → Type 0
  Left n on head' rows' =
      let t = placed_up s (take n bytes) in
      record { link : on ≡ t.link; head : head' ≡ t.head; rows : rows' ≡ t.rows }

  module _ {n : ℕ} {on : Link} {head' : List ℕ} {rows' : List Float} (counted : n ≡ min (length bytes) link.left) (placed : Left n on head' rows') where
    left : (on ≡ u.link) × (head' ≡ u.head) × (rows' ≡ u.rows)
    unfolding state
    left = rw (← counting n link.left bytes counted) (placed.link, placed.head, placed.rows)

    part_turned : unfinished on.passed head' ≡ true → Turned (length bytes) on at head' rows' out
    unfolding state fed said
    part_turned part =
        let turn = part_turn s bytes (rw (left.0, left.1) at part) in
        rw (take-length bytes, turn.1, turn.2) record {
          taken = sym turn.0;
          link = left.0;
          end = sym (add-zero at);
          head = left.1;
          rows = left.2;
          out = nothing_written out at;
        }

    module _ (begun : unfinished link.passed head ≡ true) (whole : unfinished on.passed head' ≡ false) where
      ended : (link.passed + up_to_end s bytes ≡ u.link.passed) × (fed link head rows (up_to_end s bytes) bytes ≡ turned u)
          × (said link head rows (up_to_end s bytes) bytes ≡ line_of u)
      unfolding state fed said
      ended = whole-turn s bytes begun (rw (left.0, left.1) at whole)

      module _ {got : Outcome} {rows'' : List Float} (came : got ≡ (answered head' rows').outcome) (rows_left : rows'' ≡ (answered head' rows').rows) where
        abbrev next : Link
        next = record { live = link.live; lines = link.lines + 1; left = on.left; passed = 0; word = on.word }

        next-is : (next ≡ (turned u).link) × (line_of u ≡ outcome_line (link.lines + 1) got)
        unfolding state turned line_of
        next-is =
            let same = same_lines s (take link.left bytes) in
            (rw (same.0, same.1, left.0), rw (same.1, ← left.1, ← left.2, came))

        whole-turned : {end : ℕ} {out' : List ℕ} → end ≡ at + length (outcome_line (link.lines + 1) got)
            → out' ≡ written out at (outcome_line (link.lines + 1) got) → Turned (on.passed - link.passed) next end head' rows'' out'
        unfolding state turned
        whole-turned end out =
            let taken : on.passed - link.passed ≡ up_to_end s bytes = omega (arith, ended.0, ap (λ (l : Link). l.passed) left.0) in
            rw (taken, ended.1, ended.2, next-is.1) record {
              taken = refl;
              link = next-is.0;
              end = end;
              head = left.1;
              rows = rows_left ∙ rw (left.1, left.2);
              out = out;
            }

pub place-on-requires-clause-head_value : goal.place-on-requires-clause-head_value
place-on-requires-clause-head_value c = (was_listening _ _ c.requires.head_value).2

pub returns-then-is_unfinished : goal.returns-then-is_unfinished
returns-then-is_unfinished c =
    let a = c.args in
    let part = sym c.is_unfinished.ensures ∙ c.if-is_unfinished.true in
    part_turned a.link a.head.now a.rows.now a.bytes.now a.out.now a.at (omega arith) c.place-on.ensures part

pub overflow_add-number : goal.overflow_add-number
unfolding most_bytes
overflow_add-number c = omega (arith, (was_listening _ _ c.requires.head_value).1)

pub outcome_of-got-requires : goal.outcome_of-got-requires
unfolding most_floats
outcome_of-got-requires c = omega arith

pub overflow_sub-result : goal.overflow_sub-result
unfolding state
overflow_sub-result c =
    let a = c.args in
    let some = take c.if-bytes-link.counted a.bytes.now in
    rw c.place-on.ensures.link (same_lines (state a.link a.head.now a.rows.now) some).2

pub returns : goal.returns
returns c =
    let a = c.args in
    let begun = (was_listening a.link a.head.now c.requires.head_value).2 in
    let whole = sym c.is_unfinished.ensures ∙ c.if-is_unfinished.false in
    let got = c.outcome_of-got.ensures in
    let put = c.put_line-end.ensures in
    whole-turned a.link a.head.now a.rows.now a.bytes.now a.out.now a.at (omega arith) c.place-on.ensures begun whole got.answer got.floats put.end put.out
