-- `reader::take_rows` meets its contract.
use mathlib.Core.Path.{◌≡◌, sym}
use mathlib.Core.Bool.{true}
use native.Mathlib.Omega.{arith}
use borrow.Author.Tests.{lt-ltb, le-ltb}
use lib.ListN.{length-take}
use Rattle.float.specs.Operators.{when◌then◌else◌}
use Rattle.record.specs.Sizes.{header_bytes, field_bytes, rows_at, most_floats}
use Rattle.record.specs.Record.{body_length, kind, size}
use Rattle.record.proofs.Refusals.{solved-length}
use Rattle.reader.specs.Reader.{keeps_rows}
use Rattle.reader.specs.Parts.{word_on, rows_on, of_rows}
use Rattle.reader.proofs.Kept.{rows-kept}
use Rattle.reader.proofs.Placed.{word_on-none, rows_on-none}
use Rattle.reader.proofs.take_rows.Goals as goal

pub returns-then-passed-lt-ROWS_AT : goal.returns-then-passed-lt-ROWS_AT
unfolding of_rows when◌then◌else◌ rows_at
returns-then-passed-lt-ROWS_AT c =
    let a = c.args in
    let head = a.head.now in
    record {
      taken = rw (lt-ltb a.passed rows_at c.if-passed-lt-ROWS_AT.true);
      fits = omega arith;
      word = sym (word_on-none a.passed head a.word);
      rows = sym (rows_on-none a.passed head a.word a.rows.now);
    }

pub returns-then-is_some : goal.returns-then-is_some
unfolding of_rows word_on rows_on keeps_rows when◌then◌else◌ rows_at
returns-then-is_some c =
    record {
      taken = rw (le-ltb _ rows_at c.if-passed-lt-ROWS_AT.false, ← c.size_of.ensures.value) c.min-n.ensures;
      fits = omega arith;
      word = rw (← c.refusal_by_header.ensures, ← c.is_some.ensures, c.if-is_some.true);
      rows = rw (← c.refusal_by_header.ensures, ← c.is_some.ensures, c.if-is_some.true);
    }

pub push_rows-now-requires : goal.push_rows-now-requires
unfolding keeps_rows rows_at size header_bytes field_bytes most_floats
push_rows-now-requires c =
    let a = c.args in
    let head = a.head.now in
    let keeps : keeps_rows head ≡ true = rw (← c.refusal_by_header.ensures, ← c.is_some.ensures, c.if-is_some.false) in
    let solved = solved-length (kind head) (body_length head) 0 (rows-kept head keeps) in
    let long = length-take c.min-n.result a.bytes.now in
    record { bytes_bound = omega (arith, solved.0, solved.2); rows_len_bound = omega arith }

pub returns : goal.returns
unfolding of_rows word_on rows_on keeps_rows when◌then◌else◌ rows_at
returns c =
    record {
      taken = rw (le-ltb _ rows_at c.if-passed-lt-ROWS_AT.false, ← c.size_of.ensures.value) c.min-n.ensures;
      fits = omega arith;
      word = rw (← c.refusal_by_header.ensures, ← c.is_some.ensures, c.if-is_some.false) c.push_rows-now.ensures.word;
      rows = rw (← c.refusal_by_header.ensures, ← c.is_some.ensures, c.if-is_some.false) c.push_rows-now.ensures.rows;
    }
