-- `reader::take_header` meets its contract.
use mathlib.Core.Path.{refl, ◌∙◌}
use native.Mathlib.Omega.{arith}
use lib.ListN.{take, length-take}
use Rattle.record.specs.Sizes.{header_bytes}
use Rattle.reader.specs.Parts.{of_header}
use Rattle.reader.proofs.Placed.{copied}
use Rattle.reader.proofs.take_header.Goals as goal

pub returns-then-passed-ge-HEADER : goal.returns-then-passed-ge-HEADER
unfolding of_header header_bytes
returns-then-passed-ge-HEADER c = record { taken = omega arith; head = refl }

pub returns : goal.returns
unfolding of_header header_bytes
returns c =
    let a = c.args in
    let some = take c.min-n.result a.bytes.now in
    record {
      taken = c.min-n.ensures;
      head = c.put.ensures.out ∙ copied a.head.now a.passed some (simp length-take (omega arith));
    }
