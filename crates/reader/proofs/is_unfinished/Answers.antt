-- `reader::is_unfinished` meets its contract.
use borrow.Author.Tests.{lt-ltb, le-ltb}
use Rattle.record.specs.Sizes.{header_bytes}
use Rattle.reader.specs.Reader.{unfinished}
use Rattle.reader.proofs.is_unfinished.Goals as goal

pub returns-then-passed-lt-HEADER : goal.returns-then-passed-lt-HEADER
unfolding unfinished header_bytes
returns-then-passed-lt-HEADER c = rw (lt-ltb _ header_bytes c.if-passed-lt-HEADER.true)

pub returns : goal.returns
unfolding unfinished header_bytes
returns c = rw (le-ltb _ header_bytes c.if-passed-lt-HEADER.false, ← c.size_of.ensures.value)
