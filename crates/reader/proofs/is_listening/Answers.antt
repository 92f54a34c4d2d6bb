-- `reader::is_listening` meets its contract.
use Prim.Native.Nat.{◌+◌}
use native.Mathlib.Omega.{arith}
use borrow.Author.Tests.{lt-ltb, le-ltb, eq-eqb, ne_eqb}
use Rattle.reader.specs.Reader.{most_bytes, listening}
use Rattle.reader.proofs.is_listening.Goals as goal

pub returns-then-link-ne1 : goal.returns-then-link-ne1
unfolding listening
returns-then-link-ne1 c = rw (ne_eqb _ _ c.if-link-ne1.true)

pub returns-then-link-gt-MOST_BYTES : goal.returns-then-link-gt-MOST_BYTES
unfolding listening most_bytes
returns-then-link-gt-MOST_BYTES c =
    let link = c.args.link in
    rw (eq-eqb _ _ c.if-link-ne1.false, lt-ltb most_bytes (link.lines + link.left) (omega arith))

pub returns-then-link : goal.returns-then-link
unfolding listening most_bytes
returns-then-link c =
    let link = c.args.link in
    rw (eq-eqb _ _ c.if-link-ne1.false, lt-ltb most_bytes (link.lines + link.left) (omega arith))

pub returns : goal.returns
unfolding listening most_bytes
returns c =
    let link = c.args.link in
    rw (eq-eqb _ _ c.if-link-ne1.false, le-ltb most_bytes (link.lines + link.left) (omega arith)) c.is_unfinished.ensures
