-- `reader::finish` meets its contract.
use Prim.Native.Nat.{◌+◌, ◌≤◌}
use native.Mathlib.Omega.{arith}
use borrow.Author.Tests.{eq-eqb, ne_eqb}
use lib.ListN.{length}
use Rattle.float.specs.Operators.{when◌then◌else◌}
use Rattle.std.specs.Prelude.{Err}
use Rattle.rows.specs.declared.Refusal.TheVariants.{Cut}
use Rattle.solve.specs.declared.Unsolved.TheVariants.{Refused}
use Rattle.text.specs.Lines.{outcome_line, end_line}
use Rattle.text.proofs.Written.{then_ensured}
use Rattle.reader.specs.Reader.{last_text}
use Rattle.reader.proofs.Texts.{line_length, end_length}
use Rattle.reader.proofs.finish.Goals as goal

pub put_end-requires-2 : goal.put_end-requires-2
put_end-requires-2 c = omega (arith, line_length (c.args.link.lines + 1) (Err (Refused Cut)))

pub returns-then-link-eq0 : goal.returns-then-link-eq0
unfolding last_text when◌then◌else◌
returns-then-link-eq0 c = rw (eq-eqb _ _ c.if-link-eq0.true) c.put_end.ensures

pub returns : goal.returns
unfolding last_text when◌then◌else◌
returns c =
    let a = c.args in
    let number = a.link.lines + 1 in
    let refused = outcome_line number (Err (Refused Cut)) in
    let fits : a.at + length refused + length (end_line number) ≤ length a.out.now =
    omega (arith, line_length number (Err (Refused Cut)), end_length number) in
    rw (ne_eqb _ _ c.if-link-eq0.false) (then_ensured a.out.now a.at refused (end_line number) fits c.put_line-end.ensures c.put_end-2.ensures)
