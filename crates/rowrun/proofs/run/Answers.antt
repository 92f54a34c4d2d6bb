-- `rowrun::run` writes what is defined for the input as a whole.
use mathlib.Core.Path.{refl}
use Prim.Native.Nat.{◌<◌}
use native.Mathlib.Omega.{arith}
use borrow.Author.Rules.{rules}
use lib.ListN.{length, take}
use lib.Seq.{length-take-le}
use Rattle.std.proofs.Common.{subst}
use Rattle.std.specs.Io.KnownBytes.{Consumes}
use Rattle.text.specs.Sizes.{longest_line}
use Rattle.record.specs.Sizes.{rows_at, most_floats}
use Rattle.reader.specs.Reader.{state, most_bytes}
use Rattle.rowrun.proofs.Mapped.{was_ok, on_ok_mapped}
use Rattle.rowrun.proofs.Reading.{reading_start, reading_listens, reading_on, all_told, most_told}
use Rattle.rowrun.proofs.run.Goals as goal
use Rattle.rowrun.proofs.run.Goals.{else-loop-test, then-loop-test+in_ok-n+then-n-eq0}

pub loop-init : goal.loop-init
unfolding rows_at most_floats
loop-init g c = (reading_start _ _ c.opened-link.result _ _ c.opened-link.ensures refl (search rules), search rules, search rules)

pub print_portion-written-requires-clause-head_value : goal.print_portion-written-requires-clause-head_value
unfolding state
print_portion-written-requires-clause-head_value g c = reading_listens c.loop.invariant.0

pub print_portion-written-requires-clause-longest_line_in_bounds : goal.print_portion-written-requires-clause-longest_line_in_bounds
unfolding longest_line
print_portion-written-requires-clause-longest_line_in_bounds g c = omega (arith, c.loop.invariant.2)

pub loop-preserved : goal.loop-preserved
loop-preserved g c =
    let n = c.in_ok-n.n in
    let input = c.read_some.new.input in
    let read = was_ok c.read_some.result c.map_err.result _ n c.map_err.ensures.cases c.map_err.ensures.variant c.in_ok-n.was in
    let some : 0 < length (take n input) = omega (arith, length-take-le n input (rw read at c.read_some.ensures.bound), c.if-n-eq0.false) in
    let took = rw read at c.read_some.ensures.bytes in
    let mapped = c.map_err-in-loop.ensures in
    let printed = was_ok c.print_portion-written.result c.map_err-in-loop.result _ tt mapped.cases mapped.variant c.in_ok-map_err.was in
    let made = c.print_portion-written.ensures in (
      reading_on c.loop.invariant.0 (take n input) some took.0 (rw printed at made.all) (rw printed at made.printed),
      search rules,
      search rules,
    )

pub returns : goal.returns
unfolding state most_bytes
returns g c =
    let way = c.loop.invariant.0 in
    let written = g.W.Write.contents c.print_end.new.sink in
    on_ok_mapped c.print_end.result _ c.map_err-2.ensures.variant (λ last. elim c.loop-test.branch [
      | else-loop-test w ↦ most_told way written last (omega (arith, w.loop-test.false))
      | then-loop-test+in_ok-n+then-n-eq0 w ↦
          let bytes = w.read_some.new.input in
          let left = g.R.Read.remaining w.read_some.new.source in
          let n = w.in_ok-n.n in
          let read = was_ok w.read_some.result w.map_err.result _ n w.map_err.ensures.cases w.map_err.ensures.variant w.in_ok-n.was in
          let end = rw read at w.read_some.ensures.bytes in
          let none = w.if-n-eq0.true in
          let some : 0 < length bytes = omega (arith, w.read_some.ensures.length, c.loop.invariant.1) in
          all_told way left written last (subst (λ n. Consumes (g.R.Read.remaining c.loop.source) left (take n bytes)) none end.0) (end.1 none some)
    ]) c.print_end.ensures
