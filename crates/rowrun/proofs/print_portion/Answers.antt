-- `rowrun::print_portion` meets its contract.
use mathlib.Core.Path.{refl, ap}
use Prim.Native.Nat.{◌+◌, ◌≤◌}
use native.Mathlib.Omega.{arith}
use borrow.Author.Rules.{rules}
use lib.ListN.{length}
use lib.Seq.{take_all}
use Rattle.std.proofs.Common.{subst}
use Rattle.std.specs.Io.KnownBytes.{Appends}
use Rattle.std.proofs.KnownBytes.{Appends-nil, Appends-trans}
use Rattle.reader.specs.Reader.{state, texts, said}
use Rattle.rowrun.proofs.Printing.{printing_start, not_past, nearer, printing_next, printed_then, all_printed}
use Rattle.rowrun.proofs.Put.{text_fits, text_shape, text_first}
use Rattle.rowrun.proofs.print_portion.Goals as goal

pub loop-from-init : goal.loop-from-init
unfolding state texts
loop-from-init g c =
    let a = c.args in
    (printing_start (state a.link.now a.head.now a.rows.now) a.bytes.now c.requires.head_value, refl, Appends-nil _)

pub overflow_add-from : goal.overflow_add-from
unfolding state
overflow_add-from g c =
    let l = c.loop-from in
    let past : l.from + c.fill-fed.result.taken ≤ length c.args.bytes.now = rw c.fill-fed.ensures.taken (not_past l.invariant.0 (length l.out)) in
    search (rules, past)

pub slice_bounds-write_whole-end : goal.slice_bounds-write_whole-end
slice_bounds-write_whole-end g c = let fed = c.fill-fed.ensures in text_fits _ _ _ fed.printed fed.out

pub slice_bounds-write_whole-end-in-loop-from : goal.slice_bounds-write_whole-end-in-loop-from
slice_bounds-write_whole-end-in-loop-from g c = let fed = c.fill-fed.ensures in text_shape _ _ _ fed.printed fed.out

pub returns-in_err-write_whole-clause-listens : goal.returns-in_err-write_whole-clause-listens
unfolding state
returns-in_err-write_whole-clause-listens g c =
    let l = c.loop-from in
    let fed = c.fill-fed.ensures in
    let next = printing_next l.invariant.0 (length l.out) fed.taken fed.link fed.head fed.rows in
    next.hears

pub loop-from-smaller : goal.loop-from-smaller
unfolding state
loop-from-smaller g c =
    let l = c.loop-from in
    rw c.fill-fed.ensures.taken (nearer l.invariant.0 (length l.out) (omega (arith, c.requires.longest_line_in_bounds, l.invariant.1)) c.loop-from-test.true)

pub loop-from-preserved : goal.loop-from-preserved
unfolding state said
loop-from-preserved g c =
    let l = c.loop-from in
    let fed = c.fill-fed.ensures in
    let before = l.invariant.2 in
    let lines = subst (Appends _ _) (text_first _ _ _ fed.printed fed.out) c.in_ok-write_whole.ensures in (
      printing_next l.invariant.0 (length l.out) fed.taken fed.link fed.head fed.rows,
      search rules,
      subst (Appends _ _) (printed_then l.invariant.0 c.fill-fed.result.taken) (Appends-trans _ _ _ _ _ before lines),
    )

pub returns-clause-listens : goal.returns-clause-listens
unfolding state
returns-clause-listens g c = c.loop-from.invariant.0.hears

pub returns-clause-all : goal.returns-clause-all
unfolding state
returns-clause-all g c = all_printed c.loop-from.invariant.0 c.loop-from-test.false

pub returns-clause-printed : goal.returns-clause-printed
unfolding state
returns-clause-printed g c =
    let l = c.loop-from in
    let begun = state c.args.link.now c.args.head.now c.args.rows.now in
    subst (Appends _ _) (ap (texts begun) (take_all l.from c.args.bytes.now c.loop-from-test.false)) l.invariant.2
