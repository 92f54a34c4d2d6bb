-- `link::fill` meets its contract, and ends: each turn takes a byte.
use mathlib.Core.Path.{refl, sym, ◌∙◌}
use Prim.Native.Nat.{◌+◌, ◌≤◌}
use native.Mathlib.Omega.{arith}
use lib.ListN.{length}
use Rattle.text.specs.Sizes.{longest_line}
use Rattle.text.specs.Text.{written}
use Rattle.reader.specs.Reader.{state, after_all, texts, fed, said}
use Rattle.portions.proofs.Demands.{refused_by_12, takes_nothing_in}
use Rattle.link.proofs.Filling.{filling_start, not_past, nearer, filling_on, none_left, full, filled}
use Rattle.link.proofs.fill.Goals as goal

-- what is ensured, clause by clause
clauses : {A B C D E F G : Type 0} → A × (B × (C × (D × (E × (F × G)))))
    → record { refusal : A; taken : B; link : C; printed : D; head : E; rows : F; out : G }
clauses all =
    let left = all.1.1 in
    let memory = left.1.1 in
    record { refusal = all.0; taken = all.1.0; link = left.0; printed = left.1.0; head = memory.0; rows = memory.1.0; out = memory.1.1 }

pub loop-from-init : goal.loop-from-init
unfolding state
loop-from-init c =
    let a = c.args in
    let hears = sym c.is_listening.ensures ∙ c.if-not-is_listening.false in
    filling_start (state a.link a.head.now a.rows.now) a.bytes.now a.out.now hears

pub overflow_add-from : goal.overflow_add-from
overflow_add-from c =
    let l = c.loop-from in
    let within : l.from + c.turn-took.result.taken ≤ length c.args.bytes.now = rw c.turn-took.ensures.taken (not_past l.invariant) in
    omega (arith, within)

pub loop-from-smaller : goal.loop-from-smaller
loop-from-smaller c = rw c.turn-took.ensures.taken (nearer c.loop-from.invariant c.loop-from-test.true)

pub loop-from-preserved : goal.loop-from-preserved
unfolding fed said longest_line
loop-from-preserved c =
    let took = c.turn-took.ensures in
    filling_on c.loop-from.invariant (omega arith) took.taken took.link took.head took.rows (took.end, took.out)

pub returns-then-not-is_listening : goal.returns-then-not-is_listening
unfolding written state after_all texts fed said
returns-then-not-is_listening c =
    let a = c.args in
    let deaf = sym c.is_listening.ensures ∙ c.if-not-is_listening.true in
    rw c.refused.ensures record {
      refusal = sym (refused_by_12 a.link a.head.now deaf);
      taken = sym (takes_nothing_in a.link a.head.now deaf (length a.out.now) a.rows.now a.bytes.now);
      link = refl;
      printed = refl;
      head = refl;
      rows = refl;
      out = refl;
    }

pub turn-took-requires : goal.turn-took-requires
unfolding state longest_line
turn-took-requires c =
    let way = c.loop-from.invariant in
    record { head_value = way.hears; longest_line_in_bounds = omega (arith, way.fits) }

pub returns-after-loop-from : goal.returns-after-loop-from
unfolding state
returns-after-loop-from c =
    let way = c.loop-from.invariant in
    let a = c.args in
    let hears = sym c.is_listening.ensures ∙ c.if-not-is_listening.false in
    clauses (filled a.link a.head.now a.rows.now hears way (none_left way c.loop-from-test.false))

pub returns-then-out-at-lt-LONGEST_LINE : goal.returns-then-out-at-lt-LONGEST_LINE
unfolding state longest_line
returns-then-out-at-lt-LONGEST_LINE c =
    let way = c.loop-from.invariant in
    let a = c.args in
    let hears = sym c.is_listening.ensures ∙ c.if-not-is_listening.false in
    clauses (filled a.link a.head.now a.rows.now hears way (full way c.if-out-at-lt-LONGEST_LINE.true))
