-- `passes::forward` meets its contract: at each turn row i is next, and what is left of the pass gives the whole.
use mathlib.Core.Path.{refl, sym, ◌∙◌}
use native.Mathlib.Omega.{arith}
use Rattle.passes.specs.Passes.{violated}
use Rattle.readings.proofs.Laws.{pay_fits, pay_stops}
use Rattle.passes.proofs.Turns.{ends, stops, keeps, pivot_stops, pivot_fails, pivot_finds}
use Rattle.passes.proofs.forward.Goals.{then-beyond_rounding+in_ok-found+in-Some, else-beyond_rounding}
use Rattle.passes.proofs.forward.Goals as goal

pub returns-then-rest-eq0 : goal.returns-then-rest-eq0
returns-then-rest-eq0 c =
    stops c.loop-i.invariant c.loop-i-test.true refl (pay_stops c.loop-i.rest 1 (omega arith)) refl

pub returns-in_err-found : goal.returns-in_err-found
unfolding violated
returns-in_err-found c =
    let above = rw (c.residual-residual.ensures, c.row_at-r.ensures) at (sym c.beyond_rounding.ensures ∙ c.if-beyond_rounding.true) in
    pivot_stops c.loop-i.invariant c.loop-i-test.true refl (pay_fits c.loop-i.rest 1 (omega arith)) above c.pivot.ensures
    c.in_err-found.was c.from_residual.ensures.1

pub returns-in-None : goal.returns-in-None
unfolding violated
returns-in-None c =
    let above = rw (c.residual-residual.ensures, c.row_at-r.ensures) at (sym c.beyond_rounding.ensures ∙ c.if-beyond_rounding.true) in
    pivot_fails c.loop-i.invariant c.loop-i-test.true refl (pay_fits c.loop-i.rest 1 (omega arith)) above c.pivot.ensures (rw c.in-None.is at c.in_ok-found.was)

pub loop-i-preserved : goal.loop-i-preserved
unfolding violated
loop-i-preserved c =
    let tested = rw (c.residual-residual.ensures, c.row_at-r.ensures) at c.beyond_rounding.ensures in
    elim c.if-beyond_rounding.branch [
      | then-beyond_rounding+in_ok-found+in-Some w ↦
          rw (w.s-is, w.rest-is, w.fresh-s.ensures)
          (pivot_finds c.loop-i.invariant c.loop-i-test.true refl (pay_fits c.loop-i.rest 1 (omega arith)) (sym tested ∙ w.if-beyond_rounding.true)
          w.pivot.ensures (rw w.in-Some.is at w.in_ok-found.was))
      | else-beyond_rounding w ↦
          rw (w.s-is, w.rest-is)
          (keeps c.loop-i.invariant c.loop-i-test.true refl (pay_fits c.loop-i.rest 1 (omega arith)) (sym tested ∙ w.if-beyond_rounding.false))
    ]

pub returns : goal.returns
returns c = ends c.loop-i.invariant c.loop-i-test.false
