-- `solve::many` meets its contract. The loop's invariant: what the solves still to go come to with the readings left is what all of them come to.
use mathlib.Core.Path.{◌≡◌, refl, ◌∙◌}
use mathlib.Core.Logic.{◌⊎◌, inl, inr}
use mathlib.Core.Bool.{Bool, true, false, not}
use Prim.Native.Nat.{◌-◌}
use native.Mathlib.Omega.{arith}
use Rattle.rows.specs.Constants.{lp_bound, lp_box_growth}
use Rattle.rows.specs.Rows.{rows_of}
use Rattle.solve.proofs.Rounds.{from_all, turn}
use Rattle.solve.proofs.many.Goals.{then-k-eq6-via-then-k-eq6, then-k-eq6-via-else-k-eq6+then-not-round}
use Rattle.solve.proofs.many.Goals as goal

on_it : (sits : Bool) → not sits ≡ false → sits ≡ true
on_it true e = refl
on_it false e = absurd (cc)

off_it : (sits : Bool) → not sits ≡ true → sits ≡ false
off_it true e = absurd (cc)
off_it false e = refl

pub loop-round-init : goal.loop-round-init
unfolding lp_bound
loop-round-init c =
    let a = c.args in
    record { even = omega arith; few = omega arith; enough = omega arith; rest = from_all a.task a.allowance (rows_of a.rows.now) }

pub overflow_sub-allowance : goal.overflow_sub-allowance
overflow_sub-allowance c =
    let solved = c.solve_once.ensures in
    (turn (omega arith) c.loop-round.invariant solved.lent (omega arith) solved.answer c.in-Ok.is).enough

pub loop-round-preserved : goal.loop-round-preserved
unfolding lp_box_growth
loop-round-preserved c =
    let l = c.loop-round.invariant in
    let solved = c.solve_once.ensures in
    (turn (omega arith) l solved.lent (omega arith) solved.answer c.in-Ok.is).goes_on (omega (arith, l.few)) (on_it _ c.if-not-round.false)

pub returns-in-Err : goal.returns-in-Err
returns-in-Err c =
    let solved = c.solve_once.ensures in
    let stopped = turn (omega arith) c.loop-round.invariant solved.lent (omega arith) solved.answer c.in-Err.is in
    record { answer = stopped.0; lent = stopped.1 }

pub returns-then-k-eq6 : goal.returns-then-k-eq6
returns-then-k-eq6 c =
    let l = c.loop-round.invariant in
    let solved = c.solve_once.ensures in
    let turned = turn (omega arith) l solved.lent (omega arith) solved.answer c.in-Ok.is in
    let last : (6 - c.loop-round.k ≡ 0) ⊎ (c.in-Ok.round.sits_on_box ≡ false) =
    elim c.then-k-eq6.branch [
      | then-k-eq6-via-then-k-eq6 w ↦ inl (omega arith)
      | then-k-eq6-via-else-k-eq6+then-not-round w ↦ inr (off_it _ w.if-not-round.true)
    ] in
    let ends = turned.ends last in
    record { answer = c.answered.ensures ∙ ends.0; lent = ends.1 }
