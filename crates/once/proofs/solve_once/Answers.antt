-- `once::solve_once` meets its contract.
use mathlib.Core.Path.{refl, sym, ap, ◌∙◌}
use Rattle.readings.proofs.Laws.{pays, pays_nothing, then_answers, ends_with_it}
use Rattle.rows.specs.Rows.{rows_of}
use Rattle.once.specs.Once.{prepared, solving_once}
use Rattle.once.proofs.Cases.{rows_again, leaves_prepared}
use Rattle.once.proofs.solve_once.Goals as goal

pub returns-in_err-rest-clause-answer : goal.returns-in_err-rest-clause-answer
unfolding solving_once
returns-in_err-rest-clause-answer c =
    let a = c.args in
    let ready = prepared a.mode (rows_of a.rows.now) in
    let unpaid = pays_nothing a.left ready (sym c.prepare.ensures.answer ∙ c.in_err-rest.was) in
    ends_with_it a.left ready _ (sym unpaid) refl c.from_residual.ensures.1

pub returns-clause-answer : goal.returns-clause-answer
unfolding solving_once
returns-clause-answer c =
    let a = c.args in
    let ready = prepared a.mode (rows_of a.rows.now) in
    let paid = sym c.prepare.ensures.answer ∙ c.in_ok-rest.was in
    let kept = ap rows_of (c.prepare.ensures.lent ∙ leaves_prepared a.left a.mode a.rows.now paid) ∙ rows_again ready.value in
    then_answers a.left ready _ (sym (pays a.left ready paid)) refl (rw (← kept) c.one_round.ensures)
