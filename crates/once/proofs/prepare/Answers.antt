-- `once::prepare` meets its contract.
use mathlib.Core.Path.{sym, ◌∙◌}
use native.Mathlib.Omega.{arith}
use Rattle.float.proofs.Passed.{passed_on}
use Rattle.rows.specs.Rows.{rows_of}
use Rattle.rows.proofs.Written.{flat_rows}
use Rattle.once.specs.declared.Normalize.TheVariants.{Off, Source}
use Rattle.once.proofs.Cases.{off_is_free, off_leaves, source_takes, source_normalises, leaves_prepared, leaves_as_lent}
use Rattle.once.proofs.prepare.Goals as goal

pub returns-in-Off-clause-answer : goal.returns-in-Off-clause-answer
returns-in-Off-clause-answer c = rw c.in-Off.is (sym (off_is_free c.args.left (rows_of c.args.rows.now)))

pub returns-in-Off-clause-lent : goal.returns-in-Off-clause-lent
returns-in-Off-clause-lent c =
    let a = c.args in
    let kept = leaves_prepared a.left Off a.rows.now (off_is_free a.left (rows_of a.rows.now)) in
    rw (c.in-Off.is, kept, off_leaves (rows_of a.rows.now)) (sym (flat_rows a.rows.now a.n (omega arith)))

pub returns-in_err-rest-in-Source-clause-answer : goal.returns-in_err-rest-in-Source-clause-answer
returns-in_err-rest-in-Source-clause-answer c =
    let a = c.args in
    rw (c.in-Source.is, source_takes a.rows.now a.n (omega arith), ← c.pay.ensures, c.in_err-rest-in-Source.was) (passed_on _ c.from_residual.ensures.1)

pub returns-in_err-rest-in-Source-clause-lent : goal.returns-in_err-rest-in-Source-clause-lent
returns-in_err-rest-in-Source-clause-lent c =
    let a = c.args in
    rw (c.in-Source.is) (sym (leaves_as_lent a.left _ a.rows.now
    (rw (source_takes a.rows.now a.n (omega arith)) (sym c.pay.ensures ∙ c.in_err-rest-in-Source.was))))

pub returns-in_ok-rest-in-Source-clause-answer : goal.returns-in_ok-rest-in-Source-clause-answer
returns-in_ok-rest-in-Source-clause-answer c =
    let a = c.args in
    rw (c.in-Source.is, source_takes a.rows.now a.n (omega arith)) (sym c.in_ok-rest-in-Source.was ∙ c.pay.ensures)

pub returns-in_ok-rest-in-Source-clause-lent : goal.returns-in_ok-rest-in-Source-clause-lent
returns-in_ok-rest-in-Source-clause-lent c =
    let a = c.args in
    let paid = sym c.pay.ensures ∙ c.in_ok-rest-in-Source.was in
    let kept = leaves_prepared a.left Source a.rows.now {rest = c.in_ok-rest-in-Source.rest} (rw (source_takes a.rows.now a.n (omega arith)) paid) in
    rw (c.in-Source.is, kept, source_normalises) c.normalize.ensures
