-- `solve::few` meets its contract.
use mathlib.Core.Path.{◌≡◌}
use native.Mathlib.Omega.{arith}
use lib.ListN.{length}
use Rattle.rows.specs.Rows.{rows_of}
use Rattle.rows.proofs.Lengths.{length-rows_of}
use Rattle.solve.proofs.FewRows.{none-answered, one-stopped, one-answered, few_lent}
use Rattle.solve.proofs.few.Goals as goal

pub returns-then-n-eq0-clause-answer : goal.returns-then-n-eq0-clause-answer
returns-then-n-eq0-clause-answer c =
    let a = c.args in
    let none : length (rows_of a.rows.now) ≡ 0 = omega (arith, length-rows_of a.rows.now) in
    rw (none-answered a.task a.allowance (rows_of a.rows.now) none) c.answered.ensures

pub returns-then-n-eq0-clause-lent : goal.returns-then-n-eq0-clause-lent
returns-then-n-eq0-clause-lent c =
    let a = c.args in
    let none : length (rows_of a.rows.now) ≡ 0 = omega (arith, length-rows_of a.rows.now) in
    few_lent a.task a.allowance a.n a.rows.now (omega arith) (omega arith)

pub returns-then-allowance-eq0-clause-answer : goal.returns-then-allowance-eq0-clause-answer
returns-then-allowance-eq0-clause-answer c =
    let a = c.args in
    let one : length (rows_of a.rows.now) ≡ 1 = omega (arith, length-rows_of a.rows.now) in
    rw (one-stopped a.task a.allowance (rows_of a.rows.now) one c.if-allowance-eq0.true)

pub returns-then-allowance-eq0-clause-lent : goal.returns-then-allowance-eq0-clause-lent
returns-then-allowance-eq0-clause-lent c =
    let a = c.args in
    let one : length (rows_of a.rows.now) ≡ 1 = omega (arith, length-rows_of a.rows.now) in
    few_lent a.task a.allowance a.n a.rows.now (omega arith) (omega arith)

pub returns-clause-answer : goal.returns-clause-answer
returns-clause-answer c =
    let a = c.args in
    let one : length (rows_of a.rows.now) ≡ 1 = omega (arith, length-rows_of a.rows.now) in
    let counted = one-answered a.task a.allowance (rows_of a.rows.now) one (omega arith) in
    rw (counted, ← c.row_at.ensures, ← c.lone.ensures) c.answered-2.ensures

pub returns-clause-lent : goal.returns-clause-lent
returns-clause-lent c =
    let a = c.args in
    let one : length (rows_of a.rows.now) ≡ 1 = omega (arith, length-rows_of a.rows.now) in
    let counted = one-answered a.task a.allowance (rows_of a.rows.now) one (omega arith) in
    few_lent a.task a.allowance a.n a.rows.now (omega arith) (omega arith)
