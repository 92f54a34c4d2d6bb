-- `rows::put_row` meets its contract: its three stores are one row's. Assumes nothing.
use borrow.Author.Rules.{rules}
use Rattle.rows.proofs.Written.{rows-set}
use Rattle.rows.proofs.put_row.Goals as goal

pub returns-clause-stored : goal.returns-clause-stored
returns-clause-stored c =
    let a = c.args in
    rows-set a.rows.now a.k a.r.a a.r.b a.r.c (search rules)
