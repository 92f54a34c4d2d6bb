-- `recover::recover_2d_prefix` meets its contract.
use mathlib.Core.Path.{sym, ◌∙◌}
use Rattle.float.proofs.Passed.{passed_on}
use Rattle.recover.proofs.Entry.{entry_refuses, prefix_too_long, entry_finds, entry_fails}
use Rattle.recover.proofs.recover_2d_prefix.Goals as goal

pub returns-in_err-n : goal.returns-in_err-n
returns-in_err-n c = rw (passed_on _ c.from_residual.ensures.1) (entry_refuses _ _ _ _ _ c.count.ensures c.in_err-n.was)

pub returns-then-upto-n : goal.returns-then-upto-n
returns-then-upto-n c = prefix_too_long _ _ _ _ _ c.count.ensures c.in_ok-n.was c.if-upto-n.true

pub returns-in_err-t : goal.returns-in_err-t
returns-in_err-t c =
    rw (passed_on _ c.from_residual-in_err-t.ensures.1)
    (entry_fails _ _ _ _ _ c.count.ensures c.in_ok-n.was c.if-upto-n.false c.begun-s.ensures c.recover_prefix.ensures
    c.unwrap_or-found.ensures (sym c.ok_or.ensures.value ∙ c.in_err-t.was))

pub returns : goal.returns
returns c =
    rw (c.collected.ensures, c.settled-y.ensures, c.settled-x.ensures)
    (entry_finds _ _ _ _ _ c.count.ensures c.in_ok-n.was c.if-upto-n.false c.begun-s.ensures c.recover_prefix.ensures
    c.unwrap_or-found.ensures (sym c.ok_or.ensures.value ∙ c.in_ok-t.was))
