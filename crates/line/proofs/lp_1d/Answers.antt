-- `line::lp_1d` meets its contract.
use mathlib.Core.Path.{◌≡◌, sym, ◌∙◌}
use native.Mathlib.Omega.{arith}
use lib.ListN.{length}
use Prim.Native.Nat.{◌/◌}
use Rattle.std.specs.Prelude.{None}
use Rattle.rows.specs.Rows.{refusal}
use Rattle.float.proofs.Passed.{passed_on}
use Rattle.rows.proofs.Refusals.{taken, was_taken, was_refused}
use Rattle.line.specs.Line.{lp1d}
use Rattle.line.proofs.lp_1d.Goals as goal

pub returns-in_err-n : goal.returns-in_err-n
unfolding lp1d
returns-in_err-n c = rw (passed_on _ c.from_residual.ensures.1, was_refused _ _ (sym c.count.ensures ∙ c.in_err-n.was))

pub span_of-s-requires : goal.span_of-s-requires
span_of-s-requires c =
    let floats = length c.args.pairs.now in
    let was : (refusal 2 floats ≡ None) × (floats / 2 ≡ c.in_ok-n.n) = was_taken _ (sym c.count.ensures ∙ c.in_ok-n.was) in
    omega (arith, taken 2 floats was.0, was.1)

pub returns : goal.returns
unfolding lp1d
returns c =
    rw ((was_taken _ (sym c.count.ensures ∙ c.in_ok-n.was)).0, c.settled.ensures, c.settled-2.ensures, ← c.span_of-s.ensures)
