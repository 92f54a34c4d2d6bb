-- `rebuild::active_basis_supports_max_y` meets its contract.
use Rattle.rebuild.specs.Supports.{supported_by, supports}
use Rattle.rebuild.proofs.active_basis_supports_max_y.Goals as goal

pub returns-in-None-default : goal.returns-in-None-default
unfolding supports supported_by
returns-in-None-default c = simp c.in-None-default.is-0

pub returns-in-Some-None : goal.returns-in-Some-None
unfolding supports supported_by
returns-in-Some-None c = simp (c.in-Some-None.is-0, c.in-Some-None.is-1, ← c.row_or_zeros.ensures, ← c.one_supports.ensures)

pub returns-in-Some-Some : goal.returns-in-Some-Some
unfolding supports supported_by
returns-in-Some-Some c =
    simp (
      c.in-Some-Some.is-0,
      c.in-Some-Some.is-1,
      ← c.row_or_zeros-r.ensures,
      ← c.row_or_zeros-in-Some-Some.ensures,
      ← c.two_support.ensures,
    )
