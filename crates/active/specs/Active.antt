-- Two active rows. Assumes nothing.
use Rattle.std.specs.Prelude.{ℕ, Some, None}
use Rattle.active.specs.declared.Active.{Active}

unfoldable pub no_rows : Active
no_rows = record { first = None; second = None }

unfoldable pub set_first : ℕ → Active → Active
set_first k act = record { first = Some k; second = act.second }

unfoldable pub set_second : ℕ → Active → Active
set_second k act = record { first = act.first; second = Some k }
