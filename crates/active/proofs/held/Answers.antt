-- `active::held` meets its contract.
use Rattle.std.proofs.Common.{◌≡◌, refl, Option, Some, None}
use Rattle.std.specs.Prelude.{unwrap_or}
use Rattle.active.specs.declared.Active.{Active}
use Rattle.active.specs.Active.{no_rows}
use Rattle.active.specs.Collector.{held}
use Rattle.active.proofs.held.Goals as goal

by_cases : (coll : Option Active) → unwrap_or coll no_rows ≡ held coll
unfolding held
by_cases None = refl
by_cases (Some act) = refl

pub returns : goal.returns
returns c = rw (c.unwrap_or.ensures, c.no_rows.ensures) (by_cases c.args.coll)
