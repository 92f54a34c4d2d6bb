-- `active::collected` meets its contract.
use Rattle.std.proofs.Common.{◌≡◌, refl, Option, Some, None}
use Rattle.std.specs.Option.{option_and}
use Rattle.active.specs.declared.Active.{Active}
use Rattle.active.specs.Collector.{collected}
use Rattle.active.proofs.collected.Goals as goal

by_cases : (coll : Option Active) (found : Active) → option_and coll (Some found) ≡ collected coll found
unfolding collected
by_cases None found = refl
by_cases (Some act) found = refl

pub returns : goal.returns
returns c = rw c.and.ensures (by_cases c.args.coll c.args.found)
