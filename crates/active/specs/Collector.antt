-- A caller's collector, above the step: what it begins with, and what it holds after a call. One that is off stays off.
use Rattle.std.specs.Prelude.{Option, Some, None}
use Rattle.active.specs.declared.Active.{Active}
use Rattle.active.specs.Active.{no_rows}

unfoldable pub held : Option Active → Active
held None = no_rows
held (Some act) = act

unfoldable pub collected : Option Active → Active → Option Active
collected None found = None
collected (Some act) found = Some found
