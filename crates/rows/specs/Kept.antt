-- What the contract of an inner function says of two kept roots. No public entry cites it. Assumes nothing.
use Rattle.std.specs.Prelude.{◌≡◌}
use Rattle.rounding.specs.Root.{root}
use Rattle.rows.specs.declared.Kept.{Kept}

-- each norm is the root of its square
abbrev pub Keeps : Kept → Type 0
Keeps kept = (kept.norm ≡ root kept.square) × (kept.beyond ≡ root kept.ahead)
