-- What both of two values have, a choice between them has.
use mathlib.Core.Bool.{Bool, true, false}
use Rattle.float.specs.Operators.{when◌then◌else◌}

pub either : {A : Type 0} (P : A → Type 0) (c : Bool) {x y : A} → P x → P y → P (when c then x else y)
unfolding when◌then◌else◌
either P true h k = h
either P false h k = k
