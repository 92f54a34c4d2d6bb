-- A value with the number of readings that it takes, and what is left of it within an allowance.
use Rattle.std.specs.Prelude.{ℕ, ◌+◌, ◌-◌, leb, Result, Ok, Err}
use Rattle.float.specs.Operators.{when◌then◌else◌}
use Rattle.readings.specs.declared.Spent.{Spent}

infixl 10 ◌>>=◌ ◌>>◌
pub record Counted (A : Type 0) : Type 0 where
  pub value : A
  pub readings : ℕ

-- a value that takes no reading
unfoldable pub pure : {A : Type 0} → A → Counted A
pure a = record { value = a; readings = 0 }

-- k readings
unfoldable pub read : ℕ → Counted (Unit {0})
read k = record { value = tt; readings = k }

-- one after the other: the readings add up. `do` blocks are made of these
unfoldable pub ◌>>=◌ : {A B : Type 0} → Counted A → (A → Counted B) → Counted B
m >>= f = let n = f m.value in record { value = n.value; readings = m.readings + n.readings }

unfoldable pub ◌>>◌ : {A B : Type 0} → Counted A → Counted B → Counted B
m >> n = record { value = n.value; readings = m.readings + n.readings }

-- the value and the readings that remain; or too few were left
abbrev pub Paid : Type 0 → Type 0
Paid A = Result (A × ℕ) Spent

abbrev pub paid : {A : Type 0} → A → ℕ → Paid A
paid a left = Ok (a, left)

abbrev pub stopped : {A : Type 0} → Paid A
stopped = Err (record {})

unfoldable pub within : {A : Type 0} → ℕ → Counted A → Paid A
within left m = when leb m.readings left then paid m.value (left - m.readings) else stopped

-- so many readings taken off those left
unfoldable pub paying : ℕ → ℕ → Result ℕ Spent
paying left k = when leb k left then Ok (left - k) else Err (record {})
