-- `m at_most k`: m takes k readings at most. A law for each way to make a value of others says how their bounds add up. Assumes nothing.
use mathlib.Core.Bool.{Bool, true, false}
use Prim.Native.Nat.{ℕ, ◌+◌, ◌≤◌}
use native.Mathlib.Omega.{arith}
use Rattle.float.specs.Operators.{when◌then◌else◌}
use Rattle.readings.specs.Readings.{Counted, pure, read, ◌>>=◌, ◌>>◌}

infix 4 ◌at_most◌
-- a record and no abbreviation, so that antt reads m off a goal
pub record ◌at_most◌ {A : Type 0} (m : Counted A) (k : ℕ) : Type 0 where
  pub bound : m.readings ≤ k

module _ {A : Type 0} where
  pub wider : {m : Counted A} {x y : ℕ} → m at_most x → x ≤ y → m at_most y
  wider h k = omega arith

  pub pure_takes : (a : A) {x : ℕ} → pure a at_most x
  unfolding pure
  pure_takes a = omega arith

  pub read_takes : (k : ℕ) {m : Counted A} {x : ℕ} → m at_most x → (read k >> m) at_most k + x
  unfolding read ◌>>◌
  read_takes k h = omega arith

  pub if_takes : (b : Bool) {m n : Counted A} {x : ℕ} → m at_most x → n at_most x → (when b then m else n) at_most x
  unfolding when◌then◌else◌
  if_takes true h k = h
  if_takes false h k = k

module _ {A B : Type 0} where
  pub bind_takes : {m : Counted A} {f : A → Counted B} {x y : ℕ} → m at_most x → ((a : A) → f a at_most y) → (m >>= f) at_most x + y
  unfolding ◌>>=◌
  bind_takes {m} h k = omega (arith, k m.value)

  pub bind_pure_takes : {m : Counted A} (f : A → B) {x : ℕ} → m at_most x → (m >>= λ a. pure (f a)) at_most x
  unfolding pure ◌>>=◌
  bind_pure_takes f h = omega arith
