-- `m gives P`: the value of m has the property P. A law for each way to make a value of others.
use mathlib.Core.Path.{◌≡◌, subst}
use mathlib.Core.Bool.{Bool, true, false}
use Prim.Native.Nat.{ℕ}
use Rattle.float.specs.Operators.{when◌then◌else◌}
use Rattle.readings.specs.Readings.{Counted, pure, read, ◌>>=◌, ◌>>◌, paid, within}
use Rattle.readings.proofs.Laws.{was_paid}

infix 4 ◌gives◌
pub record ◌gives◌ {A : Type 0} (m : Counted A) (P : A → Type 0) : Type 0 where
  pub has : P m.value

-- what both of two values have, a choice between them has
pub either : {A : Type 0} (P : A → Type 0) (b : Bool) {x y : A} → P x → P y → P (when b then x else y)
unfolding when◌then◌else◌
either P true h k = h
either P false h k = k

module _ {A : Type 0} {P : A → Type 0} where
  pub pure_gives : (a : A) → P a → pure a gives P
  unfolding pure
  pure_gives a h = record { has = h }

  pub read_gives : (k : ℕ) {m : Counted A} → m gives P → (read k >> m) gives P
  unfolding ◌>>◌
  read_gives k h = record { has = h.has }

  pub if_gives : (b : Bool) {m n : Counted A} → m gives P → n gives P → (when b then m else n) gives P
  if_gives b h k = either (λ m. m gives P) b h k

  -- what is left of it within an allowance has it too
  pub paid_has : {m : Counted A} (l : ℕ) {a : A} {k : ℕ} → m gives P → within l m ≡ paid a k → P a
  paid_has {m} l h e = subst P (was_paid l m e).1 h.has

module _ {A B : Type 0} {Q : B → Type 0} {f : A → Counted B} where
  pub bind_gives : {P : A → Type 0} {m : Counted A} → m gives P → ((a : A) → P a → f a gives Q) → (m >>= f) gives Q
  unfolding ◌>>=◌
  bind_gives {m} h k = record { has = (k m.value h.has).has }

  -- whatever the first gives
  pub any_gives : (m : Counted A) → ((a : A) → f a gives Q) → (m >>= f) gives Q
  unfolding ◌>>=◌
  any_gives m k = record { has = (k m.value).has }
