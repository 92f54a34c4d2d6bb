-- One after the other: a value that takes no reading adds nothing, before or after, and how three are grouped does not matter.
use mathlib.Core.Path.{◌≡◌, ap, ◌∙◌}
use Prim.Native.Nat.{ℕ, ◌+◌}
use native.Mathlib.Nat.{zero-add, add-zero, add_assoc}
use Rattle.readings.specs.Readings.{Counted, pure, read, ◌>>=◌, ◌>>◌, paid, within}
use Rattle.readings.proofs.Laws.{goes_on}

module _ {A B : Type 0} where
  pub pure_first : (a : A) (f : A → Counted B) → (pure a >>= f) ≡ f a
  unfolding pure ◌>>=◌
  pure_first a f = ap (λ k. record { value = (f a).value; readings = k }) (zero-add (f a).readings)

  pub alike : (m : Counted A) (f g : A → Counted B) → ((a : A) → f a ≡ g a) → (m >>= f) ≡ (m >>= g)
  unfolding ◌>>=◌
  alike m f g e = ap (λ n. record { value = n.value; readings = m.readings + n.readings }) (e m.value)

pub pure-last : {A : Type 0} (m : Counted A) → (m >>= pure) ≡ m
unfolding pure ◌>>=◌
pure-last m = ap (λ k. record { value = m.value; readings = k }) (add-zero m.readings)

module _ {A B C : Type 0} where
  grouped : (m : Counted A) (f : A → Counted B) (g : B → Counted C) → (m >>= f >>= g) ≡ (m >>= λ a. f a >>= g)
  unfolding ◌>>=◌
  grouped m f g = ap (λ k. record { value = (g (f m.value).value).value; readings = k }) (add_assoc m.readings _ _)

  -- how a caller goes on by the first of three
  pub goes_through : (l : ℕ) (m : Counted A) (f : A → Counted B) (g : B → Counted C) {a : A} {k : ℕ}
      → within l m ≡ paid a k → within l (m >>= f >>= g) ≡ within k (f a >>= g)
  goes_through l m f g e = ap (within l) (grouped m f g) ∙ goes_on l m (λ a. f a >>= g) e

pub read_grouped : {A B : Type 0} (n : ℕ) (m : Counted A) (f : A → Counted B) → (read n >> m >>= f) ≡ (read n >> (m >>= f))
unfolding ◌>>=◌ ◌>>◌ read
read_grouped n m f = ap (λ k. record { value = (f m.value).value; readings = k }) (add_assoc n _ _)
