-- Laws of the allowance: how code that is given the readings left, and gives back those that remain, follows the definitions.
use mathlib.Core.Path.{◌≡◌, refl, sym, ap, ◌∙◌}
use mathlib.Core.Bool.{Bool, true, false}
use Prim.Native.Nat.{ℕ, ◌-◌, ◌≤◌, ◌<◌}
use native.Mathlib.Omega.{arith}
use lib.Dec.{leb}
use Rattle.std.specs.Prelude.{Result, Ok, Err}
use Rattle.std.specs.Result.{IsErrAnd}
use borrow.Author.Tests.{le-leb, lt-leb, leb-true, leb-false}
use Rattle.float.specs.Operators.{when◌then◌else◌}
use Rattle.float.proofs.Passed.{passed_on}
use Rattle.readings.specs.declared.Spent.{Spent}
use Rattle.readings.specs.Readings.{Counted, pure, read, ◌>>=◌, ◌>>◌, Paid, paid, stopped, within, paying}

-- what `cc` makes of two different constructors that are said to be equal
pub impossible : ◌≡◌ {A = ℕ} 0 1 → {A : Type 0} → A
impossible z = absurd (let w : ⊥ = omega arith in w)

-- ---- answers

-- an answer that shows all that was paid can be undone: where a call gave what its contract says, and a match told which answer that is, this was paid
pub undoing : {A B : Type 0} (shown : Paid A → B) (told : B → Paid A) → ((p : Paid A) → p ≡ told (shown p))
    → {result answer : B} (p : Paid A) → result ≡ shown p → result ≡ answer → p ≡ told answer
undoing shown told undone p gave is = undone p ∙ ap told (sym gave ∙ is)

-- ---- one value

module _ {A : Type 0} (l : ℕ) (m : Counted A) where
  pub within_fits : m.readings ≤ l → within l m ≡ paid m.value (l - m.readings)
  unfolding within when◌then◌else◌
  within_fits h = rw (le-leb m.readings l h)

  pub within_stops : l < m.readings → within l m ≡ stopped
  unfolding within when◌then◌else◌
  within_stops h = rw (lt-leb m.readings l h)

  -- and back again
  pub was_paid : {a : A} {k : ℕ} → within l m ≡ paid a k → (m.readings ≤ l) × (m.value ≡ a) × (l - m.readings ≡ k)
  was_paid {a} {k} e = go (leb m.readings l) refl
    where
      go : (b : Bool) → leb m.readings l ≡ b → (m.readings ≤ l) × (m.value ≡ a) × (l - m.readings ≡ k)
      go true d =
          let h = leb-true _ _ d in
          let same : ◌≡◌ {A = A × ℕ} (m.value, l - m.readings) (a, k) = let paid_alike = sym (within_fits h) ∙ e in cc in
          (h, ap (λ p. p.0) same, ap (λ p. p.1) same)
      go false d =
          let same : stopped ≡ paid a k = sym (within_stops (leb-false _ _ d)) ∙ e in
          impossible cc

  pub was_stopped : within l m ≡ stopped → l < m.readings
  was_stopped e = go (leb m.readings l) refl
    where
      go : (b : Bool) → leb m.readings l ≡ b → l < m.readings
      go true d =
          let same : paid m.value (l - m.readings) ≡ stopped = sym (within_fits (leb-true _ _ d)) ∙ e in
          impossible cc
      go false d = leb-false _ _ d

pub within-pure : {A : Type 0} (l : ℕ) (a : A) → within l (pure a) ≡ paid a l
unfolding pure
within-pure l a = within_fits l (pure a) (omega arith) ∙ ap (paid a) (omega arith)

-- ---- one after the other

module _ {A B : Type 0} (l : ℕ) (m : Counted A) (f : A → Counted B) where
  bind_fits : m.readings ≤ l → within l (m >>= f) ≡ within (l - m.readings) (f m.value)
  unfolding ◌>>=◌
  bind_fits h = go (leb (f m.value).readings (l - m.readings)) refl
    where
      go : (b : Bool) → leb (f m.value).readings (l - m.readings) ≡ b → within l (m >>= f) ≡ within (l - m.readings) (f m.value)
      go true d =
          let k = leb-true _ _ d in
          within_fits l (m >>= f) (omega arith) ∙ ap (paid (f m.value).value) (omega arith) ∙ sym (within_fits (l - m.readings) (f m.value) k)
      go false d =
          let k = leb-false _ _ d in
          within_stops l (m >>= f) (omega arith) ∙ sym (within_stops (l - m.readings) (f m.value) k)

  -- how a caller goes on, from what the first call gave
  pub goes_on : {a : A} {k : ℕ} → within l m ≡ paid a k → within l (m >>= f) ≡ within k (f a)
  goes_on {a} {k} e =
      let was = was_paid l m e in
      bind_fits was.0 ∙ ap (λ n. within n (f m.value)) was.2 ∙ ap (λ x. within k (f x)) was.1

  pub goes_no_further : within l m ≡ stopped → within l (m >>= f) ≡ stopped
  unfolding ◌>>=◌
  goes_no_further e = let h = was_stopped l m e in within_stops l (m >>= f) (omega arith)

-- k readings, then the rest
module _ {A : Type 0} (l k : ℕ) (m : Counted A) where
  pub reading_fits : k ≤ l → within l (read k >> m) ≡ within (l - k) m
  unfolding read ◌>>◌ ◌>>=◌
  reading_fits h = bind_fits l (read k) (λ _. m) h

  pub reading_stops : l < k → within l (read k >> m) ≡ stopped
  unfolding read ◌>>◌
  reading_stops h = within_stops l (read k >> m) (omega arith)

-- ---- in code: `m`, or k readings, by a call with a `?` behind it, and then the rest of the caller

-- one value of the error is as good as another
the_error : {A : Type 0} {e : Spent} (answer : Paid A) → IsErrAnd answer (λ y. y ≡ e) → answer ≡ stopped
the_error answer passed = passed_on answer passed

-- what the call answered was paid
pub tells : {A : Type 0} (l : ℕ) (m : Counted A) {call p : Paid A} → call ≡ within l m → call ≡ p → within l m ≡ p
tells l m is was = undoing (λ p. p) (λ p. p) (λ p. refl) (within l m) is was

module _ {A B : Type 0} (l : ℕ) (m : Counted A) (f : A → Counted B) {call : Paid A} (is : call ≡ within l m) {answer : Paid B} where
  -- the call gave a and left k readings: from these the caller answers
  pub then_answers : {a : A} {k : ℕ} → call ≡ paid a k → answer ≡ within k (f a) → answer ≡ within l (m >>= f)
  then_answers was e = e ∙ sym (goes_on l m f (tells l m is was))

  -- the call ended for want of readings, and the caller with it
  pub ends_with_it : {e : Spent} → call ≡ Err e → IsErrAnd answer (λ y. y ≡ e) → answer ≡ within l (m >>= f)
  ends_with_it was passed = the_error answer passed ∙ sym (goes_no_further l m f (tells l m is was))

module _ {A : Type 0} (l k : ℕ) (m : Counted A) {call : Result ℕ Spent} (is : call ≡ paying l k) {answer : Paid A} where
  -- the same of `pay`
  pub paid_then_answers : {rest : ℕ} → call ≡ Ok rest → answer ≡ within rest m → answer ≡ within l (read k >> m)
  unfolding paying when◌then◌else◌
  paid_then_answers {rest} was e = go (leb k l) refl
    where
      go : (b : Bool) → leb k l ≡ b → answer ≡ within l (read k >> m)
      go true d =
          let same : ◌≡◌ {A = Result ℕ Spent} (Ok rest) (Ok (l - k)) = sym was ∙ is ∙ rw d in
          let left : rest ≡ l - k = cc in
          e ∙ rw left (sym (reading_fits l k m (leb-true k l d)))
      go false d =
          let same : ◌≡◌ {A = Result ℕ Spent} (Ok rest) (Err (record {})) = sym was ∙ is ∙ rw d in
          impossible cc

  pub unpaid : {e : Spent} → call ≡ Err e → IsErrAnd answer (λ y. y ≡ e) → answer ≡ within l (read k >> m)
  unfolding paying when◌then◌else◌
  unpaid {e} was passed = go (leb k l) refl
    where
      go : (b : Bool) → leb k l ≡ b → answer ≡ within l (read k >> m)
      go true d =
          let same : ◌≡◌ {A = Result ℕ Spent} (Err e) (Ok (l - k)) = sym was ∙ is ∙ rw d in
          impossible cc
      go false d = the_error answer passed ∙ sym (reading_stops l k m (leb-false k l d))

-- what `pay` says of a value whose readings it was asked for
module _ {A : Type 0} (l : ℕ) (m : Counted A) where
  pub pays : {rest : ℕ} → paying l m.readings ≡ Ok rest → within l m ≡ paid m.value rest
  unfolding paying within when◌then◌else◌
  pays {rest} e = go (leb m.readings l) refl
    where
      go : (b : Bool) → leb m.readings l ≡ b → within l m ≡ paid m.value rest
      go true d =
          let same : ◌≡◌ {A = Result ℕ Spent} (Ok (l - m.readings)) (Ok rest) = rw d at e in
          let left : l - m.readings ≡ rest = cc in
          within_fits l m (leb-true _ _ d) ∙ rw left
      go false d =
          let same : ◌≡◌ {A = Result ℕ Spent} (Err (record {})) (Ok rest) = rw d at e in
          impossible cc

  pub pays_nothing : {e : Spent} → paying l m.readings ≡ Err e → within l m ≡ stopped
  unfolding paying within when◌then◌else◌
  pays_nothing {e} said = go (leb m.readings l) refl
    where
      go : (b : Bool) → leb m.readings l ≡ b → within l m ≡ stopped
      go true d =
          let same : ◌≡◌ {A = Result ℕ Spent} (Ok (l - m.readings)) (Err e) = rw d at said in
          impossible cc
      go false d = within_stops l m (leb-false _ _ d)

-- the same where code asks by itself whether the readings are left
pub pay_fits : (l k : ℕ) → k ≤ l → paying l k ≡ Ok (l - k)
unfolding paying when◌then◌else◌
pay_fits l k h = rw (le-leb k l h)

pub pay_stops : (l k : ℕ) → l < k → paying l k ≡ Err (record {})
unfolding paying when◌then◌else◌
pay_stops l k h = rw (lt-leb k l h)
