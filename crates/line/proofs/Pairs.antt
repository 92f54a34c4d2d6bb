-- Pairs that lie flat in a slice, and a reduction of them, pair by pair.
use Rattle.std.specs.Prelude.{Some, None}
use mathlib.Core.Path.{◌≡◌, refl, sym, ap, ◌∙◌}
use mathlib.Core.Bool.{Bool, false}
use mathlib.Core.List.{List, [], ◌∷◌}
use Prim.Native.Nat.{ℕ, zero, suc, ◌+◌, ◌*◌, ◌≤◌, ◌<◌}
use native.Mathlib.Omega.{arith}
use native.Mathlib.Numerals.{add-one}
use lib.ListN.{length, drop, get_or, drop_of_length-le}
use lib.Seq.{drop-cons}
use lib.Ieee.{Float, nan}
use Rattle.float.specs.Float as float
use Rattle.readings.specs.Readings.{pure, ◌>>◌}
use Rattle.line.specs.declared.Term.{Term}
use Rattle.line.specs.declared.Span.{Span}
use Rattle.line.specs.declared.Offcut.{Offcut}
use Rattle.line.specs.Line.{void, cut_off, without, meeting, lp1d_core, pairs_of, pair_at}
use Rattle.line.proofs.Select.{narrowed}
use Rattle.line.proofs.Reduction.{kept, emptied}

pub pair_of : (s : List Float) (k : ℕ) → 2 * k + 1 < length s
    → pair_at (pairs_of s) k ≡ record { a = get_or s (2 * k) nan; b = get_or s (2 * k + 1) nan; scale = float.zero }
unfolding pair_at pairs_of
pair_of [] k h = absurd (let z : ⊥ = omega arith in z)
pair_of (a ∷ []) k h = absurd (let z : ⊥ = omega arith in z)
pair_of (a ∷ b ∷ s) zero h = refl
pair_of (a ∷ b ∷ s) (suc k) h =
    let e₀ : 2 * suc k ≡ suc (suc (2 * k)) = omega arith in
    let e₁ : 2 * suc k + 1 ≡ suc (suc (2 * k + 1)) = omega arith in
    rw (e₁, e₀) (pair_of s k (omega arith))

pairs_length : (s : List Float) (n : ℕ) → 2 * n ≡ length s → length (pairs_of s) ≡ n
unfolding pairs_of
pairs_length [] n e = omega arith
pairs_length (a ∷ []) n e = absurd (let z : ⊥ = omega arith in z)
pairs_length (a ∷ b ∷ s) zero e = absurd (let z : ⊥ = omega arith in z)
pairs_length (a ∷ b ∷ s) (suc n) e = ap suc (pairs_length s n (omega arith))

-- pair k is next, v is left, and with it the pairs give `whole`
pub record Pairs (autonan : Bool) (ε : Float) (flat : List Float) (k : ℕ) (v whole : Span) : Type 0 where
  pub gives : (lp1d_core autonan false ε (drop k (pairs_of flat)) k v).value ≡ whole

module _ {autonan : Bool} {ε : Float} {flat : List Float} {k : ℕ} {v whole : Span} (turn : Pairs autonan ε flat k v whole)
    {n : ℕ} (all : 2 * n ≡ length flat) where
  pub pairs_end : n ≤ k → meeting autonan ε v ≡ whole
  unfolding lp1d_core pure
  pairs_end h = rw (drop_of_length-le (pairs_of flat) {i = k} (omega (arith, pairs_length flat n all))) at turn.gives

  module _ (inside : k < n) where
    abbrev pair : Term
    pair = pair_at (pairs_of flat) k

    next : drop k (pairs_of flat) ≡ pair ∷ drop (k + 1) (pairs_of flat)
    unfolding pair_at
    next =
        drop-cons (pairs_of flat) k _ (omega (arith, pairs_length flat n all)) ∙ ap (λ m. pair_at (pairs_of flat) k ∷ drop m (pairs_of flat)) (sym (add-one k))

    opened : (lp1d_core autonan false ε (pair ∷ drop (k + 1) (pairs_of flat)) k v).value ≡ whole
    opened = rw next at turn.gives

    module _ {cut : Offcut} (cuts : cut ≡ cut_off false ε pair v.high v.low) where
      pub pair_keeps : {w : Span} → without k cut v ≡ Some w → Pairs autonan ε flat (k + 1) w whole
      unfolding ◌>>◌
      pair_keeps {w} e =
          let goes = kept autonan false ε pair _ k v w (narrowed false ε k pair v cuts ∙ e) in
          record { gives = sym (ap (λ m. m.value) goes) ∙ opened }

      pub pair_empties : without k cut v ≡ None → void v ≡ whole
      unfolding ◌>>◌ pure
      pair_empties e =
          let ends = emptied autonan false ε pair _ k v (narrowed false ε k pair v cuts ∙ e) in
          sym (ap (λ m. m.value) ends) ∙ opened
