-- One byte by its three cases: it does not count and changes nothing; a record is not all there with it, and it takes its place; or one is, and is
-- answered.
use mathlib.Core.Path.{◌≡◌, refl}
use mathlib.Core.Bool.{Bool, true, false}
use mathlib.Core.List.{[]}
use Prim.Native.Nat.{ℕ, ◌<◌}
use native.Mathlib.Decide.{dec_le}
use native.Mathlib.Omega.{arith}
use borrow.Author.Tests.{eq-eqb, ne_eqb}
use Rattle.float.specs.Operators.{when◌then◌else◌}
use Rattle.reader.specs.Reader.{State, unfinished, placed, line_of, turned, ends, after, text}

module _ (s : State) (b : ℕ) where
  abbrev pub lacking : Bool
  lacking = unfinished (placed s b).link.passed (placed s b).head

  pub uncounted : s.link.left ≡ 0 → (ends s b ≡ false) × (after s b ≡ s) × (text s b ≡ [])
  unfolding ends after text when◌then◌else◌
  uncounted none = rw (eq-eqb s.link.left 0 none) (refl, refl, refl)

  pub goes_on : 0 < s.link.left → lacking ≡ true → (ends s b ≡ false) × (after s b ≡ placed s b) × (text s b ≡ [])
  unfolding ends after text when◌then◌else◌
  goes_on some u = rw (ne_eqb s.link.left 0 (λ none. omega arith), u) (refl, refl, refl)

  pub is_there : 0 < s.link.left → lacking ≡ false → (ends s b ≡ true) × (after s b ≡ turned (placed s b)) × (text s b ≡ line_of (placed s b))
  unfolding ends after text when◌then◌else◌
  is_there some u = rw (ne_eqb s.link.left 0 (λ none. omega arith), u) (refl, refl, refl)

  -- what is so in each case is so
  pub by_case : (P : Type 0) → (s.link.left ≡ 0 → P) → (0 < s.link.left → lacking ≡ true → P) → (0 < s.link.left → lacking ≡ false → P) → P
  by_case P none on there = elim (dec_le s.link.left 0) [ yes h ↦ none (omega arith) | no h ↦ go lacking refl (omega arith) ]
    where
      go : (l : Bool) → lacking ≡ l → 0 < s.link.left → P
      go true e some = on some e
      go false e some = there some e

  -- and so of the state after it
  pub by_after : (P : State → Type 0) → P s → (lacking ≡ true → P (placed s b)) → (0 < s.link.left → P (turned (placed s b))) → P (after s b)
  by_after P same on there =
      by_case (P (after s b)) (λ none. rw (uncounted none).1 same) (λ some u. rw (goes_on some u).1 (on u)) (λ some u. rw (is_there some u).1 (there some))
