-- What RULES 4 says of normalising and of refusal 5, as facts of the definitions.
use mathlib.Core.Path.{◌≡◌, refl}
use mathlib.Core.Logic.{◌↔◌, ◌⊎◌, inl, inr}
use mathlib.Core.Bool.{Bool, true, false, not, ◌&&◌, ◌||◌, true≢false}
use Prim.Native.Nat.{ℕ}
use native.Mathlib.Omega.{arith}
use lib.Ieee.{Float, binary64, round, of_bits, add, mul, div, lt, eq}
use Rattle.std.specs.Prelude.{Ok, Err}
use Rattle.float.specs.Operators.{when◌then◌else◌, ◌⊕◌, ◌⊗◌, ◌⊘◌, ◌≼◌, ◌≻◌, ◌≈◌}
use Rattle.float.specs.Float.{zero, one, abs, finite}
use Rattle.rounding.specs.Root.{root, root_units, whole_root}
use Rattle.rows.specs.declared.Row.{Row}
use Rattle.rows.specs.declared.Point.{Point}
use Rattle.rows.specs.declared.Refusal.TheVariants as RefusalIs
use Rattle.rows.specs.Constants.{ccw_errbound_a}
use Rattle.rows.specs.Rows.{zeros, normalized_by, normalized_row, determinant, singular, crossing}

-- ---- normalising

abbrev norm : Row → Float
norm r = root (r.a ⊗ r.a ⊕ r.b ⊗ r.b)

-- a norm that is zero or not finite makes the whole row zeros
pub no_norm_no_row : (r : Row) → norm r ≻ zero && finite (norm r) ≡ false → normalized_row r ≡ zeros
unfolding normalized_row normalized_by when◌then◌else◌
no_norm_no_row r h = rw h

abbrev num : ℕ → Float
num n = round binary64 false n 1

-- normalising multiplies by the reciprocal of the norm: of (3, 4, 10) it makes 3 * 0.2, and that is not 3 / 5
pub reciprocal_shows : (normalized_row (record { a = num 3; b = num 4; c = num 10 })).a ≈ num 3 ⊘ num 5 ≡ false
unfolding normalized_row normalized_by when◌then◌else◌ zero one finite root root_units whole_root round of_bits add mul div lt eq
reciprocal_shows = refl

-- ---- refusal 5

module _ (r s : Row) where
  -- the determinant is not finite, or not above its error bound
  abbrev pub Undecided : Type 0
  Undecided = (finite (determinant r s) ≡ false) ⊎ (abs (determinant r s) ≼ ccw_errbound_a ⊗ (abs (r.a ⊗ s.b) ⊕ abs (r.b ⊗ s.a)) ≡ true)

  decided : (is_finite near : Bool) (p : Point)
      → (when not is_finite || near then Err RefusalIs.Undecided else Ok p) ≡ Err RefusalIs.Undecided → (is_finite ≡ false) ⊎ (near ≡ true)
  unfolding when◌then◌else◌
  decided false near p e = inl refl
  decided true true p e = inr refl
  decided true false p e = absurd (let z : ◌≡◌ {A = ℕ} 0 1 = cc in omega arith)

  decides : (is_finite near : Bool) → (is_finite ≡ false) ⊎ (near ≡ true) → not is_finite || near ≡ true
  decides false near h = refl
  decides true near (inl h) = absurd (true≢false h)
  decides true near (inr h) = h

  pub refuses_5 : crossing r s ≡ Err RefusalIs.Undecided ↔ Undecided
  unfolding crossing singular when◌then◌else◌
  refuses_5 = (λ e. decided _ _ _ e, λ h. rw (decides _ _ h))
