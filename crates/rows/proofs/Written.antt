-- Rows written in place, one after the other, in a flat slice. Assumes nothing.
use mathlib.Core.Path.{◌≡◌, refl, ap}
use mathlib.Core.List.{List, [], ◌∷◌, map}
use Prim.Native.Nat.{ℕ, zero, suc, ◌+◌, ◌*◌, ◌<◌}
use native.Mathlib.Omega.{arith}
use lib.ListN.{length, set}
use lib.Ieee.{Float}
use Rattle.rows.specs.declared.Row.{Row}
use Rattle.rows.specs.Rows.{rows_of, flat_of, row_at}
use Rattle.rows.proofs.Flat.{next_start, next_index}

-- three stores are one row's store
pub rows-set : (s : List Float) (i : ℕ) (a b c : Float) → 3 * i + 2 < length s
    → rows_of (set (set (set s (3 * i) a) (3 * i + 1) b) (3 * i + 2) c) ≡ set (rows_of s) i (record { a = a; b = b; c = c })
unfolding rows_of
rows-set [] i a b c h = absurd (omega arith)
rows-set (u ∷ []) i a b c h = absurd (omega arith)
rows-set (u ∷ v ∷ []) i a b c h = absurd (omega arith)
rows-set (u ∷ v ∷ w ∷ s) zero a b c h = refl
rows-set (u ∷ v ∷ w ∷ s) (suc i) a b c h =
    rw (next_index i 1, next_index i 2, next_start i) (ap {B = List Row} (λ l. record { a = u; b = v; c = w } ∷ l) (rows-set s i a b c (omega arith)))

-- whole rows come back
pub flat_rows : (s : List Float) (n : ℕ) → 3 * n ≡ length s → flat_of (rows_of s) ≡ s
unfolding rows_of flat_of
flat_rows [] n e = refl
flat_rows (u ∷ []) n e = absurd (omega arith)
flat_rows (u ∷ v ∷ []) n e = absurd (omega arith)
flat_rows (u ∷ v ∷ w ∷ s) zero e = absurd (omega arith)
flat_rows (u ∷ v ∷ w ∷ s) (suc n) e = ap {B = List Float} (λ l. u ∷ v ∷ w ∷ l) (flat_rows s n (omega arith))

-- the first i rows done, the others as they were
module _ (f : Row → Row) where
  unfoldable pub done : ℕ → List Row → List Row
  done zero rs = rs
  done (suc i) [] = []
  done (suc i) (r ∷ rs) = f r ∷ done i rs

  pub done_none : (rs : List Row) → done 0 rs ≡ rs
  unfolding done
  done_none rs = refl

  pub done_next : (i : ℕ) (rs : List Row) → i < length rs → set (done i rs) i (f (row_at (done i rs) i)) ≡ done (suc i) rs
  unfolding done row_at
  done_next i [] h = absurd (omega arith)
  done_next zero (r ∷ rs) h = refl
  done_next (suc i) (r ∷ rs) h = ap {B = List Row} (λ l. f r ∷ l) (done_next i rs (omega arith))

  pub done_all : (rs : List Row) → done (length rs) rs ≡ map f rs
  unfolding done
  done_all [] = refl
  done_all (r ∷ rs) = ap {B = List Row} (λ l. f r ∷ l) (done_all rs)
