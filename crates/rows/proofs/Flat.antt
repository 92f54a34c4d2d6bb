-- Rows that lie flat in a slice. Assumes nothing.
use mathlib.Core.Path.{◌≡◌, refl, sym, ap, ◌∙◌}
use mathlib.Core.List.{List, [], ◌∷◌}
use Prim.Native.Nat.{ℕ, zero, suc, ◌+◌, ◌*◌, ◌≤◌, ◌<◌}
use native.Mathlib.Omega.{arith}
use native.Mathlib.Numerals.{add-one}
use lib.ListN.{drop_of_length-le, length, get_or, take, drop, length-take}
use lib.Seq.{drop-cons, get_or-take}
use lib.Ieee.{Float, nan}
use Rattle.rows.specs.declared.Row.{Row}
use Rattle.rows.specs.Rows.{zeros, rows_of, row_at}
use Rattle.rows.proofs.Lengths.{length-rows_of}

-- each index of a row is 3 above that of the row before
pub next_start : (i : ℕ) → 3 * suc i ≡ suc (suc (suc (3 * i)))
next_start i = omega arith

pub next_index : (i j : ℕ) → 3 * suc i + j ≡ suc (suc (suc (3 * i + j)))
next_index i j = omega arith

pub row_of : (s : List Float) (i : ℕ) → 3 * i + 2 < length s
    → row_at (rows_of s) i ≡ record { a = get_or s (3 * i) nan; b = get_or s (3 * i + 1) nan; c = get_or s (3 * i + 2) nan }
unfolding row_at rows_of
row_of [] i h = absurd (omega arith)
row_of (a ∷ []) i h = absurd (omega arith)
row_of (a ∷ b ∷ []) i h = absurd (omega arith)
row_of (a ∷ b ∷ c ∷ s) zero h = refl
row_of (a ∷ b ∷ c ∷ s) (suc i) h = rw (next_index i 1, next_index i 2, next_start i) (row_of s i (omega arith))

-- past the end
pub no_row : (s : List Float) (i : ℕ) → length s < 3 * i + 3 → row_at (rows_of s) i ≡ zeros
unfolding row_at rows_of
no_row [] i h = refl
no_row (a ∷ []) i h = refl
no_row (a ∷ b ∷ []) i h = refl
no_row (a ∷ b ∷ c ∷ s) zero h = absurd (omega arith)
no_row (a ∷ b ∷ c ∷ s) (suc i) h = no_row s i (omega arith)

pub enough_rows : (s : List Float) (k : ℕ) → 3 * k ≤ length s → k ≤ length (rows_of s)
enough_rows s k h = omega (arith, length-rows_of s)

-- ---- the rows from row i on

next_of : (rows : List Row) (i : ℕ) → i < length rows → drop i rows ≡ row_at rows i ∷ drop (i + 1) rows
unfolding row_at
next_of rows i h = drop-cons rows i zeros h ∙ ap (λ n. row_at rows i ∷ drop n rows) (sym (add-one i))

-- of those before `upto`
pub next_row : (s : List Float) (upto i : ℕ) → i < upto → 3 * upto ≤ length s
    → drop i (take upto (rows_of s)) ≡ row_at (rows_of s) i ∷ drop (i + 1) (take upto (rows_of s))
unfolding row_at
next_row s upto i h k =
    next_of (take upto (rows_of s)) i (omega (arith, length-take upto (rows_of s), enough_rows s upto k))
    ∙ ap (λ r. r ∷ drop (i + 1) (take upto (rows_of s))) (get_or-take upto (rows_of s) i zeros h)

pub no_more : (s : List Float) (upto i : ℕ) → upto ≤ i → drop i (take upto (rows_of s)) ≡ []
no_more s upto i h = drop_of_length-le (take upto (rows_of s)) {i = i} (omega (arith, length-take upto (rows_of s)))

-- of all n
module _ (s : List Float) (n i : ℕ) (all : 3 * n ≡ length s) where
  pub next_of_all : i < n → drop i (rows_of s) ≡ row_at (rows_of s) i ∷ drop (i + 1) (rows_of s)
  next_of_all h = next_of (rows_of s) i (omega (arith, length-rows_of s))

  pub none_left : n ≤ i → drop i (rows_of s) ≡ []
  none_left h = drop_of_length-le (rows_of s) {i = i} (omega (arith, length-rows_of s))
