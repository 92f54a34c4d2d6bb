-- How many bytes of a record are held before its rows: its header at least, no more than the record has, and no more than there is room for.
use mathlib.Core.Path.{◌≡◌, refl, ap}
use mathlib.Core.Logic.{◌≢◌}
use mathlib.Core.Bool.{Bool, true, false}
use mathlib.Core.List.{List}
use Prim.Native.Nat.{ℕ, ◌≤◌}
use native.Mathlib.Omega.{arith}
use lib.Dec.{eqb}
use borrow.Author.Tests.{eqb-true, eqb-false}
use Rattle.std.specs.Prelude.{Option, Some, None, is_none}
use Rattle.float.specs.Operators.{when◌then◌else◌}
use Rattle.rows.specs.declared.Refusal.{Refusal}
use Rattle.rows.specs.declared.Refusal.TheVariants.{TooMany}
use Rattle.rows.specs.Refusals.{number}
use Rattle.rows.proofs.Refusals.{number_2}
use Rattle.record.specs.Sizes.{header_bytes, rows_at}
use Rattle.record.specs.Record.{body_length, kind, size, refusal}
use Rattle.record.proofs.Refusals.{solved-length, many-length}
use Rattle.reader.specs.Reader.{kept_of, kept, keeps_rows}

-- a number of bytes that goes by whether something is refused, and whether by too many rows
by_refusal : (P : ℕ → Type 0) (why : Option Refusal) → (why ≡ None → P rows_at) → (why ≡ Some TooMany → P rows_at)
    → (why ≢ None → why ≢ Some TooMany → P header_bytes) → P (kept_of why)
unfolding kept_of when◌then◌else◌
by_refusal P None solved many other = solved refl
by_refusal P (Some refusal) solved many other = go (eqb (number refusal) 2) refl
  where
    go : (b : Bool) → eqb (number refusal) 2 ≡ b → P (when b then rows_at else header_bytes)
    go true e = many (ap Some (number_2 refusal (eqb-true _ _ e)))
    go false e = other (λ none. absurd (cc)) (λ same. let as_many : refusal ≡ TooMany = cc in eqb-false _ _ e (ap number as_many))

module _ (head : List ℕ) where
  -- the refusal by the header alone
  abbrev pub refusal_by_header : Option Refusal
  refusal_by_header = refusal (kind head) (body_length head) 0

  pub by_kept : (P : ℕ → Type 0) → (refusal_by_header ≡ None → P rows_at) → (refusal_by_header ≡ Some TooMany → P rows_at)
      → (refusal_by_header ≢ None → refusal_by_header ≢ Some TooMany → P header_bytes) → P (kept head)
  unfolding kept
  by_kept P = by_refusal P refusal_by_header

  pub kept_between : (header_bytes ≤ kept head) × (kept head ≤ rows_at) × (kept head ≤ size head)
  unfolding size rows_at
  kept_between =
      by_kept (λ k. (header_bytes ≤ k) × (k ≤ rows_at) × (k ≤ size head)) (λ e. let solved = solved-length _ _ _ e in omega arith)
      (λ e. let many = many-length _ _ _ e in omega arith) (λ _ _. omega arith)

  pub rows-kept : keeps_rows head ≡ true → refusal_by_header ≡ None
  unfolding keeps_rows
  rows-kept e = none_refused refusal_by_header e
    where
      none_refused : (why : Option Refusal) → is_none why ≡ true → why ≡ None
      none_refused None e = refl
      none_refused (Some refusal) e = absurd (cc)

  pub no_rows-kept : refusal_by_header ≢ None → keeps_rows head ≡ false
  unfolding keeps_rows
  no_rows-kept some = some_refused refusal_by_header some
    where
      some_refused : (why : Option Refusal) → why ≢ None → is_none why ≡ false
      some_refused None some = absurd (some refl)
      some_refused (Some refusal) some = refl
