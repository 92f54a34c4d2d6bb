-- Two records that begin alike: so are their fields, and what their headers tell.
use mathlib.Core.Path.{◌≡◌, refl, sym, ap, ◌∙◌}
use mathlib.Core.List.{List, [], ◌∷◌}
use Prim.Native.Nat.{ℕ, zero, suc, ◌+◌, ◌≤◌}
use native.Mathlib.Nat.{zero-add, suc-add}
use native.Mathlib.Omega.{arith}
use lib.ListN.{take, drop}
use lib.Seq.{take-take, take-nil}
use Rattle.record.specs.Sizes.{header_bytes}
use Rattle.record.specs.Bytes.{little, field}
use Rattle.record.specs.Record.{body_length, kind, size}
use Rattle.reader.specs.Reader.{kept, keeps_rows}

-- some bytes from `at` on are the end of the first ones
part : (k at : ℕ) (bytes : List ℕ) → take k (drop at bytes) ≡ drop at (take (at + k) bytes)
part k zero bytes = rw zero-add
part k (suc at) [] = take-nil k ∙ rw (suc-add at k)
part k (suc at) (b ∷ bytes) = rw (suc-add at k) (part k at bytes)

-- ---- two lists that begin alike

module _ (n : ℕ) (a b : List ℕ) (alike : take n a ≡ take n b) where
  pub alike_less : (m : ℕ) → m ≤ n → take m a ≡ take m b
  alike_less m h = sym (take-take m n a h) ∙ ap (take m) alike ∙ take-take m n b h

  pub alike_later : (m at : ℕ) → at + m ≤ n → take m (drop at a) ≡ take m (drop at b)
  alike_later m at h = part m at a ∙ ap (drop at) (alike_less (at + m) h) ∙ sym (part m at b)

  pub same_field : (k at : ℕ) → at + k ≤ n → field k at a ≡ field k at b
  unfolding field
  same_field k at h = ap little (alike_later k at h)

  pub same_header : header_bytes ≤ n → (body_length a ≡ body_length b) × (kind a ≡ kind b)
  unfolding body_length kind header_bytes
  same_header h = (same_field 4 0 (omega arith), same_field 2 4 (omega arith))

  pub same_told : header_bytes ≤ n → (size a ≡ size b) × (kept a ≡ kept b) × (keeps_rows a ≡ keeps_rows b)
  unfolding size kept keeps_rows
  same_told h = rw ((same_header h).0, (same_header h).1) (refl, refl, refl)
