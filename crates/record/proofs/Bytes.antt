-- A field is the field of its first bytes and that of the others, above it; bytes from a place on; and floats that lie in a row, one more at the end.
--
use mathlib.Core.Path.{◌≡◌, refl, ap}
use mathlib.Core.List.{List, [], ◌∷◌, ◌++◌}
use Prim.Native.Nat.{ℕ, zero, suc, ◌+◌, ◌-◌, ◌*◌, ◌^◌, ◌<◌}
use native.Mathlib.Nat.{zero-add, suc-add, mul_assoc, pow-succ'}
use native.Mathlib.Numerals.{add-one}
use native.Mathlib.Omega.{arith}
use lib.ListN.{length, take, drop, get_or, set, length-drop}
use lib.Seq.{take-nil, take_all, drop-nil, drop-drop, take-suc-set}
use lib.Ieee.{Float}
use Rattle.record.specs.Bytes.{little, field, float, floats}

-- ---- fields

little_split : (j k : ℕ) (l : List ℕ) → little (take (j + k) l) ≡ little (take j l) + 256 ^ j * little (take k (drop j l))
unfolding little
little_split zero k l = rw (zero-add k) (omega arith)
little_split (suc j) k [] = rw (take-nil {A = ℕ} (suc j + k), take-nil {A = ℕ} k) (omega arith)
little_split (suc j) k (b ∷ l) = rw (suc-add j k, pow-succ' 256 j, mul_assoc, little_split j k l) (omega arith)

pub field_split : (j k at : ℕ) (bytes : List ℕ) → field (j + k) at bytes ≡ field j at bytes + 256 ^ j * field k (at + j) bytes
unfolding field
field_split j k at bytes = rw (← drop-drop j at bytes) (little_split j k (drop at bytes))

pub field-one : (at : ℕ) (bytes : List ℕ) → field 1 at bytes ≡ get_or bytes at 0
unfolding field little
field-one at [] = rw (drop-nil {A = ℕ} at)
field-one zero (b ∷ bytes) = omega arith
field-one (suc at) (b ∷ bytes) = field-one at bytes

-- ---- bytes from a place on

-- as `&bytes[at..]` lends them
abbrev pub behind : List ℕ → ℕ → List ℕ
behind bytes at = take (length bytes - at) (drop at bytes)

pub lent : (bytes : List ℕ) (at : ℕ) → behind bytes at ≡ drop at bytes
lent bytes at = take_all (length bytes - at) (drop at bytes) (omega (arith, length-drop at bytes))

pub field_behind : (k at : ℕ) (bytes : List ℕ) → field k 0 (behind bytes at) ≡ field k at bytes
unfolding field
field_behind k at bytes = ap (λ l. little (take k l)) (lent bytes at)

-- ---- floats

pub length-floats : (n : ℕ) (bytes : List ℕ) → length (floats n bytes) ≡ n
unfolding floats
length-floats zero bytes = refl
length-floats (suc n) bytes = ap suc (length-floats n (drop 8 bytes))

float_past : (n at : ℕ) (bytes : List ℕ) → float at (drop n bytes) ≡ float (n + at) bytes
unfolding float field
float_past n at bytes = rw drop-drop

floats-one_more : (i : ℕ) (bytes : List ℕ) → floats (i + 1) bytes ≡ floats i bytes ++ (float (8 * i) bytes ∷ [])
unfolding floats
floats-one_more zero bytes = refl
floats-one_more (suc i) bytes =
    let next : 8 * suc i ≡ 8 + 8 * i = omega arith in
    rw (suc-add i 1, floats-one_more i (drop 8 bytes), float_past 8 (8 * i) bytes, next)

-- the turn of a loop that stores them
pub floats_stored : (i : ℕ) (bytes : List ℕ) (out : List Float) → i < length out → take i out ≡ floats i bytes
    → take (i + 1) (set out i (float (8 * i) bytes)) ≡ floats (i + 1) bytes
floats_stored i bytes out inside so_far =
    rw (floats-one_more i bytes, ← so_far, add-one i) (take-suc-set out i (float (8 * i) bytes) inside)
