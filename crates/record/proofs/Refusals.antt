-- What a refusal by a record's header tells of the body's length, and that no normalise byte makes a refused record one to solve.
use mathlib.Core.Path.{◌≡◌, refl}
use mathlib.Core.Logic.{◌≢◌}
use mathlib.Core.Bool.{Bool, true, false, not, ◌||◌}
use Prim.Native.Nat.{ℕ, ◌-◌, ◌*◌, ◌/◌, ◌%◌, ◌≤◌}
use native.Mathlib.Omega.{arith}
use lib.Dec.{eqb, ltb}
use borrow.Author.Tests.{ltb-false, eqb-true, not-false}
use Rattle.std.specs.Prelude.{Option, Some, None}
use Rattle.float.specs.Operators.{when◌then◌else◌}
use Rattle.float.proofs.Order.{neither}
use Rattle.rows.specs.declared.Refusal.{Refusal}
use Rattle.rows.specs.declared.Refusal.TheVariants.{TooMany, UnknownKind, Malformed}
use Rattle.record.specs.Sizes.{field_bytes, row_bytes, record_rows, most_floats}
use Rattle.record.specs.Record.{refusal}

-- ---- a refusal by its three tests

abbrev chosen : Bool → Bool → Bool → Option Refusal
chosen a b c = when a then Some UnknownKind else when b then Some Malformed else when c then Some TooMany else None

was_none : (a b c : Bool) → chosen a b c ≡ None → (b ≡ false) × (c ≡ false)
unfolding when◌then◌else◌
was_none true b c e = absurd (cc)
was_none false true c e = absurd (cc)
was_none false false true e = absurd (cc)
was_none false false false e = (refl, refl)

was_many : (a b c : Bool) → chosen a b c ≡ Some TooMany → b ≡ false
unfolding when◌then◌else◌
was_many true b c e = absurd (cc)
was_many false true c e = absurd (cc)
was_many false false c e = refl

-- the second test is made of two, of which the other one fails
without : (a b x c : Bool) → chosen a (b || x) c ≡ None → chosen a (b || false) c ≡ None
unfolding when◌then◌else◌
without true b x c e = e
without false true x c e = e
without false false true c e = absurd (cc)
without false false false c e = e

either_way : (a b x c : Bool) → chosen a (b || false) c ≢ None → chosen a (b || false) c ≢ Some TooMany → chosen a (b || x) c ≡ chosen a (b || false) c
unfolding when◌then◌else◌
either_way true b x c some other = refl
either_way false true x c some other = refl
either_way false false x true some other = absurd (other refl)
either_way false false x false some other = absurd (some refl)

-- ---- of a record

module _ (kind length : ℕ) where
  abbrev other_kind : Bool
  other_kind = not (eqb kind 1)

  abbrev other_length : Bool
  other_length = ltb length field_bytes || not (eqb ((length - field_bytes) % row_bytes) 0)

  abbrev many : Bool
  many = ltb record_rows ((length - field_bytes) / row_bytes)

  module _ (byte : ℕ) where
    pub solved-length : refusal kind length byte ≡ None
        → (field_bytes ≤ length) × ((length - field_bytes) % row_bytes ≡ 0) × (length - field_bytes ≤ 8 * most_floats)
    unfolding refusal most_floats row_bytes
    solved-length e =
        let passed = was_none other_kind (other_length || ltb 1 byte) many e in
        let rows = neither _ _ (neither other_length _ passed.0).0 in
        let enough = ltb-false _ _ rows.0 in
        let even = eqb-true _ _ (not-false _ rows.1) in
        let few = ltb-false record_rows ((length - field_bytes) / row_bytes) passed.1 in
        (enough, even, omega arith)

    pub many-length : refusal kind length byte ≡ Some TooMany → field_bytes ≤ length
    unfolding refusal
    many-length e = ltb-false _ _ (neither _ _ (neither other_length _ (was_many other_kind (other_length || ltb 1 byte) many e)).0).0

    -- with the normalise byte 0: solved where it is with any byte, and the same refusal where it is of an unknown kind or malformed
    pub solved-without : refusal kind length byte ≡ None → refusal kind length 0 ≡ None
    unfolding refusal
    solved-without e = without other_kind other_length (ltb 1 byte) many e

    pub refused_alike : refusal kind length 0 ≢ None → refusal kind length 0 ≢ Some TooMany → refusal kind length byte ≡ refusal kind length 0
    unfolding refusal
    refused_alike some other = either_way other_kind other_length (ltb 1 byte) many some other
