-- Bytes that take their places up to the record's end: those of its header, then those before its rows, then those of its rows.
use mathlib.Core.Path.{◌≡◌, refl, sym, ap, ◌∙◌}
use mathlib.Core.Logic.{◌⊎◌, inl, inr}
use mathlib.Core.List.{List, [], ◌∷◌}
use Prim.Native.Nat.{ℕ, zero, suc, ◌+◌, ◌-◌, ◌≤◌, ◌<◌, min}
use native.Mathlib.Decide.{dec_le}
use native.Mathlib.Nat.{suc_inj, add-zero}
use native.Mathlib.Omega.{arith}
use borrow.Author.Tests.{lt-ltb, le-ltb}
use lib.Dec.{ltb}
use lib.ListN.{length, take, drop, length-drop}
use lib.Seq.{sets, take-add, length-take-le}
use lib.Ieee.{Float}
use Rattle.float.specs.Operators.{when◌then◌else◌}
use Rattle.record.specs.Sizes.{header_bytes, rows_at}
use Rattle.record.specs.Record.{size}
use Rattle.reader.specs.declared.Link.{Link}
use Rattle.reader.specs.Reader.{State, state, unfinished, placed}
use Rattle.reader.specs.Parts.{word_on, rows_on, head_on, of_header, of_fields, of_rows, placed_all, placed_up}
use Rattle.reader.proofs.Placed.{onward, further, placed_all-append, header_placed, fields_placed, rows-placed, size_stays}

-- ---- the record in hand is not all there as long as fewer bytes have passed than it has

pub has_header : (head : List ℕ) → header_bytes ≤ size head
unfolding size
has_header head = omega arith

pub unfinished_is : (passed : ℕ) (head : List ℕ) → unfinished passed head ≡ ltb passed (size head)
unfolding unfinished
unfinished_is passed head =
    elim (dec_le header_bytes passed) [
      | yes there ↦ rw (le-ltb passed header_bytes there)
      | no short ↦ rw (lt-ltb passed header_bytes (omega arith), lt-ltb passed (size head) (omega (arith, has_header head)))
    ]

-- ---- up to the record's end

one_passed : (s : State) (b : ℕ) → (placed s b).link.passed ≡ s.link.passed + 1
unfolding state placed
one_passed s b = refl

-- n of these many bytes behind those that have passed: no more than the record lacks, and all that it lacks or all there are
abbrev Reaches : ℕ → ℕ → ℕ → ℕ → Type 0
Reaches passed long end n = (n ≤ long) × (passed + n ≤ end) × (passed + n < end → n ≡ long)

up_to_end_lem : (s : State) (bytes : List ℕ) (n : ℕ) → s.link.passed < size s.head
    → Reaches s.link.passed (length bytes) (size (placed_all s (take n bytes)).head) n → placed_up s bytes ≡ placed_all s (take n bytes)
unfolding placed_all placed_up when◌then◌else◌
up_to_end_lem s [] zero lack reach = refl
up_to_end_lem s [] (suc n) lack reach = refl
up_to_end_lem s (b ∷ bytes) zero lack reach = let none : 0 ≡ suc (length bytes) = reach.2 (omega arith) in absurd (omega arith)
up_to_end_lem s (b ∷ bytes) (suc n) lack reach =
    let t = placed s b in
    let passed = one_passed s b in
    elim (dec_le (size t.head) t.link.passed) [
      | yes whole ↦
          let same = size_stays t (take n bytes) (omega (arith, has_header t.head)) in
          let none : 0 ≡ n = omega (arith, same, passed, reach.1) in
          rw (unfinished_is, le-ltb t.link.passed (size t.head) whole) (ap (λ k. placed_all t (take k bytes)) none)
      | no part ↦
          let on : Reaches t.link.passed (length bytes) (size (placed_all t (take n bytes)).head) n =
          (omega (arith, reach.0), omega (arith, passed, reach.1), λ h. suc_inj (reach.2 (omega (arith, passed)))) in
          rw (unfinished_is, lt-ltb t.link.passed (size t.head) (omega arith)) (up_to_end_lem t bytes n (omega arith) on)
    ]

-- ---- how many bytes of a part there are

behind_header : (passed n m long : ℕ) → n ≡ min (header_bytes - passed) long → m ≤ long - n → 0 < m → header_bytes ≤ passed + n
behind_header passed n m long header few some = omega arith

fields_count : (passed : ℕ) (head bytes : List ℕ) (n : ℕ) → n ≡ of_fields passed head bytes → (n ≤ length bytes) × (n ≤ rows_at - passed)
unfolding of_fields
fields_count passed head bytes n all = (omega arith, omega arith)

rows-count : (passed : ℕ) (head bytes : List ℕ) (n : ℕ) → n ≡ of_rows passed head bytes
    → ((passed < rows_at) × (n ≡ 0)) ⊎ ((rows_at ≤ passed) × (n ≡ min (size head - passed) (length bytes)))
unfolding of_rows when◌then◌else◌
rows-count passed head bytes n all =
    elim (dec_le rows_at passed) [
      | yes late ↦ inr (late, rw (le-ltb passed rows_at late) at all)
      | no early ↦ inl (omega arith, rw (lt-ltb passed rows_at (omega arith)) at all)
    ]

-- ---- all parts, one behind the other

on_to_end : (passed long end m n : ℕ) → m ≤ long → passed + m ≤ end → n ≡ min (end - (passed + m)) (long - m) → Reaches passed long end (m + n)
on_to_end passed long end m n few within all = (omega arith, omega arith, λ h. omega arith)

module _ (link : Link) (head : List ℕ) (rows : List Float) (bytes : List ℕ) (lack : link.passed < size head) (n₁ n₂ : ℕ) where
  abbrev p₁ : ℕ
  p₁ = link.passed + n₁

  abbrev head₁ : List ℕ
  head₁ = sets head link.passed (take n₁ bytes)

  abbrev bytes₁ : List ℕ
  bytes₁ = drop n₁ bytes

  abbrev p₂ : ℕ
  p₂ = link.passed + (n₁ + n₂)

  abbrev head₂ : List ℕ
  head₂ = head_on p₁ head₁ (take n₂ bytes₁)

  abbrev bytes₂ : List ℕ
  bytes₂ = drop (n₁ + n₂) bytes

  module _ (header : n₁ ≡ of_header link.passed bytes) where
    begun : p₁ ≤ size head₁
    unfolding of_header
    begun =
        elim (dec_le header_bytes link.passed) [
          | yes there ↦ let none : n₁ ≡ 0 = omega arith in rw none (omega arith)
          | no part ↦ omega (arith, has_header head₁)
        ]

    module _ (fields : n₂ ≡ of_fields p₁ head₁ bytes₁) where
      fields_here : placed_all (state (onward link n₁ link.word) head₁ rows) (take n₂ bytes₁) ≡ state (onward link (n₁ + n₂) link.word) head₂ rows
      unfolding of_header
      fields_here =
          let few = fields_count p₁ head₁ bytes₁ n₂ fields in
          let long = length-take-le n₂ bytes₁ few.0 in
          let left : n₂ ≤ length bytes - n₁ = rw (length-drop n₁ bytes) at few.0 in
          let all = fields_placed (onward link n₁ link.word) head₁ rows (take n₂ bytes₁) in
          rw (← further link n₁ n₂ link.word link.word)
          (rw long at (all (λ some. behind_header link.passed n₁ n₂ (length bytes) header left (rw long at some)) (rw long few.1)))

      same_size : header_bytes ≤ p₁ → size head₂ ≡ size head₁
      unfolding state
      same_size there =
          ap (λ (s : State). size s.head) (sym fields_here) ∙ size_stays (state (onward link n₁ link.word) head₁ rows) (take n₂ bytes₁) there

      -- so far it reaches as far as it should
      there : (n₁ + n₂ ≤ length bytes) × (p₂ ≤ size head₂) × (p₂ < rows_at → p₂ < size head₂ → n₁ + n₂ ≡ length bytes)
      unfolding of_header of_fields
      there =
          let long = length-drop n₁ bytes in
          let within = begun in
          elim (dec_le header_bytes p₁) [
            | yes behind ↦ let same = same_size behind in (omega arith, omega arith, λ early h. omega arith)
            | no part ↦ (omega arith, omega (arith, has_header head₂), λ early h. omega arith)
          ]

      pub before_rows : p₂ ≤ size head₂
      before_rows = there.1

      module _ (n₃ : ℕ) (last : n₃ ≡ of_rows p₂ head₂ bytes₂) where
        abbrev n : ℕ
        n = n₁ + n₂ + n₃

        abbrev after : State
        after = state (onward link n (word_on p₂ link.word head₂ (take n₃ bytes₂))) head₂ (rows_on p₂ link.word head₂ rows (take n₃ bytes₂))

        abbrev count : ((p₂ < rows_at) × (n₃ ≡ 0)) ⊎ ((rows_at ≤ p₂) × (n₃ ≡ min (size head₂ - p₂) (length bytes₂)))
        count = rows-count p₂ head₂ bytes₂ n₃ last

        reaches : Reaches link.passed (length bytes) (size head₂) n
        reaches =
            elim count [
              | inl early ↦ rw (early.1, add-zero (n₁ + n₂)) (there.0, there.1, there.2 early.0)
              | inr late ↦
                  let now = rw (length-drop (n₁ + n₂) bytes) at late.1 in
                  on_to_end link.passed (length bytes) (size head₂) (n₁ + n₂) n₃ there.0 there.1 now
            ]

        pub no_more_than : n ≤ length bytes
        no_more_than = reaches.0

        rows_here : placed_all (state (onward link (n₁ + n₂) link.word) head₂ rows) (take n₃ bytes₂) ≡ after
        rows_here =
            let long = length-take-le n₃ bytes₂ (omega (arith, reaches.0, length-drop (n₁ + n₂) bytes)) in
            let late : 0 < length (take n₃ bytes₂) → rows_at ≤ p₂ =
            λ some. elim count [ inl early ↦ absurd (omega (arith, early.1)) | inr late ↦ late.0 ] in
            rw (← further link (n₁ + n₂) n₃ link.word (word_on p₂ link.word head₂ (take n₃ bytes₂)))
            (rw long at (rows-placed (onward link (n₁ + n₂) link.word) head₂ rows (take n₃ bytes₂) late))

        parts : placed_all (state link head rows) (take n bytes) ≡ after
        unfolding of_header
        parts =
            let long = length-take-le n₁ bytes (omega arith) in
            let header-here = rw long at (header_placed link head rows (take n₁ bytes) (omega arith)) in
            rw (take-add (n₁ + n₂) n₃ bytes, take-add n₁ n₂ bytes, placed_all-append, placed_all-append, header-here, fields_here) rows_here

        pub all_parts : placed_up (state link head rows) bytes ≡ after
        unfolding state
        all_parts = up_to_end_lem (state link head rows) bytes n lack (rw parts reaches) ∙ parts
