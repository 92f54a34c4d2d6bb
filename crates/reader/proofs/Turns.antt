-- A turn: the bytes of a portion that count take their places up to the record's end. Where the record is then all there, it ends with the last of them;
-- where it is not, all of them were placed, and those behind change nothing.
use mathlib.Core.Path.{◌≡◌, refl, sym, ap, ◌∙◌}
use mathlib.Core.Bool.{Bool, true, false, true≢false}
use mathlib.Core.List.{List, [], ◌∷◌, append-nil}
use Prim.Native.Nat.{ℕ, zero, suc, ◌+◌, ◌-◌, ◌≤◌, ◌<◌}
use native.Mathlib.Numerals.{one-add}
use native.Mathlib.Omega.{arith}
use lib.ListN.{length, take}
use lib.Seq.{take-nil}
use Rattle.float.specs.Operators.{when◌then◌else◌}
use Rattle.reader.specs.Reader.{State, state, unfinished, placed, line_of, turned, ends, after, text, after_all, texts, up_to_end}
use Rattle.reader.specs.Parts.{placed_up}
use Rattle.gather.proofs.Choice.{either}
use Rattle.reader.proofs.Byte.{lacking, uncounted, goes_on, is_there, by_case}

-- bytes that take their places leave the lines counted and come no earlier
pub same_lines : (s : State) (bytes : List ℕ)
    → let t = placed_up s bytes in (t.link.live ≡ s.link.live) × (t.link.lines ≡ s.link.lines) × (s.link.passed ≤ t.link.passed)
unfolding state placed placed_up
same_lines s [] = (refl, refl, omega arith)
same_lines s (b ∷ bytes) =
    let rest = same_lines (placed s b) bytes in
    either (λ (t : State). (t.link.live ≡ s.link.live) × (t.link.lines ≡ s.link.lines) × (s.link.passed ≤ t.link.passed)) (lacking s b)
    (rest.0, rest.1, omega (arith, rest.2))
    (refl, refl, omega arith)

-- ---- a portion up to the record's end

abbrev lacks_some : State → Bool
lacks_some s = unfinished s.link.passed s.head

abbrev pub up : State → List ℕ → State
up s bytes = placed_up s (take s.link.left bytes)

pub next_byte : (left b : ℕ) (bytes : List ℕ) → 0 < left → take left (b ∷ bytes) ≡ b ∷ take (left - 1) bytes
next_byte zero b bytes some = absurd (omega arith)
next_byte (suc left) b bytes some = let one : suc left - 1 ≡ left = omega arith in rw one

module _ (s : State) (b : ℕ) (bytes : List ℕ) where
  up_none : s.link.left ≡ 0 → up s (b ∷ bytes) ≡ s
  unfolding placed_up
  up_none none = rw none

  up_on : 0 < s.link.left → lacking s b ≡ true → up s (b ∷ bytes) ≡ up (placed s b) bytes
  unfolding state placed placed_up when◌then◌else◌
  up_on some u = rw (next_byte s.link.left b bytes some, u)

  up_there : 0 < s.link.left → lacking s b ≡ false → up s (b ∷ bytes) ≡ placed s b
  unfolding placed_up when◌then◌else◌
  up_there some u = rw (next_byte s.link.left b bytes some, u)

-- all of it is taken, leaves u and prints nothing
abbrev Part : State → List ℕ → State → Type 0
Part s bytes u = (up_to_end s bytes ≡ length bytes) × (after_all s bytes ≡ u) × (texts s bytes ≡ [])

silent : (s : State) (b : ℕ) {t : State} (bytes : List ℕ) → after s b ≡ t → text s b ≡ []
    → (after_all s (b ∷ bytes) ≡ after_all t bytes) × (texts s (b ∷ bytes) ≡ texts t bytes)
unfolding after_all texts
silent s b bytes left none = (rw left, rw (none, left))

behind_it : (s : State) (b : ℕ) (bytes : List ℕ) (t u : State) → (ends s b ≡ false) × (after s b ≡ t) × (text s b ≡ []) → Part t bytes u → Part s (b ∷ bytes) u
unfolding after_all texts up_to_end when◌then◌else◌
behind_it s b bytes t u one rest = rw (one.0, one.1, one.2, one-add) (ap suc rest.0, rest.1, rest.2)

idle : (s : State) (bytes : List ℕ) → s.link.left ≡ 0 → Part s bytes s
unfolding after_all texts up_to_end
idle s [] none = (refl, refl, refl)
idle s (b ∷ bytes) none = behind_it s b bytes s s (uncounted s b none) (idle s bytes none)

-- the record is then not all there
pub part_turn : (s : State) (bytes : List ℕ) → lacks_some (up s bytes) ≡ true → Part s bytes (up s bytes)
unfolding after_all texts up_to_end placed_up
part_turn s [] part = rw (take-nil {A = ℕ} s.link.left) (refl, refl, refl)
part_turn s (b ∷ bytes) part =
    by_case s b (Part s (b ∷ bytes) (up s (b ∷ bytes)))
    (λ none. rw (up_none s b bytes none) (idle s (b ∷ bytes) none))
    (λ some u.
    let on = up_on s b bytes some u in
    rw on (behind_it s b bytes (placed s b) (up (placed s b) bytes) (goes_on s b some u) (part_turn (placed s b) bytes (rw on at part))))
    (λ some u. absurd (true≢false (sym part ∙ rw (up_there s b bytes some u) u)))

-- the record is then all there, and n bytes end it
abbrev Ends : State → List ℕ → State → ℕ → Type 0
Ends s bytes u n = (s.link.passed + n ≡ u.link.passed) × (after_all s (take n bytes) ≡ turned u) × (texts s (take n bytes) ≡ line_of u)

pub whole-turn : (s : State) (bytes : List ℕ) → lacks_some s ≡ true → lacks_some (up s bytes) ≡ false → Ends s bytes (up s bytes) (up_to_end s bytes)
unfolding state placed placed_up after_all texts up_to_end when◌then◌else◌
whole-turn s [] begun whole = absurd (true≢false (sym begun ∙ rw (take-nil {A = ℕ} s.link.left) at whole))
whole-turn s (b ∷ bytes) begun whole =
    by_case s b (Ends s (b ∷ bytes) (up s (b ∷ bytes)) (up_to_end s (b ∷ bytes)))
    (λ none. absurd (true≢false (sym begun ∙ rw (up_none s b bytes none) at whole)))
    (λ some u.
    let one = goes_on s b some u in
    let on = up_on s b bytes some u in
    let rest = whole-turn (placed s b) bytes u (rw on at whole) in
    let n = up_to_end (placed s b) bytes in
    let before = silent s b (take n bytes) one.1 one.2 in
    rw (one.0, one.1, one-add n, on) (omega (arith, rest.0), before.0 ∙ rest.1, before.1 ∙ rest.2))
    (λ some u. let last = is_there s b some u in rw (last.0, up_there s b bytes some u) (refl, last.1, rw last.2 (append-nil (line_of (placed s b)))))
