-- Laws of what a whole input prints: a first record that is all there prints its line, and then what the rest prints; one that is not ends it.
use mathlib.Core.Path.{◌≡◌, refl}
use mathlib.Core.Bool.{true, false, not, and-false}
use mathlib.Core.List.{List, [], ◌∷◌, ◌++◌}
use Prim.Native.Nat.{ℕ, zero, suc, ◌+◌, ◌≤◌, ◌<◌}
use native.Mathlib.Omega.{arith}
use lib.Dec.{ltb, eqb-suc-zero}
use borrow.Author.Tests.{lt-ltb, le-ltb}
use lib.ListN.{length, length-append}
use lib.Seq.{drop-append_seam}
use Rattle.float.specs.Operators.{when◌then◌else◌}
use Rattle.text.specs.Lines.{outcome_line}
use Rattle.record.specs.Sizes.{header_bytes}
use Rattle.record.specs.Record.{size, outcome}
use Rattle.portions.specs.Stream.{whole, ending, printed}
use Rattle.reader.specs.declared.Link.{Link}
use Rattle.reader.specs.Reader.{last_text}
use Rattle.reader.proofs.Places.{has_header}
use Rattle.portions.proofs.Alike.{more_told, more_outcome}

-- ---- whether the first record is all there

module _ (bytes : List ℕ) where
  is_whole : size bytes ≤ length bytes → whole bytes ≡ true
  unfolding whole
  is_whole h = rw (le-ltb (length bytes) header_bytes (omega (arith, has_header bytes)), le-ltb (length bytes) (size bytes) h)

  is_cut : length bytes < size bytes → whole bytes ≡ false
  unfolding whole
  is_cut h = rw (lt-ltb (length bytes) (size bytes) h) (and-false (not (ltb (length bytes) header_bytes)))

-- ---- what is printed, with as many turns as there are bytes, or more

abbrev pub Prints : ℕ → List ℕ → List ℕ → Type 0
Prints n bytes out = (turns : ℕ) → length bytes ≤ turns → printed turns n bytes ≡ out

pub prints_cut : (n : ℕ) (bytes : List ℕ) → length bytes < size bytes → Prints n bytes (ending n bytes)
unfolding printed when◌then◌else◌
prints_cut n bytes h zero few = refl
prints_cut n bytes h (suc turns) few = rw (is_cut bytes h)

-- a record that is all there, with bytes behind it
pub prints_first : (n : ℕ) (bytes rest out : List ℕ) → size bytes ≡ length bytes → Prints (n + 1) rest out
    → Prints n (bytes ++ rest) (outcome_line (n + 1) (outcome bytes) ++ out)
unfolding printed when◌then◌else◌ header_bytes
prints_first n bytes rest out all later zero few = absurd (omega (arith, has_header bytes, length-append bytes rest))
prints_first n bytes rest out all later (suc turns) few =
    let long = length-append bytes rest in
    let header = has_header bytes in
    let same = (more_told bytes rest (omega arith)).0 in
    let whole = is_whole (bytes ++ rest) (omega arith) in
    rw (whole, more_outcome bytes rest (omega arith), same, all, drop-append_seam bytes rest, later turns (omega arith))

-- where the input ends, the reader prints what is printed there
pub last_is_ending : (link : Link) (seen : List ℕ) → link.passed ≡ length seen → last_text link ≡ ending link.lines seen
unfolding last_text ending when◌then◌else◌
last_is_ending link [] all = rw all
last_is_ending link (b ∷ seen) all = rw (all, eqb-suc-zero (length seen))
