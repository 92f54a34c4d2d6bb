-- The sixteen digits of a word, one by one: the digit that is next, and what is left behind it.
use mathlib.Core.Path.{◌≡◌, refl, sym, ap, ◌∙◌}
use mathlib.Core.List.{◌∷◌}
use Prim.Native.Nat.{ℕ, zero, suc, ◌+◌, ◌*◌, ◌-◌, ◌/◌, ◌%◌, ◌^◌, ◌<◌}
use native.Mathlib.Omega.{arith}
use native.Mathlib.Numerals.{add-one}
use lib.ListN.{length, get_or, drop}
use lib.Seq.{drop-cons}
use Rattle.text.specs.Text.{glyph, hex_from, hex}

hex_from-length : (k n : ℕ) → length (hex_from k n) ≡ k
unfolding hex_from
hex_from-length zero n = refl
hex_from-length (suc k) n = ap suc (hex_from-length k (n % 2 ^ 60 * 16))

pub hex-length : (n : ℕ) → length (hex n) ≡ 16
unfolding hex
hex-length n = hex_from-length 16 n

module _ (n rest i : ℕ) (more : i < 16) (left : drop i (hex n) ≡ hex_from (16 - i) rest) where
  parted : get_or (hex n) i 0 ∷ drop (suc i) (hex n) ≡ glyph (rest / 2 ^ 60) ∷ hex_from (16 - suc i) (rest % 2 ^ 60 * 16)
  unfolding hex_from
  parted =
      let inside : i < length (hex n) = omega (arith, hex-length n) in
      let one : 16 - i ≡ suc (16 - suc i) = omega arith in
      sym (drop-cons (hex n) i 0 inside) ∙ left ∙ ap (λ (k : ℕ). hex_from k rest) one

  pub next_digit : get_or (hex n) i 0 ≡ glyph (rest / 2 ^ 60)
  next_digit = let both = parted in cc

  pub next_rest : drop (i + 1) (hex n) ≡ hex_from (16 - (i + 1)) (rest % 2 ^ 60 * 16)
  next_rest = let both = parted in rw add-one (cc)
