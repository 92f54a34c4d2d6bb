-- A text that was put at the start of lent bytes: it fits, and they begin with it.
use mathlib.Core.Path.{◌≡◌, refl, sym}
use mathlib.Core.List.{List}
use Prim.Native.Nat.{ℕ, ◌+◌, ◌≤◌}
use lib.ListN.{length, take, drop}
use lib.Seq.{length-take-le, take_at}
use Rattle.text.specs.Text.{written}
use Rattle.text.proofs.Written.{put_fits}

-- by what `fill` and `end` ensure of what they leave and answer
pub text_fits : (out left text : List ℕ) {n : ℕ} → n ≡ length text → left ≡ written out 0 text → n ≤ length left
text_fits out left text long is = rw (is, long) (put_fits out text)

pub text_shape : (out left text : List ℕ) {n : ℕ} → n ≡ length text → left ≡ written out 0 text → n ≡ length (take n left)
text_shape out left text {n} long is = sym (length-take-le n left (text_fits out left text long is))

pub text_first : (out left text : List ℕ) {n : ℕ} → n ≡ length text → left ≡ written out 0 text → take n left ≡ text
unfolding written
text_first out left text long is = rw (is, long) (take_at text (drop (0 + length text) out) (length text) refl)
