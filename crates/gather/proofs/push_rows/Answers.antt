-- `gather::push_rows` meets its contract.
use mathlib.Core.Path.{◌≡◌, refl, ◌∙◌}
use Prim.Native.Nat.{ℕ, ◌+◌, ◌-◌, ◌*◌, ◌/◌, ◌%◌, ◌≤◌, ◌<◌, min}
use native.Mathlib.Omega.{arith}
use lib.ListN.{length}
use Rattle.gather.proofs.Strides.{put_floats, in_parts}
use Rattle.gather.proofs.push_rows.Goals as goal

-- where the whole floats begin, and how many there are
fits : (before long first : ℕ) → first ≡ min ((8 - before % 8) % 8) long
    → let n = (long - first) / 8 in (first + 8 * n ≤ long) × (0 < n → 8 * ((before + first) / 8) ≡ before + first)
fits before long first is = (omega arith, omega arith)

pub returns : goal.returns
returns c =
    let a = c.args in
    let bytes = a.bytes.now in
    let first = c.min-first.result in
    let n = (length bytes - first) / 8 in
    let at = (a.before + first) / 8 in
    let fit = fits a.before (length bytes) first c.min-first.ensures in
    let begun = c.push_bytes-begun in
    let made = put_floats n at (at + n) begun.result begun.new.rows _ _ refl (omega arith) (omega arith) c.read_floats.ensures in
    let all = in_parts a.before a.word first n at a.rows.now bytes fit.0 fit.1 in
    let last = c.last_of-now.ensures at in
    record {
      word = c.push_bytes.ensures.word ∙ rw (last, begun.ensures.word) all.0;
      rows = c.push_bytes.ensures.rows ∙ rw (last, made, begun.ensures.word, begun.ensures.rows) all.1;
    }
