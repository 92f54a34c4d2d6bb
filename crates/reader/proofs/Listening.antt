-- What a link that listens is like.
use mathlib.Core.Path.{◌≡◌, refl, sym}
use mathlib.Core.Bool.{Bool, true, false, ◌&&◌, true≢false}
use mathlib.Core.List.{List}
use Prim.Native.Nat.{ℕ, ◌+◌, ◌≤◌}
use borrow.Author.Tests.{eqb-true, ltb-false, not-true}
use Rattle.reader.specs.declared.Link.{Link}
use Rattle.reader.specs.Reader.{most_bytes, unfinished, listening}

both : (a b : Bool) → (a && b) ≡ true → (a ≡ true) × (b ≡ true)
both true b e = (refl, e)
both false b e = absurd (true≢false (sym e))

pub was_listening : (link : Link) (head : List ℕ) → listening link head ≡ true
    → (link.live ≡ 1) × (link.lines + link.left ≤ most_bytes) × (unfinished link.passed head ≡ true)
unfolding listening
was_listening link head e =
    let last = both _ _ e in
    let first = both _ _ last.0 in
    (eqb-true link.live 1 first.0, ltb-false most_bytes (link.lines + link.left) (not-true _ first.1), last.1)
