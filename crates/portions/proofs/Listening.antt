-- Every start listens, and bytes leave a reader that listens listening.
use mathlib.Core.Path.{◌≡◌, refl}
use mathlib.Core.Bool.{true}
use mathlib.Core.List.{List, [], ◌∷◌}
use Prim.Native.Nat.{ℕ, ◌+◌, ◌≤◌, ◌<◌}
use native.Mathlib.Omega.{arith}
use borrow.Author.Tests.{eq-eqb, le-ltb}
use Rattle.record.specs.Sizes.{header_bytes}
use Rattle.reader.specs.declared.Link.{Link}
use Rattle.reader.specs.Reader.{State, state, most_bytes, started, unfinished, listening, placed, turned, after, after_all}
use Rattle.reader.proofs.Byte.{lacking, by_after}
use Rattle.reader.proofs.Listening.{was_listening}

module _ (link : Link) (head : List ℕ) where
  listens : link.live ≡ 1 → link.lines + link.left ≤ most_bytes → unfinished link.passed head ≡ true → listening link head ≡ true
  unfolding listening
  listens live few lacks = rw (eq-eqb link.live 1 live, le-ltb most_bytes (link.lines + link.left) few, lacks)

-- nothing of a record is there, at the start and after each line
unfinished_start : (head : List ℕ) → unfinished 0 head ≡ true
unfolding unfinished header_bytes
unfinished_start head = refl

pub started_listens : (limit : ℕ) (head : List ℕ) → listening (started limit) head ≡ true
unfolding started
started_listens limit head = listens (started limit) head refl (omega arith) (unfinished_start head)

module _ (s : State) (b : ℕ) (e : listening s.link s.head ≡ true) where
  abbrev Listens : State → Type 0
  Listens t = listening t.link t.head ≡ true

  abbrev was : (s.link.live ≡ 1) × (s.link.lines + s.link.left ≤ most_bytes) × (unfinished s.link.passed s.head ≡ true)
  was = was_listening s.link s.head e

  listens_on : lacking s b ≡ true → Listens (placed s b)
  unfolding state placed
  listens_on u = listens (placed s b).link (placed s b).head was.0 (omega (arith, was.1)) u

  listens_next : 0 < s.link.left → Listens (turned (placed s b))
  unfolding state turned placed
  listens_next some = let t = turned (placed s b) in listens t.link t.head was.0 (omega (arith, was.1)) (unfinished_start t.head)

  stays_listening : let t = after s b in listening t.link t.head ≡ true
  stays_listening = by_after s b Listens e listens_on listens_next

pub keeps_listening : (s : State) (bytes : List ℕ) → listening s.link s.head ≡ true
    → let t = after_all s bytes in listening t.link t.head ≡ true
unfolding after_all
keeps_listening s [] e = e
keeps_listening s (b ∷ bytes) e = keeps_listening (after s b) bytes (stays_listening s b e)
