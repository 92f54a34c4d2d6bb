-- What the entries answer where the link listens.
use mathlib.Core.Path.{◌≡◌}
use mathlib.Core.Bool.{true}
use mathlib.Core.List.{List}
use Prim.Native.Nat.{ℕ}
use lib.Ieee.{Float}
use Rattle.float.specs.Operators.{when◌then◌else◌}
use Rattle.reader.specs.declared.Link.{Link}
use Rattle.reader.specs.Reader.{state, listening, up_to_end, up_to_room, taken, taken_in, refusal_of, last_text, closed, end_text, ended}

module _ (link : Link) (head : List ℕ) (hears : listening link head ≡ true) where
  pub not_refused : 0 ≡ refusal_of link head
  unfolding refusal_of when◌then◌else◌
  not_refused = rw hears

  pub taken_to_end : (rows : List Float) (bytes : List ℕ) → up_to_end (state link head rows) bytes ≡ taken link head rows bytes
  unfolding taken when◌then◌else◌
  taken_to_end rows bytes = rw hears

  pub taken_in_room : (room : ℕ) (rows : List Float) (bytes : List ℕ) → up_to_room room (state link head rows) bytes ≡ taken_in room link head rows bytes
  unfolding taken_in when◌then◌else◌
  taken_in_room room rows bytes = rw hears

  pub last-text : last_text link ≡ end_text link head
  unfolding end_text when◌then◌else◌
  last-text = rw hears

  pub is_closed : closed link ≡ ended link head
  unfolding ended when◌then◌else◌
  is_closed = rw hears
