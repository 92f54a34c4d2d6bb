-- A caller's run over an input: it offers, one time after the other, some of the bytes that are not taken yet, and goes on behind those that are taken.
-- Assumes nothing.
use Rattle.std.specs.Prelude.{ℕ, List, [], ◌∷◌, ◌++◌, take, drop}
use Rattle.reader.specs.Reader.{State, taken, taken_in, fed, said}

-- an offer of so many bytes, or of as many as there are: to be taken up to the first record's end; or, after so much room for text, as long as there
-- is room for a line
pub data Offer : Type 0 where
  to_end : ℕ → Offer
  to_room : ℕ → ℕ → Offer

unfoldable pub offered : Offer → List ℕ → List ℕ
offered (to_end size) bytes = take size bytes
offered (to_room room size) bytes = take size bytes

unfoldable pub taken_of : Offer → State → List ℕ → ℕ
taken_of (to_end size) s bytes = taken s.link s.head s.rows bytes
taken_of (to_room room size) s bytes = taken_in room s.link s.head s.rows bytes

-- where a run has come to: the state, the bytes that are not taken yet, and all the text that was printed
pub record Run : Type 0 where
  pub now : State
  pub left : List ℕ
  pub printed : List ℕ

unfoldable pub run : State → List ℕ → List Offer → Run
run s bytes [] = record { now = s; left = bytes; printed = [] }
run s bytes (offer ∷ offers) =
    let portion = offered offer bytes in
    let n = taken_of offer s portion in
    let later = run (fed s.link s.head s.rows n portion) (drop n bytes) offers in
    record { now = later.now; left = later.left; printed = said s.link s.head s.rows n portion ++ later.printed }
