-- A reader of records that come a few bytes at a time: what it holds, what one byte does to it, and what is printed. Assumes nothing.
use Rattle.std.specs.Prelude.{ℕ, ◌+◌, ◌-◌, ◌^◌, min, Bool, not, ◌||◌, ◌&&◌, List, [], ◌∷◌, ◌++◌, eqb, ltb, length, take, set, Float}
use Rattle.std.specs.Prelude.{Option, Some, None, is_none, Err}
use Rattle.float.specs.Operators.{when◌then◌else◌}
use Rattle.rows.specs.declared.Refusal.{Refusal}
use Rattle.rows.specs.declared.Refusal.TheVariants.{Cut}
use Rattle.rows.specs.Refusals.{number}
use Rattle.solve.specs.declared.Unsolved.TheVariants.{Refused}
use Rattle.text.specs.Sizes.{longest_line}
use Rattle.text.specs.Lines.{outcome_line, end_line}
use Rattle.record.specs.Sizes.{header_bytes, rows_at}
use Rattle.record.specs.Record.{body_length, kind, size, refusal, answered}
use Rattle.gather.specs.Gather.{pushed, rows_in}
use Rattle.reader.specs.declared.Link.{Link}

-- ---- what it holds: numbers by value, and in lent memory the first bytes of the record in hand and the floats of its rows

pub record State : Type 0 where
  pub link : Link
  pub head : List ℕ
  pub rows : List Float

unfoldable pub state : Link → List ℕ → List Float → State
state link head rows = record { link = link; head = head; rows = rows }

-- so many bytes count at most
unfoldable pub most_bytes : ℕ
most_bytes = 2 ^ 63

unfoldable pub started : ℕ → Link
started limit = record { live = 1; lines = 0; left = min limit most_bytes; passed = 0; word = 0 }

-- the record in hand is not all there
unfoldable pub unfinished : ℕ → List ℕ → Bool
unfinished passed head = ltb passed header_bytes || ltb passed (size head)

-- the end is not told, and the numbers are such as a start and bytes can leave; else a portion, or an end, is refused by 12
unfoldable pub listening : Link → List ℕ → Bool
listening link head = eqb link.live 1 && not (ltb most_bytes (link.lines + link.left)) && unfinished link.passed head

-- ---- how much of a record is held, once its header is there

-- what stands before the rows of one to be solved, or of one with too many; of any other the header alone
unfoldable pub kept_of : Option Refusal → ℕ
kept_of None = rows_at
kept_of (Some refusal) = when eqb (number refusal) 2 then rows_at else header_bytes

unfoldable pub kept : List ℕ → ℕ
kept head = kept_of (refusal (kind head) (body_length head) 0)

-- and the rows of one to be solved
unfoldable pub keeps_rows : List ℕ → Bool
keeps_rows head = is_none (refusal (kind head) (body_length head) 0)

-- ---- a byte takes its place

-- it is one of rows that are held
unfoldable pub in_rows : State → Bool
in_rows s = keeps_rows s.head && not (ltb s.link.passed rows_at)

unfoldable pub head_with : State → ℕ → List ℕ
head_with s b = when ltb s.link.passed (kept s.head) then set s.head s.link.passed b else s.head

unfoldable pub word_with : State → ℕ → ℕ
word_with s b = when in_rows s then pushed (s.link.passed - rows_at) s.link.word b else s.link.word

unfoldable pub rows_with : State → ℕ → List Float
rows_with s b = when in_rows s then rows_in (s.link.passed - rows_at) s.link.word b s.rows else s.rows

unfoldable pub placed : State → ℕ → State
placed s b =
    let link : Link = record {
      live = s.link.live;
      lines = s.link.lines;
      left = s.link.left - 1;
      passed = s.link.passed + 1;
      word = word_with s b;
    } in state link (head_with s b) (rows_with s b)

-- ---- a record that is all there is answered, and the next one begins; a solve leaves its rows in the floats

unfoldable pub line_of : State → List ℕ
line_of s = outcome_line (s.link.lines + 1) (answered s.head s.rows).outcome

unfoldable pub turned : State → State
turned s =
    let link : Link = record { live = s.link.live; lines = s.link.lines + 1; left = s.link.left; passed = 0; word = s.link.word } in
    state link s.head (answered s.head s.rows).rows

-- ---- one byte

-- it counts, and a record is all there with it
unfoldable pub ends : State → ℕ → Bool
ends s b = let t = placed s b in not (eqb s.link.left 0) && not (unfinished t.link.passed t.head)

-- one that does not count changes nothing
unfoldable pub after : State → ℕ → State
after s b =
    let t = placed s b in
    when ends s b then turned t else when eqb s.link.left 0 then s else t

unfoldable pub text : State → ℕ → List ℕ
text s b = when ends s b then line_of (placed s b) else []

-- ---- bytes, one after the other

unfoldable pub after_all : State → List ℕ → State
after_all s [] = s
after_all s (b ∷ bytes) = after_all (after s b) bytes

unfoldable pub texts : State → List ℕ → List ℕ
texts s [] = []
texts s (b ∷ bytes) = text s b ++ texts (after s b) bytes

-- ---- how many bytes of a portion are taken

-- up to the first record's end, or all
unfoldable pub up_to_end : State → List ℕ → ℕ
up_to_end s [] = 0
up_to_end s (b ∷ bytes) = let more = up_to_end (after s b) bytes in when ends s b then 1 else 1 + more

-- as long as there is room for a line
unfoldable pub up_to_room : ℕ → State → List ℕ → ℕ
up_to_room room s [] = 0
up_to_room room s (b ∷ bytes) = let more = up_to_room (room - length (text s b)) (after s b) bytes in when ltb room longest_line then 0 else 1 + more

-- none where the reader does not listen, so that nothing changes and nothing is printed
unfoldable pub taken : Link → List ℕ → List Float → List ℕ → ℕ
taken link head rows bytes = when listening link head then up_to_end (state link head rows) bytes else 0

unfoldable pub taken_in : ℕ → Link → List ℕ → List Float → List ℕ → ℕ
taken_in room link head rows bytes = when listening link head then up_to_room room (state link head rows) bytes else 0

unfoldable pub refusal_of : Link → List ℕ → ℕ
refusal_of link head = when listening link head then 0 else 12

-- ---- what the first n bytes of a portion leave, and what they print

unfoldable pub fed : Link → List ℕ → List Float → ℕ → List ℕ → State
fed link head rows n bytes = after_all (state link head rows) (take n bytes)

unfoldable pub said : Link → List ℕ → List Float → ℕ → List ℕ → List ℕ
said link head rows n bytes = texts (state link head rows) (take n bytes)

-- ---- the end is told: refusal 8 where a record is cut

unfoldable pub last_text : Link → List ℕ
last_text link =
    let cut = outcome_line (link.lines + 1) (Err (Refused Cut)) ++ end_line (link.lines + 1) in
    when eqb link.passed 0 then end_line link.lines else cut

unfoldable pub closed : Link → Link
closed link = record { live = 0; lines = link.lines; left = link.left; passed = link.passed; word = link.word }

unfoldable pub end_text : Link → List ℕ → List ℕ
end_text link head = when listening link head then last_text link else []

unfoldable pub ended : Link → List ℕ → Link
ended link head = when listening link head then closed link else link
