-- How long a byte's text is at most, and the last one: what must be free of the bytes that they are put into.
use mathlib.Core.List.{List}
use Prim.Native.Nat.{ℕ, ◌+◌, ◌≤◌}
use native.Mathlib.Omega.{arith}
use lib.Dec.{eqb}
use lib.ListN.{length, length-append}
use Rattle.std.specs.Prelude.{Err}
use Rattle.rows.specs.declared.Refusal.TheVariants.{Cut}
use Rattle.solve.specs.declared.Unsolved.TheVariants.{Refused}
use Rattle.text.specs.Sizes.{longest_line, longest_end}
use Rattle.gather.proofs.Choice.{either}
use Rattle.reader.specs.declared.Link.{Link}
use Rattle.reader.specs.Reader.{State, line_of, ends, text, last_text}
use Rattle.reader.proofs.Texts.{line_length, end_length}

pub text-length : (s : State) (b : ℕ) → length (text s b) ≤ longest_line
unfolding text line_of
text-length s b = either (λ (l : List ℕ). length l ≤ longest_line) (ends s b) (line_length _ _) (omega arith)

pub last-length : (link : Link) → length (last_text link) ≤ longest_line + longest_end
unfolding last_text
last-length link =
    let number = link.lines + 1 in
    either (λ (l : List ℕ). length l ≤ longest_line + longest_end) (eqb link.passed 0)
    (omega (arith, end_length link.lines))
    (simp length-append (omega (arith, line_length number (Err (Refused Cut)), end_length number)))
