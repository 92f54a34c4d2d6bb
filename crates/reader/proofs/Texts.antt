-- How long a line is at most, and that no text leaves the bytes as they were.
use mathlib.Core.Path.{◌≡◌}
use mathlib.Core.List.{List, []}
use Prim.Native.Nat.{ℕ, ◌≤◌}
use native.Mathlib.Omega.{arith}
use lib.ListN.{length, length-append}
use lib.Seq.{paste-zero}
use Rattle.solve.specs.Solve.{Outcome}
use Rattle.text.specs.Sizes.{longest_line, longest_end}
use Rattle.text.specs.Text.{written}
use Rattle.text.specs.Lines.{outcome_line, end_line}
use Rattle.text.proofs.Decimal.{decimal-length}
use Rattle.text.proofs.Lengths.{number-length, outcome-length}

pub line_length : (number : ℕ) (got : Outcome) → length (outcome_line number got) ≤ longest_line
unfolding outcome_line longest_line
line_length number got = simp length-append (omega (arith, decimal-length number, outcome-length got))

pub end_length : (n : ℕ) → length (end_line n) ≤ longest_end
unfolding end_line longest_end
end_length n = simp length-append (omega (arith, number-length n))

-- no text leaves the bytes as they were
pub nothing_written : (out : List ℕ) (at : ℕ) → out ≡ written out at []
unfolding written
nothing_written out at = paste-zero out at []
