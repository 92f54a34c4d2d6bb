-- How many bytes a text has at most: what must be free where it is put. Assumes nothing.
use Rattle.std.specs.Prelude.{ℕ, ◌+◌, ◌*◌}

-- a number below 2^64
unfoldable pub longest_decimal : ℕ
longest_decimal = 20

-- a blank and a number: 21
unfoldable pub longest_number : ℕ
unfolding longest_decimal
longest_number = 1 + longest_decimal

-- a blank and a float's digits, always as many
unfoldable pub longest_float : ℕ
longest_float = 17

-- ` point` and two floats: 40
unfoldable pub longest_answer : ℕ
unfolding longest_float
longest_answer = 6 + 2 * longest_float

-- ` refused` and a number: 29
unfoldable pub longest_refusal : ℕ
unfolding longest_number
longest_refusal = 8 + longest_number

-- an answer, two rows and the count: 103
unfoldable pub longest_outcome : ℕ
unfolding longest_answer longest_number
longest_outcome = longest_answer + 3 * longest_number

-- a record's number, its outcome and the newline: 124
unfoldable pub longest_line : ℕ
unfolding longest_decimal longest_outcome
longest_line = longest_decimal + longest_outcome + 1

-- `end`, a number and the newline: 25
unfoldable pub longest_end : ℕ
unfolding longest_number
longest_end = 3 + longest_number + 1
