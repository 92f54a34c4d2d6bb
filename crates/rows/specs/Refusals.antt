-- The numbers of refusals, and what is answered where something may be refused.
use Rattle.std.specs.Prelude.{ℕ, Option, Some, None, Result, Ok, Err}
use Rattle.rows.specs.declared.Refusal.{Refusal}
use Rattle.rows.specs.declared.Refusal.TheVariants.{Uneven, TooMany, Undecided, NothingFound, PrefixTooLong, Cut, UnknownKind, Malformed}

-- RULES 10 lists them by these; 3 is a solve's own, and no refusal has the number 4
abbrev pub number : Refusal → ℕ
number Uneven = 1
number TooMany = 2
number Undecided = 5
number NothingFound = 6
number PrefixTooLong = 7
number Cut = 8
number UnknownKind = 9
number Malformed = 10

-- the number of a refusal, 0 where there is none
abbrev pub code : Option Refusal → ℕ
code None = 0
code (Some refusal) = number refusal

-- what comes next, where nothing is refused
abbrev pub refused_or : {A : Type 0} → Option Refusal → Result A Refusal → Result A Refusal
refused_or None next = next
refused_or (Some refusal) next = Err refusal

-- a value, where nothing is refused
abbrev pub unless : {A : Type 0} → Option Refusal → A → Result A Refusal
unless refusal x = refused_or refusal (Ok x)

-- what a call leaves of what is lent to it: where something is refused, what was there
abbrev pub left_by : {A : Type 0} → Option Refusal → A → A → A
left_by None before after = after
left_by (Some refusal) before after = before
