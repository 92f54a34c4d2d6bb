-- `reader::kept_of` meets its contract.
use mathlib.Core.Path.{◌≡◌, sym}
use borrow.Author.Rules.{rules}
use denote.Enum.Bare.{differs_true, differs_false}
use borrow.Author.Tests.{ne_eqb}
use Rattle.float.specs.Operators.{when◌then◌else◌}
use Rattle.rows.specs.declared.Refusal.TheVariants.{TooMany}
use Rattle.rows.specs.contracts.Refusal.{the_type}
use Rattle.rows.proofs.Refusals.{number_2}
use Rattle.record.specs.Sizes.{header_bytes, rows_at}
use Rattle.reader.specs.Reader.{kept, kept_of}
use Rattle.reader.proofs.kept_of.Goals as goal

pub returns-in-Some : goal.returns-in-Some
unfolding kept kept_of when◌then◌else◌ header_bytes
returns-in-Some c =
    let other = differs_true the_type _ _ (sym c.if-ne.ensures) in
    rw (← c.refusal_by_header.ensures, c.in-Some.is, ne_eqb _ 2 (λ e. other (number_2 _ e)))

pub returns-in_default : goal.returns-in_default
unfolding kept kept_of when◌then◌else◌ rows_at
returns-in_default c =
    let many : c.in-Some.refusal ≡ TooMany = differs_false the_type (search rules) _ _ (sym c.if-ne.ensures) in
    rw (← c.refusal_by_header.ensures, c.in-Some.is, many)

pub returns-in_default-2 : goal.returns-in_default-2
unfolding kept kept_of rows_at
returns-in_default-2 c = rw (← c.refusal_by_header.ensures, c.in_default.is)
