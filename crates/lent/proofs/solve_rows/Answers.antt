-- `lent::solve_rows` meets its contract: more than 4,096 records are refused, and any others go to an array that has room for their floats.
-- Assumes nothing.
use Rattle.std.proofs.Common.{◌≡◌, ℕ, Some, None, ◌<◌, ◌≤◌, sym, ◌∙◌, arith}
use Rattle.std.proofs.lemmas.Bool.Decides.{nat_tests}
use Rattle.float.specs.Operators.{when◌then◌else◌}
use Rattle.rows.specs.declared.Refusal.{Refusal}
use Rattle.rows.specs.declared.Refusal.TheVariants.{TooMany}
use Rattle.rows.specs.Constants.{most_rows}
use Rattle.by_value.specs.ByValue.{too_many}
use Rattle.lent.proofs.Demands.{refuses}
use Rattle.lent.proofs.solve_rows.Goals as goal

-- what a refusal that is given, or not, says of the number of rows
given : (n : ℕ) (why : Refusal) → Some why ≡ too_many n → (most_rows < n) × (why ≡ TooMany)
unfolding too_many when◌then◌else◌
given n why is = grind (arith, nat_tests)

taken : (n : ℕ) → too_many n ≡ None → n ≤ most_rows
unfolding too_many when◌then◌else◌
taken n none = grind (arith, nat_tests)

pub returns-in-Some-clause-answer : goal.returns-in-Some-clause-answer
returns-in-Some-clause-answer c =
    let why = given _ _ (sym c.in-Some.is ∙ c.refusal.ensures) in
    rw (why.1, refuses c.args.task c.args.allowance c.args.rows.now why.0)

pub returns-in-Some-clause-lent : goal.returns-in-Some-clause-lent
returns-in-Some-clause-lent c =
    let why = given _ _ (sym c.in-Some.is ∙ c.refusal.ensures) in
    rw (refuses c.args.task c.args.allowance c.args.rows.now why.0)

pub solve_through-requires-2 : goal.solve_through-requires-2
solve_through-requires-2 c = omega (arith, taken _ (sym c.refusal.ensures ∙ c.in_default.is))
