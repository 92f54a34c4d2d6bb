-- `rebuild::ordered` meets its contract.
use Rattle.std.specs.Prelude.{ℕ, Option, Some, None, true, false, ◌≡◌}
use Rattle.std.specs.Option.{is_some}
use mathlib.Core.Path.{refl, sym, ◌∙◌}
use Rattle.active.specs.declared.Active.{Active}
use Rattle.rebuild.specs.Rebuild.{ordered_by, ordered}
use Rattle.rebuild.proofs.ordered.Goals as goal

kept : (first second : Option ℕ) → is_some first ≡ true → ◌≡◌ {A = Active} (record { first = first; second = second }) (ordered_by first second)
unfolding ordered_by
kept None second h = absurd (cc)
kept (Some i) second h = refl

moved : (first second : Option ℕ) → is_some first ≡ false → ◌≡◌ {A = Active} (record { first = second; second = None }) (ordered_by first second)
unfolding ordered_by
moved None second h = refl
moved (Some i) second h = absurd (cc)

pub returns-then-is_some : goal.returns-then-is_some
unfolding ordered
returns-then-is_some c = kept _ _ (sym c.is_some.ensures ∙ c.if-is_some.true)

pub returns : goal.returns
unfolding ordered
returns c = moved _ _ (sym c.is_some.ensures ∙ c.if-is_some.false)
