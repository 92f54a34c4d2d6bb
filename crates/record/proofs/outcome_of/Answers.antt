-- `record::outcome_of` meets its contract.
use mathlib.Core.Path.{refl, sym, ◌∙◌}
use native.Mathlib.Omega.{arith}
use lib.Seq.{length-take-le}
use Rattle.record.specs.Sizes.{field_bytes, most_floats}
use Rattle.record.specs.Record.{allowance, float_count, answered}
use Rattle.record.proofs.Refusals.{solved-length}
use Rattle.record.proofs.outcome_of.Goals as goal

pub overflow_sub-n : goal.overflow_sub-n
unfolding field_bytes
overflow_sub-n c = let none = solved-length _ _ _ (sym c.refusal_of.ensures ∙ c.in_default.is) in omega arith

pub slice_bounds-solve-end : goal.slice_bounds-solve-end
unfolding most_floats field_bytes
slice_bounds-solve-end c = let none = solved-length _ _ _ (sym c.refusal_of.ensures ∙ c.in_default.is) in omega arith

pub slice_bounds-solve-end-2 : goal.slice_bounds-solve-end-2
unfolding most_floats field_bytes
slice_bounds-solve-end-2 c =
    let none = solved-length _ _ _ (sym c.refusal_of.ensures ∙ c.in_default.is) in sym (length-take-le _ _ (omega arith))

pub returns-in-Some : goal.returns-in-Some
unfolding answered
returns-in-Some c = rw (← c.refusal_of.ensures, c.in-Some.is) (record { answer = refl; floats = refl })

pub returns : goal.returns
unfolding answered allowance float_count field_bytes
returns c =
    rw (← c.refusal_of.ensures, c.in_default.is, ← c.task_of.ensures, ← c.le64.ensures, ← c.body_length.ensures.value)
    (record { answer = c.solve.ensures.answer; floats = rw (← c.solve.ensures.lent) })
