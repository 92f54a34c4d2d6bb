-- The x that are tried one after the other, turn by turn. Assumes nothing.
use Rattle.std.specs.Prelude.{Option, Some, None, Err}
use Rattle.std.specs.Result.{IsErrAnd}
use mathlib.Core.Path.{◌≡◌, sym, ◌∙◌}
use mathlib.Core.Bool.{Bool, true, false}
use mathlib.Core.List.{List, ◌∷◌}
use Prim.Native.Nat.{ℕ, ◌+◌, ◌≤◌, ◌<◌}
use native.Mathlib.Numerals.{add-one}
use lib.ListN.{length, get_or, drop, drop_of_length-le}
use lib.Seq.{drop-cons}
use lib.Ieee.{Float, nan}
use Rattle.float.specs.Operators.{when◌then◌else◌}
use Rattle.readings.specs.declared.Spent.{Spent}
use Rattle.readings.specs.Readings.{Paid, paid, within}
use Rattle.readings.proofs.Laws.{within-pure, then_answers, ends_with_it}
use Rattle.rows.specs.declared.Row.{Row}
use Rattle.project.specs.Project.{works, first_that_works}

-- x number k is next, `rest` readings are left, and with these the attempts give `whole`
pub record Turn (ε y : Float) (rows : List Row) (xs : List Float) (k rest : ℕ) (whole : Paid (Option Float)) : Type 0 where
  pub gives : within rest (first_that_works ε y rows (drop k xs)) ≡ whole

module _ {ε y : Float} {rows : List Row} {xs : List Float} {k rest : ℕ} {whole : Paid (Option Float)} (turn : Turn ε y rows xs k rest whole) where
  pub ends : length xs ≤ k → paid None rest ≡ whole
  unfolding first_that_works
  ends h = sym (within-pure rest None) ∙ (rw (drop_of_length-le xs h) at turn.gives)

  module _ (before : k < length xs) where
    opened : within rest (first_that_works ε y rows (get_or xs k nan ∷ drop (k + 1) xs)) ≡ whole
    opened = rw (add-one, ← drop-cons xs k nan before) turn.gives

    module _ {call : Paid Bool} (is : call ≡ within rest (works ε y rows (get_or xs k nan))) where
      pub stops : {e : Spent} {answer : Paid (Option Float)} → call ≡ Err e → IsErrAnd answer (λ y. y ≡ e) → answer ≡ whole
      unfolding first_that_works
      stops was passed = ends_with_it _ _ _ is was passed ∙ opened

      module _ {ok : Bool} {after : ℕ} (was : call ≡ paid ok after) where
        pub finds : ok ≡ true → paid (Some (get_or xs k nan)) after ≡ whole
        unfolding first_that_works when◌then◌else◌
        finds e = then_answers _ _ _ is was (rw e (sym (within-pure _ _))) ∙ opened

        pub tries_on : ok ≡ false → Turn ε y rows xs (k + 1) after whole
        unfolding first_that_works when◌then◌else◌
        tries_on e = record { gives = then_answers _ _ _ is was (rw e) ∙ opened }
