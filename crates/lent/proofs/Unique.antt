-- The contracts of the public entries leave no choice: whatever two results and exit states they allow of one call, the results are equal, and so are the
-- records and the floats that are lent. A contract is read as the logic has it: what it ensures of the one beside what it ensures of the other.
use mathlib.Core.Path.{◌≡◌, sym, ◌∙◌}
use mathlib.Core.List.{List}
use lib.Ieee.{Float}
use seplogic.Ra.Ura.{Ura}
use base.Logic.{SProp, ent, sep, via, id⊢, fst∗, snd∗, mono∗}
use prog.Memory.{Memory}
use prog.Routine.{Routine}
use types.Logic.{Logic}
use contract.Lifetimes.{Lfts}
use contract.Monad.{Fun, fact, fact_use, fact_i}
use denote.Triple.Clauses.{Ended as Contracted, Clauses, AtExit}
use denote.Triple.Entry.{Args, Res}
use Rattle.solve.specs.Solve.{Outcome, Ended, solve}
use Rattle.by_value.specs.ByValue.{kept}
use Rattle.lent.specs.contracts.clear as clear
use Rattle.lent.specs.contracts.set_first as set_first
use Rattle.lent.specs.contracts.set_second as set-second
use Rattle.lent.specs.contracts.solve_collecting as solve-collecting
use Rattle.lent.specs.contracts.recover_collecting as recover-collecting
use Rattle.lent.specs.contracts.solve_rows as solve-rows

-- what two assertions say of two values is that each is the same one
same : {M : Type 1} (𝓤 : Ura M) {X : Type 0} (x y z : X) (P Q : SProp 𝓤) → ent 𝓤 P (fact 𝓤 (x ≡ z)) → ent 𝓤 Q (fact 𝓤 (y ≡ z))
    → ent 𝓤 (sep 𝓤 P Q) (fact 𝓤 (x ≡ y))
same 𝓤 x y z P Q p q =
    fact_use 𝓤 (x ≡ z) (via 𝓤 P (fst∗ 𝓤 P Q) p) (λ h. fact_use 𝓤 (y ≡ z) (via 𝓤 Q (snd∗ 𝓤 P Q) q) (λ k. fact_i 𝓤 (x ≡ y) (sep 𝓤 P Q) (h ∙ sym k)))

-- of two clauses, the one and the other
module _ {M : Type 1} (𝓤 : Ura M) {X Y : Type 0} (x y z : X) (p q r : Y) where
  abbrev One_says : SProp 𝓤
  One_says = sep 𝓤 (fact 𝓤 (x ≡ z)) (fact 𝓤 (p ≡ r))

  abbrev Other_says : SProp 𝓤
  Other_says = sep 𝓤 (fact 𝓤 (y ≡ z)) (fact 𝓤 (q ≡ r))

  firsts : ent 𝓤 (sep 𝓤 One_says Other_says) (fact 𝓤 (x ≡ y))
  firsts = same 𝓤 x y z One_says Other_says (fst∗ 𝓤 (fact 𝓤 (x ≡ z)) (fact 𝓤 (p ≡ r))) (fst∗ 𝓤 (fact 𝓤 (y ≡ z)) (fact 𝓤 (q ≡ r)))

  seconds : ent 𝓤 (sep 𝓤 One_says Other_says) (fact 𝓤 (p ≡ q))
  seconds = same 𝓤 p q r One_says Other_says (snd∗ 𝓤 (fact 𝓤 (x ≡ z)) (fact 𝓤 (p ≡ r))) (snd∗ 𝓤 (fact 𝓤 (y ≡ z)) (fact 𝓤 (q ≡ r)))

module _ {M : Type 1} {𝓤 : Ura M} (𝓛 : Logic 𝓤) (mem : Memory → SProp 𝓤) (run : Routine → Fun 𝓤) where
  -- `c` allows of one call one `part` of the result and the parameters at exit
  abbrev pub One : (T : Contracted) → Clauses 𝓤 T → {X : Type 0} → ((κs : Lfts T.signature.lifetimes) → Res T.signature κs → AtExit T κs → X) → Type 1
  One T c part = (κs : Lfts T.signature.lifetimes) (a : Args T.signature κs) (g : (c κs a).ghost) (z z' : Res T.signature κs) (e e' : AtExit T κs)
      → ent 𝓤 (sep 𝓤 ((c κs a).ensures g z e) ((c κs a).ensures g z' e')) (fact 𝓤 (part κs z e ≡ part κs z' e'))

  pub clear_lent : One clear.ended (clear.clauses 𝓛 mem run) (λ κs z e. e.0.now)
  clear_lent κs a g z z' e e' = same 𝓤 _ _ _ _ _ (id⊢ 𝓤 _) (id⊢ 𝓤 _)

  pub set_first_lent : One set_first.ended (set_first.clauses 𝓛 mem run) (λ κs z e. e.0.now)
  set_first_lent κs a g z z' e e' = same 𝓤 _ _ _ _ _ (id⊢ 𝓤 _) (id⊢ 𝓤 _)

  pub set_second_lent : One set-second.ended (set-second.clauses 𝓛 mem run) (λ κs z e. e.0.now)
  set_second_lent κs a g z z' e e' = same 𝓤 _ _ _ _ _ (id⊢ 𝓤 _) (id⊢ 𝓤 _)

  module _ (κs : Lfts (solve-collecting.signature).lifetimes) (a : Args solve-collecting.signature κs) (z z' : Outcome)
      (e e' : AtExit solve-collecting.ended κs) where
    abbrev solved : Ended (List Float)
    solved = solve a.1.0 a.1.1.0 a.0.now

    abbrev Rest : AtExit solve-collecting.ended κs → SProp 𝓤
    Rest u = sep 𝓤 (fact 𝓤 (u.0.now ≡ solved.rows)) (fact 𝓤 (u.1.1.1.0.now ≡ kept a.1.1.1.0.now solved.outcome))

    abbrev Says : Outcome → AtExit solve-collecting.ended κs → SProp 𝓤
    Says y u = sep 𝓤 (fact 𝓤 (y ≡ solved.outcome)) (Rest u)

    answers : ent 𝓤 (sep 𝓤 (Says z e) (Says z' e')) (fact 𝓤 (z ≡ z'))
    answers = same 𝓤 z z' solved.outcome (Says z e) (Says z' e') (fst∗ 𝓤 (fact 𝓤 (z ≡ solved.outcome)) (Rest e))
        (fst∗ 𝓤 (fact 𝓤 (z' ≡ solved.outcome)) (Rest e'))

    rests : ent 𝓤 (sep 𝓤 (Says z e) (Says z' e')) (sep 𝓤 (Rest e) (Rest e'))
    rests = mono∗ 𝓤 (snd∗ 𝓤 (fact 𝓤 (z ≡ solved.outcome)) (Rest e)) (snd∗ 𝓤 (fact 𝓤 (z' ≡ solved.outcome)) (Rest e'))

  pub solve_collecting_answer : One solve-collecting.ended (solve-collecting.clauses 𝓛 mem run) (λ κs z e. z)
  solve_collecting_answer κs a g z z' e e' = answers κs a z z' e e'

  pub solve_collecting_lent : One solve-collecting.ended (solve-collecting.clauses 𝓛 mem run) (λ κs z e. e.0.now)
  solve_collecting_lent κs a g z z' e e' =
      via 𝓤 (sep 𝓤 (Rest κs a z z' e e' e) (Rest κs a z z' e e' e')) (rests κs a z z' e e')
      (firsts 𝓤 e.0.now e'.0.now _ e.1.1.1.0.now e'.1.1.1.0.now _)

  pub solve_collecting_collected : One solve-collecting.ended (solve-collecting.clauses 𝓛 mem run) (λ κs z e. e.1.1.1.0.now)
  solve_collecting_collected κs a g z z' e e' =
      via 𝓤 (sep 𝓤 (Rest κs a z z' e e' e) (Rest κs a z z' e e' e')) (rests κs a z z' e e')
      (seconds 𝓤 e.0.now e'.0.now _ e.1.1.1.0.now e'.1.1.1.0.now _)

  pub recover_collecting_answer : One recover-collecting.ended (recover-collecting.clauses 𝓛 mem run) (λ κs z e. z)
  recover_collecting_answer κs a g z z' e e' = firsts 𝓤 z z' _ e.1.1.1.1.0.now e'.1.1.1.1.0.now _

  pub recover_collecting_collected : One recover-collecting.ended (recover-collecting.clauses 𝓛 mem run) (λ κs z e. e.1.1.1.1.0.now)
  recover_collecting_collected κs a g z z' e e' = seconds 𝓤 z z' _ e.1.1.1.1.0.now e'.1.1.1.1.0.now _

  pub solve-rows-answer : One solve-rows.ended (solve-rows.clauses 𝓛 mem run) (λ κs z e. z)
  solve-rows-answer κs a g z z' e e' = firsts 𝓤 z z' _ e.0.now e'.0.now _

  pub solve-rows_lent : One solve-rows.ended (solve-rows.clauses 𝓛 mem run) (λ κs z e. e.0.now)
  solve-rows_lent κs a g z z' e e' = seconds 𝓤 z z' _ e.0.now e'.0.now _
