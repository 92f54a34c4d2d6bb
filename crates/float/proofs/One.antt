-- What it is for a contract to leave no choice. The public entries of every crate are held to it, each in its crate's `Unique`.
use mathlib.Core.Path.{◌≡◌}
use mathlib.Core.List.{List}
use Prim.Native.Nat.{ℕ}
use contract.Lifetimes.{Lfts}
use borrow.Fn.Kinds.{ParamKind, ResultKind, Dens, Out, res_t, ended_of}
use denote.Triple.Clauses.{AtExit}

-- `ensures`, of a function with the parameters ps and the result r, allows of one call one `part` of the result and the parameters at exit
abbrev pub One : (n : ℕ) (ps : List (ParamKind n)) (r : ResultKind n) → Out n ps r → {A : Type 0}
    → ((κs : Lfts n) → (res_t r κs).Denot → AtExit (ended_of n ps r) κs → A) → Type 0
One n ps r ensures part =
    (κs : Lfts n) (args : Dens κs ps) (z z' : (res_t r κs).Denot) (e e' : AtExit (ended_of n ps r) κs)
    → ensures κs args z e → ensures κs args z' e' → part κs z e ≡ part κs z' e'
