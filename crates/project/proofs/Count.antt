-- Projection takes at most six readings for each row before `upto`: a scan at the point's own x, one for the interval, and one at each of
-- four more x. Assumes nothing.
use Rattle.std.specs.Prelude.{Option, Some, None}
use mathlib.Core.Bool.{Bool, true, false, ◌&&◌}
use mathlib.Core.List.{List, [], ◌∷◌}
use Prim.Native.Nat.{ℕ, ◌*◌, ◌≤◌}
use native.Mathlib.Nat.{mul-le-mul_right}
use native.Mathlib.Omega.{arith}
use lib.ListN.{length, take, length-append}
use lib.Ieee.{Float}
use Rattle.float.specs.Operators.{when◌then◌else◌}
use Rattle.float.specs.Float.{finite}
use Rattle.readings.specs.Readings.{Counted}
use Rattle.readings.proofs.Bounds.{◌at_most◌, wider, pure_takes, read_takes, if_takes, bind_takes}
use Rattle.rows.specs.declared.Row.{Row}
use Rattle.rows.specs.declared.Point.{Point}
use Rattle.scan.proofs.Count.{every_takes}
use Rattle.project.specs.declared.Interval.{Interval}
use Rattle.project.specs.Project.{works, first_that_works, cut, interval, middle, attempts, inside, project}

cut_cases : (c : Option Interval) {m : Counted (Option Interval)} {f : Interval → Counted (Option Interval)} {x : ℕ} → m at_most x
    → ((v : Interval) → f v at_most x) → ◌at_most◌ {A = Option Interval} (elim c [ None ↦ m | Some v ↦ f v ]) x
cut_cases None h k = h
cut_cases (Some v) h k = k v

one-middle : (v : Interval) → length (middle v) ≤ 1
unfolding middle when◌then◌else◌
one-middle v = go (finite v.low && finite v.high) _
  where
    go : (b : Bool) (x : Float) → length (when b then x ∷ [] else []) ≤ 1
    go true x = omega arith
    go false x = omega arith

four_attempts : (x : Float) (v : Interval) → length (attempts x v) ≤ 4
unfolding attempts
four_attempts x v = simp length-append (omega (arith, one-middle v))

module _ (ε y : Float) where
  works_takes : (rows : List Row) (x : Float) → works ε y rows x at_most length rows
  unfolding works
  works_takes rows x = if_takes _ (every_takes _ rows) (pure_takes _)

  first_that_works_takes : (rows : List Row) (xs : List Float) → first_that_works ε y rows xs at_most length xs * length rows
  unfolding first_that_works
  first_that_works_takes rows [] = pure_takes _
  first_that_works_takes rows (x ∷ xs) = wider (bind_takes (works_takes rows x) (λ ok. if_takes ok (pure_takes _) (first_that_works_takes rows xs)))
      (omega arith)

  interval_takes : (rows : List Row) (v : Interval) → interval ε y rows v at_most length rows
  unfolding interval
  interval_takes [] v = pure_takes _
  interval_takes (r ∷ rows) v = wider (read_takes 1 (cut_cases (cut ε y r v) (pure_takes _) (interval_takes rows))) (omega arith)

  inside_takes : (rows : List Row) (x : Float) (c : Option Interval) → inside ε y rows x c at_most 4 * length rows
  unfolding inside
  inside_takes rows x None = pure_takes _
  inside_takes rows x (Some v) = wider (first_that_works_takes rows _) (mul-le-mul_right (length rows) (four_attempts x v))

pub project_takes : (R : List Row) (upto : ℕ) (p : Point) (ε : Float) → project R upto p ε at_most 6 * length (take upto R)
unfolding project
project_takes R upto p ε =
    let rows = take upto R in
    let moved = bind_takes (interval_takes ε p.y rows _) (inside_takes ε p.y rows p.x) in
    wider (bind_takes (works_takes ε p.y rows p.x) (λ ok. if_takes ok (pure_takes _) moved)) (omega arith)
