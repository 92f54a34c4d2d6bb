-- Worked examples of the definitions: one table under one statement, which is proved by computing every line. S1 to F1 are those of
-- RULES 13; M1 and M2 show two mistakes that those do not, and Z1 the order of zeros.
use Rattle.std.specs.Prelude.{Option, Some, None, Result, Ok, Err}
use mathlib.Core.Path.{◌≡◌, refl}
use mathlib.Core.Bool.{Bool, true, false}
use mathlib.Core.List.{List, [], ◌∷◌}
use Prim.Native.Nat.{ℕ, ◌^◌}
use lib.Ieee.{Float, nan, binary64, round, of_bits, neg, add, sub, mul, div, lt, le, eq, is_nan}
use Rattle.float.specs.Operators.{when◌then◌else◌}
use Rattle.float.specs.Float.{zero, one, abs, finite, negative, ◌⋖◌, min, max, clamp}
use Rattle.rounding.specs.Root.{root, root_units, whole_root}
use Rattle.rounding.specs.Fused.{fused, product}
use Rattle.readings.specs.Readings.{pure, read, ◌>>=◌, ◌>>◌}
use Rattle.rows.specs.Constants.{eps_zero, eps_normalize, eps_rounding, ccw_errbound_a, lp_bound, lp_box_growth, half, repair_tol_scale}
use Rattle.rows.specs.declared.Row.{Row}
use Rattle.rows.specs.declared.Point as XY
use Rattle.rows.specs.declared.Refusal.{Refusal}
use Rattle.rows.specs.declared.Refusal.TheVariants.{Undecided}
use Rattle.rows.specs.Rows.{zeros, rows_of, flat_of, row_at, refusal, residual, weight, no_boundary}
use Rattle.rows.specs.Rows.{normalized_by, normalized_row, normalized, determinant, singular, crossing}
use Rattle.line.specs.declared.Bounds.{Bounds}
use Rattle.active.specs.Active.{no_rows, set_first, set_second}
use Rattle.line.specs.Line.{whole_line, void, coefficient_is_zero, narrow, meeting, lp1d_core, on_y, on_x, on_line, pairs_of, lp1d}
use Rattle.step.specs.Step.{onward, ◌>>?◌, steep_end, steep_step, uncrossed, chosen, flat_end, flat_step, step}
use Rattle.scan.specs.Scan.{every, meets, not_above}
use Rattle.project.specs.Project.{works, first_that_works, bounded, cut, interval, everywhere, middle, attempts, inside, project}
use Rattle.rebuild.specs.Supports.{on_boundary, alone, factors, together, one_supports, two_support, supported_by, supports}
use Rattle.rebuild.specs.Rebuild.{ordered_by, ordered, plausible, tested, qualified, candidate, better, judge, turn, rebuild}
use Rattle.recover.specs.Recover.{seed_of, floor_of, unmoved, rebuilt, on_boundaries, recover}
use Rattle.once.specs.declared.Normalize.{Normalize}
use Rattle.once.specs.declared.Normalize.TheVariants.{Off, Source}
use Rattle.once.specs.declared.Task.{Task}
use Rattle.solve.specs.declared.Answer.{Answer}
use Rattle.solve.specs.declared.Answer.TheVariants.{Point, Level, Nothing}
use Rattle.passes.specs.Passes.{violated, frame, second_try, repair, after_trial, pivot, forward}
use Rattle.passes.specs.Passes.{excess, worst, none, deferred}
use Rattle.once.specs.Once.{prepared, widened, begun, passes, saturated, on_box, lone, many, once}
use Rattle.solve.specs.declared.Unsolved.TheVariants.{Stopped}
use Rattle.solve.specs.Solve.{Answered, solves, all_solves, last_of, count, rows_within, answer, active_rows, answered, finished, allowed, refusal_of}
use Rattle.solve.specs.Solve.{taken, solve}

infixr 10 ◌⊹◌
-- ---- how a line is written

-- a float by its bits, and a whole number. (An expected value is never written by `num`: two calls of `round` would be compared.)
abbrev f64 : ℕ → Float
f64 bits = of_bits binary64 bits

abbrev num : ℕ → Float
num n = round binary64 false n 1

abbrev -num : ℕ → Float
-num n = round binary64 true n 1

abbrev at : ℕ → ℕ → Result XY.Point Refusal
at x y = Ok (record { x = f64 x; y = f64 y })

abbrev between : Float → Float → Result Bounds Refusal
between high low = Ok (record { high = high; low = low })

abbrev row_of : Float → Float → Float → Row
row_of a b c = record { a = a; b = b; c = c }

-- tolerance, scale, start level and normalising; the start's x is 0, and no row is skipped
abbrev task : Float → Float → Float → Normalize → Task
task ε scale y normalize = record { tol = record { feasibility = ε; scale = scale }; start = record { x = zero; y = y; skip = 0 }; normalize = normalize }

-- tolerance 1e-9, scale 10, no normalising
abbrev from : Float → Task
from y = task eps_zero (num 10) y Off

pub data Example : Type 0 where
  -- task, allowance, rows: answer, active rows, count; and the rows are left as they were
  solving : Task → ℕ → List Row → Answer → Option ℕ → Option ℕ → ℕ → Example
  -- task, allowance, rows: refusal 3 with the allowance as its count; and the rows are left as they were
  stopping : Task → ℕ → List Row → Example
  normalizing : List Row → List Row → Example
  crossing_of : Row → Row → Result XY.Point Refusal → Example
  bounding : Bool → List Float → Result Bounds Refusal → Example
  rooting : Float → Float → Example
  fusing : Float → Float → Float → Float → Example

abbrev pub Holds_true : Example → Type 0
Holds_true (solving T n rows a i j k) = solve T n (flat_of rows) ≡ record { outcome = Answered a (record { first = i; second = j }) k; rows = flat_of rows }
Holds_true (stopping T n rows) = solve T n (flat_of rows) ≡ record { outcome = Err (Stopped n); rows = flat_of rows }
Holds_true (normalizing rows after) = normalized rows ≡ after
Holds_true (crossing_of r s c) = crossing r s ≡ c
Holds_true (bounding autonan pairs b) = lp1d autonan (record { feasibility = eps_zero; scale = num 10 }) pairs ≡ b
Holds_true (rooting x y) = root x ≡ y
Holds_true (fusing x y z v) = fused x y z ≡ v

abbrev pub All : List Example → Type 0
All [] = Unit {0}
All (e ∷ es) = Holds_true e × All es

-- ---- the table

abbrev rows₃ : List Row
rows₃ = row_of (num 1) (num 1) (num 2) ∷ row_of (-num 1) (num 1) (num 0) ∷ []

abbrev rows₄ : List Row
rows₄ = row_of (num 0) (num 1) (num 1) ∷ row_of (num 0) (-num 1) (-num 2) ∷ []

abbrev rows₅ : List Row
rows₅ = row_of (-num 1) (num 0) (num 0) ∷ row_of (num 1) (num 0) (num 1) ∷ []

-- its last row's trial fails in the zeros, after the first row was collected; recovery keeps the point
abbrev trial_rows : List Row
trial_rows = row_of (num 0) (num 1) (num 5) ∷ zeros ∷ row_of (num 1) (num 0) (neg half) ∷ []

-- the first row's boundary is at +0; a step of the second takes the lesser of that and the start's y
abbrev zero-rows : List Row
zero-rows = row_of (num 0) (num 1) (num 0) ∷ row_of (num 1) (num 0) (-num 1) ∷ []

abbrev pub examples : List Example
examples =
    solving (from lp_bound) 1000 [] Nothing None None 0 ∷  -- S1
    solving (from lp_bound) 1000 (row_of (num 0) (num 2) (num 6) ∷ []) (Level (f64 0x4008_0000_0000_0000)) None None 1 ∷  -- S2
    solving (from lp_bound) 1000 (row_of (num 0) (-num 2) (num 6) ∷ []) Nothing None None 1 ∷
    solving (from lp_bound) 7 rows₃ (Point one one) (Some 0) (Some 1) 7 ∷  -- S3
    stopping (from lp_bound) 6 rows₃ ∷
    solving (from lp_bound) 1000 rows₄ (Point zero (f64 0x4000_0000_0000_0000)) (Some 1) None 23 ∷  -- S4
    solving (from lp_bound) 1000 rows₅ (Point zero (f64 0x44ea_7843_79d9_9db4)) None None 28 ∷  -- S5
    solving (from (num 999999)) 1000 rows₅ (Point zero (f64 0x412e_847e_0000_0000)) None None 8 ∷
    normalizing (row_of (num 3) (num 4) (num 10) ∷ []) (row_of (f64 0x3fe3_3333_3333_3334) (f64 0x3fe9_9999_9999_999a) (f64 0x4000_0000_0000_0000)
    ∷ []) ∷  -- N1
    normalizing (row_of (num 0) (num 0) (-num 5) ∷ row_of (num (10 ^ 200)) (num 0) (num 1) ∷ []) (zeros ∷ zeros ∷ []) ∷  -- N2
    crossing_of (row_of (num 1) (num 2) (num 5)) (row_of (num 3) (num 4) (num 6)) (at 0xc010_0000_0000_0000 0x4012_0000_0000_0000) ∷  -- D1
    crossing_of (row_of (num 1) (num 2) (num 5)) (row_of (num 2) (num 4) (num 6)) (Err Undecided) ∷  -- D2
    bounding true (num 1 ∷ num 5 ∷ -num 1 ∷ -num 2 ∷ []) (between (f64 0x4014_0000_0000_0000) (f64 0x4000_0000_0000_0000)) ∷  -- L1
    bounding true (num 1 ∷ num 1 ∷ -num 1 ∷ -num 2 ∷ []) (between nan nan) ∷  -- L2
    bounding false (num 1 ∷ num 1 ∷ -num 1 ∷ -num 2 ∷ []) (between one (f64 0x4000_0000_0000_0000)) ∷
    rooting (num 2) (f64 0x3ff6_a09e_667f_3bcd) ∷  -- R1
    fusing (f64 0x3ff0_0000_0040_0000) (f64 0x3ff0_0000_0040_0000) (-num 1) (f64 0x3e20_0000_0020_0000) ∷  -- F1
    solving (task eps_zero (num 10) lp_bound Source) 1000 rows₅ (Point zero (f64 0x44ea_7843_79d9_9db4)) None None 42 ∷  -- M1: seven normalisations
    solving (task one (-num 1) zero Off) 1000 trial_rows (Point zero zero) None None 31 ∷  -- M2: a failed trial leaves no index
    solving (from (neg zero)) 1000 zero-rows (Point (f64 0xbff0_0000_0000_0000) (f64 0x8000_0000_0000_0000)) (Some 0) (Some 1) 6 ∷  -- Z1: -0 is below +0
    []

-- a line that holds, and the lines behind it
abbrev ◌⊹◌ : {A B : Type 0} → A → B → A × B
a ⊹ b = (a, b)

pub examples_hold : All examples
unfolding
    when◌then◌else◌ zero one abs finite negative ◌⋖◌ min max clamp root root_units whole_root fused product pure read ◌>>=◌ ◌>>◌ eps_zero
    eps_normalize eps_rounding
    ccw_errbound_a lp_bound lp_box_growth half repair_tol_scale zeros rows_of flat_of row_at refusal residual weight no_boundary normalized_by normalized_row
    normalized determinant singular crossing no_rows set_first set_second whole_line void coefficient_is_zero narrow meeting lp1d_core on_y on_x
    on_line pairs_of
    lp1d onward ◌>>?◌ steep_end steep_step uncrossed chosen flat_end flat_step step every meets not_above works first_that_works bounded cut interval
    everywhere middle attempts inside project on_boundary alone factors together one_supports two_support supported_by supports ordered_by ordered
    plausible tested qualified candidate better judge turn rebuild seed_of floor_of unmoved rebuilt on_boundaries recover violated frame second_try repair
    after_trial pivot forward excess worst none deferred prepared widened begun passes saturated on_box lone many once solves all_solves last_of count
    rows_within
    answer active_rows answered finished allowed refusal_of taken solve round neg add sub mul div lt le eq is_nan of_bits
examples_hold =
    refl ⊹ refl ⊹ refl ⊹ refl ⊹ refl ⊹ refl ⊹ refl ⊹ refl ⊹ refl ⊹ refl ⊹
    refl ⊹ refl ⊹ refl ⊹ refl ⊹ refl ⊹ refl ⊹ refl ⊹ refl ⊹ refl ⊹ refl ⊹ tt
