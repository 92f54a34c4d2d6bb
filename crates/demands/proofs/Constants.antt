-- The constants of RULES 3.11, as the decimals that are written there: each float is the nearest to its own.
use mathlib.Core.Path.{◌≡◌, refl}
use mathlib.Core.Bool.{false}
use Prim.Native.Nat.{ℕ, ◌^◌}
use lib.Ieee.{Float, binary64, round, of_bits}
use Rattle.rows.specs.Constants.{eps_zero, eps_normalize, eps_rounding, ccw_errbound_a, half, repair_tol_scale}
use Rattle.rows.specs.Constants.{lp_bound, lp_box_growth, lp_box_growth_steps, max_deferred_rounds, most_rows}

-- the float nearest to p / q
abbrev float : ℕ → ℕ → Float
float p q = round binary64 false p q

abbrev pub Constants : Type 0
Constants =
    (eps_zero ≡ float 1 (10 ^ 9))  -- 1e-9
    × (eps_normalize ≡ float 1 (10 ^ 3))  -- 1e-3
    × (eps_rounding ≡ float 1 (10 ^ 13))  -- 1e-13
    × (ccw_errbound_a ≡ float 333066907387547 (10 ^ 30))  -- 3.33066907387547e-16
    × (lp_bound ≡ float (10 ^ 6) 1)  -- 1e6
    × (lp_box_growth ≡ float (10 ^ 3) 1)  -- 1e3
    × (lp_box_growth_steps ≡ 6)
    × (half ≡ float 1 2)  -- 0.5
    × (max_deferred_rounds ≡ 4)
    × (repair_tol_scale ≡ float 1 4)  -- 0.25
    × (most_rows ≡ 4096)

pub constants_hold : Constants
unfolding eps_zero eps_normalize eps_rounding ccw_errbound_a lp_bound lp_box_growth half repair_tol_scale round of_bits
constants_hold = (refl, refl, refl, refl, refl, refl, refl, refl, refl, refl, refl)
