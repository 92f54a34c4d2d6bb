-- The source's constants, by their bits, under its own names. Assumes nothing.
use Rattle.std.specs.Prelude.{ℕ, Float}
use Rattle.std.specs.Float.{binary64}
use Rattle.std.specs.Float.Ieee.{of_bits}

-- 1e-9
unfoldable pub eps_zero : Float
eps_zero = of_bits binary64 0x3e11_2e0b_e826_d695

-- 1e-3, the floor of lp_1d's coefficient test
unfoldable pub eps_normalize : Float
eps_normalize = of_bits binary64 0x3f50_624d_d2f1_a9fc

-- 1e-13
unfoldable pub eps_rounding : Float
eps_rounding = of_bits binary64 0x3d3c_25c2_6849_7682

-- 3.33066907387547e-16, the error bound of a determinant, and of a coefficient that is a difference of two products
unfoldable pub ccw_errbound_a : Float
ccw_errbound_a = of_bits binary64 0x3cb8_0000_0000_0001

-- 1e6: half the width of the first box, and the start level that means "beyond the set"
unfoldable pub lp_bound : Float
lp_bound = of_bits binary64 0x412e_8480_0000_0000

-- 1e3, by which the box grows, at most 6 times
unfoldable pub lp_box_growth : Float
lp_box_growth = of_bits binary64 0x408f_4000_0000_0000

abbrev pub lp_box_growth_steps : ℕ
lp_box_growth_steps = 6

-- 0.5: from this part of the box on an answer counts as sitting on it. It is also what a middle is taken with
unfoldable pub half : Float
half = of_bits binary64 0x3fe0_0000_0000_0000

abbrev pub max_deferred_rounds : ℕ
max_deferred_rounds = 4

-- 0.25, the part of the tolerance that recovery aims at first
unfoldable pub repair_tol_scale : Float
repair_tol_scale = of_bits binary64 0x3fd0_0000_0000_0000

-- the most rows, or pairs, that an entry takes
abbrev pub most_rows : ℕ
most_rows = 4096
