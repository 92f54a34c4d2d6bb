-- The square root of a binary64 value, rounded once, by whole numbers alone. Assumes nothing.
use Rattle.std.specs.Prelude.{ℕ, zero, suc, ◌+◌, ◌*◌, ◌/◌, ◌^◌, true, false, cond, ◌==◌, nat_le, Float}
use Rattle.std.specs.Float.{nan, inf, fin, binary64}
use Rattle.std.specs.Float.Ieee.{up, down, round}

-- q, or q + 1 where the square of that is still at most n
abbrev pub next_root : ℕ → ℕ → ℕ
next_root n q = cond (nat_le ((q + 1) * (q + 1)) n) (q + 1) q

-- the whole part of the square root of an n below 4 ^ k, by its k binary digits: the largest q with q * q ≤ n
unfoldable pub whole_root : ℕ → ℕ → ℕ
whole_root zero n = 0
whole_root (suc k) n = next_root n (2 * whole_root k (n / 4))

-- 2 q where q * q is n, and 2 q + 1 where √n lies between q and q + 1
abbrev pub doubled : ℕ → ℕ → ℕ
doubled n q = 2 * q + cond (q * q == n) 0 1

-- √n * 2 ^ -1074, rounded. A float of that size or half way between two is a whole number of 2 ^ -1074, so every number between q and q + 1 of
-- them rounds alike, and q + 1 / 2 stands for √n.
unfoldable pub root_units : ℕ → Float
root_units n = round binary64 false (doubled n (whole_root 1586 n)) (2 ^ 1075)

-- √(m * 2 ^ e) is √(m * 2 ^ e * 4 ^ 1074) * 2 ^ -1074. The root of a zero is that zero, and that of a number below zero is NaN.
unfoldable pub root : Float → Float
root nan = nan
root (inf true) = nan
root (inf false) = inf false
root (fin s m e) = cond (m == 0) (fin s m e) (cond s nan (root_units (m * up e * 4 ^ 1074 / down e)))
