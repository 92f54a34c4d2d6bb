-- `float::abs` meets its contract: what is not above zero is taken from zero, which is exact. Assumes nothing.
use mathlib.Core.Path.{◌≡◌, refl, sym, subst}
use mathlib.Core.Bool.{true, false, true≢false, false≢true}
use Prim.Native.Nat.{zero, suc, ◌*◌}
use native.Mathlib.Nat.{zero-lt-suc, zero-mul, zero-add, one-mul, mul-one, mul-pos}
use native.Mathlib.Omega.{arith}
use borrow.Author.Tests.{ltb-false}
use lib.Dec.{T}
use lib.IntN.{pos}
use lib.Ieee.{Float, nan, inf, fin, binary64, up, down, sub, lt, fits, of_bits}
use lib.Ieee.Fits.{up_pos, neg-fits}
use Rattle.float.specs.Float.{abs}
use Rattle.float.proofs.Itself.{rounds_to_itself}
use Rattle.float.proofs.abs.Goals as goal

above_zero : (x : Float) → lt (fin false 0 (pos 0)) x ≡ true → x ≡ abs x
unfolding lt abs
above_zero nan h = refl
above_zero (inf true) h = absurd (false≢true h)
above_zero (inf false) h = refl
above_zero (fin true m e) h = absurd (false≢true h)
above_zero (fin false m e) h = refl

not_above_zero : (x : Float) → T (fits binary64 x) → lt (fin false 0 (pos 0)) x ≡ false → sub binary64 (fin false 0 (pos 0)) x ≡ abs x
unfolding lt sub abs
not_above_zero nan p h = refl
not_above_zero (inf true) p h = refl
not_above_zero (inf false) p h = absurd (true≢false h)
not_above_zero (fin true m e) p h = rw (zero-mul (down e), zero-add, mul-one, one-mul) (rounds_to_itself false m e (neg-fits binary64 (fin true m e) p))
not_above_zero (fin false zero e) p h = rw (zero-mul (down e), zero-mul (up e), one-mul) (rw zero-mul at (rounds_to_itself false zero e p))
not_above_zero (fin false (suc m) e) p h = absurd (omega (arith, ltb-false (0 * down e) (suc m * up e * 1) h, mul-pos (zero-lt-suc m) (up_pos e)))

pub returns-then-x : goal.returns-then-x
unfolding of_bits
returns-then-x c = above_zero c.args.x c.if-x.true

pub returns-else-x : goal.returns-else-x
unfolding of_bits
returns-else-x c = not_above_zero c.args.x (subst T (sym c.well_formed.0.1) tt) c.if-x.false
