-- The exact product of two floats and its sum with a third, by the values of the three.
use Rattle.std.proofs.Common.{◌≡◌, ℕ, suc, ◌+◌, ◌-◌, ◌*◌, ◌/◌, ◌%◌, ◌^◌, ◌<◌, ◌≤◌, Bool, true, false, cond, not, T, ltb, ℤ, pos, negsuc, ◌+ℤ◌, sym, ap, ◌∙◌}
use Rattle.std.proofs.Common.{ap₂, lt_of_le_of_lt, add-zero, le_of_lt, mul-le-mul, mul-le-mul_left, mul-lt-mul_of_pos_right, mul-pos, arith}
use Rattle.std.proofs.Common.{ltb→lt, nltb→le, pow_pos, pow-add}
use native.Mathlib.Nat.{eq_of_mul-eq-mul_right, mul-mul-mul_comm}
use lib.IntN.{sub_ℕ}
use lib.Ieee.{Float, nan, inf, fin, binary64, up, down, unlike, sum, add}
use lib.Ieee.Fits.{down_pos}
use lib.Ieee.Exact.{HasValue}
use Rattle.rounding.specs.Near.{signed, Taken, Multiplied, Fuses}
use Rattle.rounding.specs.Fused.{product, fused}
use Rattle.rounding.proofs.Powers.{two_powers}
use Rattle.rounding.proofs.Sums.{sum_same}

-- ---- 2 ^ (e + d)
across : (a b : ℕ) → up (sub_ℕ a (suc b)) * 2 ^ suc b ≡ 2 ^ a * down (sub_ℕ a (suc b))
across a b = go (ltb a (suc b)) (ltb→lt a (suc b)) (nltb→le a (suc b))
  where
    go : (t : Bool) → (T t → a < suc b) → (T (not t) → suc b ≤ a)
        → up (cond t (negsuc (suc b - suc a)) (pos (a - suc b))) * 2 ^ suc b ≡ 2 ^ a * down (cond t (negsuc (suc b - suc a)) (pos (a - suc b)))
    go true h k = two_powers 0 (suc b) a (suc (suc b - suc a)) (omega (arith, h tt))
    go false h k = two_powers (a - suc b) (suc b) a 0 (omega (arith, k tt))

scale : (e d : ℤ) → up (e +ℤ d) * (down e * down d) ≡ up e * up d * down (e +ℤ d)
scale (pos a) (pos b) = omega (arith, pow-add 2 a b)
scale (pos a) (negsuc b) = omega (arith, across a b)
scale (negsuc a) (pos b) = omega (arith, across b a)
scale (negsuc a) (negsuc b) = omega (arith, two_powers (suc a) (suc b) 0 (suc (suc (a + b))) (omega arith))

-- ---- the values of a product, of a sum, and of both
pub product_value : (x y : Float) (s t : Bool) (a c b d : ℕ) → HasValue x s a c → HasValue y t b d → HasValue (product x y) (unlike s t) (a * b) (c * d)
unfolding product
product_value nan y s t a c b d v w = absurd v
product_value (inf u) y s t a c b d v w = absurd v
product_value (fin u m e) nan s t a c b d v w = absurd w
product_value (fin u m e) (inf r) s t a c b d v w = absurd w
product_value (fin u m e) (fin r n g) s t a c b d v w = (
  ap₂ unlike v.0 w.0,
  eq_of_mul-eq-mul_right (down e * down g) (mul-pos (down_pos e) (down_pos g)) (m * n * up (e +ℤ g) * (c * d)) (a * b * down (e +ℤ g))
      (omega (arith, ap (λ (x : ℕ). m * n * c * d * x) (scale e g), ap₂ (λ (x y : ℕ). x * y * down (e +ℤ g)) v.1 w.1)),
)

pub add-values : (X Y : Float) (s t : Bool) (a c b d : ℕ) → 0 < c → 0 < d → HasValue X s a c → HasValue Y t b d
    → add binary64 X Y ≡ sum binary64 s (a * d) t (b * c) (c * d)
unfolding add
add-values nan Y s t a c b d C D v w = absurd v
add-values (inf u) Y s t a c b d C D v w = absurd v
add-values (fin u m e) nan s t a c b d C D v w = absurd w
add-values (fin u m e) (inf r) s t a c b d C D v w = absurd w
add-values (fin u m e) (fin r n g) s t a c b d C D v w =
    rw (v.0, w.0)
    (sum_same binary64 s t (m * up e * down g) (n * up g * down e) (down e * down g) (a * d) (b * c) (c * d) (mul-pos (down_pos e) (down_pos g)) (mul-pos C D)
    (omega (arith, ap (λ (x : ℕ). x * (down g * d)) v.1)) (omega (arith, ap (λ (x : ℕ). x * (down e * c)) w.1)))

pub fused-values : (x y z : Float) (s t u : Bool) (a c b d g h : ℕ) → 0 < c → 0 < d → 0 < h → HasValue x s a c → HasValue y t b d → HasValue z u g h
    → fused x y z ≡ sum binary64 (unlike s t) (a * b * h) u (g * (c * d)) (c * d * h)
unfolding fused
fused-values x y z s t u a c b d g h C D H v w k =
    add-values (product x y) z (unlike s t) u (a * b) (c * d) g h (mul-pos C D) H (product_value x y s t a c b d v w) k

-- ---- the parts, as `fused_parts` takes them
by_1024 : (m : ℕ) → m % 1024 ≡ 0 → m ≡ m / 1024 * 1024
by_1024 m h = omega arith

pub multiplied : {b u d c v e p : ℕ} → Taken b u d → Taken c v e → p ≡ u * v → Multiplied p
multiplied {b} {u} {d} {c} {v} {e} {p} x y h = rw h (record {
  least = mul-le-mul {n₁ = 2 ^ 62} {m₁ = 2 ^ 62} x.least y.least;
  most = lt_of_le_of_lt (mul-le-mul_left u (le_of_lt y.most)) (mul-lt-mul_of_pos_right {k = 2 ^ 63} x.most (pow_pos 63));
  ends = omega (arith, ap₂ (λ (z w : ℕ). z * w) (by_1024 u x.whole) (by_1024 v y.whole));
})

-- the exact product in units of 2 ^ -2272, and the addend in the same
pub fuses : {ax xm xe ay ym ye az zm ze p : ℕ} → Taken ax xm xe → Taken ay ym ye → Taken az zm ze → p ≡ xm * ym → (na nc : Bool) (r : Float)
    → r ≡ sum binary64 na (p * 2 ^ (xe + ye)) nc ((zm * 2 ^ 64 + 0) * 2 ^ (ze + 1072)) (2 ^ 2272) → Fuses na ax ay nc az r
fuses {ax} {xm} {xe} {ay} {ym} {ye} {az} {zm} {ze} {p} tx ty tz h na nc r k sx sy like =
    let q = 2 ^ 1136 in
    let x-y : p * 2 ^ (xe + ye) ≡ xm * 2 ^ xe * (ym * 2 ^ ye) = rw (h, pow-add 2 xe ye) (mul-mul-mul_comm xm ym (2 ^ xe) (2 ^ ye)) in
    let z : (zm * 2 ^ 64 + 0) * 2 ^ (ze + 1072) ≡ zm * 2 ^ ze * q =
    rw (add-zero (zm * 2 ^ 64), pow-add 2 ze 1072) (mul-mul-mul_comm zm (2 ^ 64) (2 ^ ze) (2 ^ 1072)) in
    k ∙ rw (x-y, z, ← like) (sym (
    fused-values (signed sx ax) (signed sy ay) (signed nc az) sx sy nc (xm * 2 ^ xe) q (ym * 2 ^ ye) q (zm * 2 ^ ze) q
    (pow_pos 1136) (pow_pos 1136) (pow_pos 1136) (tx.value sx) (ty.value sy) (tz.value nc)
    ∙ over q (unlike sx sy) nc (xm * 2 ^ xe * (ym * 2 ^ ye)) (zm * 2 ^ ze) (pow_pos 1136)))
  where
    over : (q : ℕ) (s t : Bool) (a b : ℕ) → 0 < q → sum binary64 s (a * q) t (b * (q * q)) (q * q * q) ≡ sum binary64 s a t (b * q) (q * q)
    over q s t a b Q =
        let Q2 = mul-pos Q Q in
        sum_same binary64 s t (a * q) (b * (q * q)) (q * q * q) a (b * q) (q * q) (mul-pos Q2 Q) Q2 (omega arith) (omega arith)
