-- Numbers of two words, hi * 2 ^ 64 + lo: their product, shift, and rounding.
use Rattle.std.proofs.Common.{◌≡◌, ℕ, zero, suc, ◌+◌, ◌-◌, ◌*◌, ◌/◌, ◌%◌, ◌^◌, ◌<◌, ◌≤◌, Bool, true, false, cond, eqb, sym, refl, ap, inl, inr, le_trans}
use Rattle.std.proofs.Common.{add-zero, le_of_lt, mul-le-mul_right, mod-lt, mod-eq_of_lt, mul_assoc, div-lt_iff_lt-mul, mul-le-mul, mul-lt-mul_of_pos_right}
use Rattle.std.proofs.Common.{pow-suc, div-add-mod', mul-one, le-mul_of_pos_right, mul-div_cancel, arith, lit<, lit≤, pow_pos, eqb-true}
use native.Mathlib.Nat.{mul-mod_left}
use lib.Arith.{mod-mul}
use lib.Bits.{bit_and, bit_or, and_mask, or_shifted}
use lib.Count.{count_leading_zeros, leading_top}
use lib.Ieee.{binary64, round}
use lib.Ieee.Positive.{first_pos}
use borrow.Author.Tests.{eqb-false}
use Rattle.std.proofs.lemmas.Nat.{or_lt}
use Rattle.rounding.specs.Near.{Sticky}
use Rattle.rounding.proofs.Sticky.{round_sticky, sticky_times, sticky_least, sticky_below}
use Rattle.rounding.proofs.Powers.{two_powers, pow_back}
use Rattle.rounding.proofs.Shifts.{or_one, sticky_up}

-- a word shifted up by 64 - d keeps its d lowest digits
wrapped : (x d : ℕ) → d ≤ 64 → x * 2 ^ (64 - d) % 2 ^ 64 ≡ x % 2 ^ d * 2 ^ (64 - d)
wrapped x d h =
    let s = 2 ^ (64 - d) in
    let whole : 2 ^ d * s ≡ 2 ^ 64 = two_powers d (64 - d) 64 0 (omega arith) in
    rw (← whole, mod-mul (x * s) (pow_pos d) (pow_pos (64 - d)), mul-div_cancel x (pow_pos (64 - d)), mul-mod_left x s) (add-zero (x % 2 ^ d * s))

-- ---- the product, by halves of 32 bits
abbrev low : ℕ → ℕ
low n = bit_and n 0xffff_ffff

pub halves : (n : ℕ) → n < 2 ^ 64 → (n / 2 ^ 32 < 2 ^ 32) × (low n < 2 ^ 32) × (n / 2 ^ 32 * 2 ^ 32 + low n ≡ n)
halves n h = rw (and_mask n 32) (omega arith)

half_product : {a b : ℕ} → a < 2 ^ 32 → b < 2 ^ 32 → a * b ≤ 0xffff_fffe_0000_0001
half_product {a} {b} h k = mul-le-mul {n₁ = a} {m₁ = b} {n₂ = 0xffff_ffff} {m₂ = 0xffff_ffff} (omega arith) (omega arith)

module _ (u1 u0 v1 v0 : ℕ) where
  abbrev t : ℕ
  t = u1 * v0 + u0 * v0 / 2 ^ 32

  abbrev w : ℕ
  w = low t + u0 * v1

  abbrev hi : ℕ
  hi = u1 * v1 + t / 2 ^ 32 + w / 2 ^ 32

  -- no column of the sum is too large for a word
  pub record Columns : Type 0 where
    pub p00 : u0 * v0 < 2 ^ 64
    pub p10 : u1 * v0 < 2 ^ 64
    pub middle : t < 2 ^ 64
    pub p01 : u0 * v1 < 2 ^ 64
    pub second : w < 2 ^ 64
    pub p11 : u1 * v1 < 2 ^ 64
    pub third : u1 * v1 + t / 2 ^ 32 < 2 ^ 64
    pub upper : hi < 2 ^ 64

  columns : u1 < 2 ^ 32 → u0 < 2 ^ 32 → v1 < 2 ^ 32 → v0 < 2 ^ 32 → Columns
  columns a b c d = omega (arith, half_product b d, half_product a d, half_product b c, half_product a c, and_mask t 32)

  pub product_is : hi * 2 ^ 64 + bit_or (w * 2 ^ 32 % 2 ^ 64) (low (u0 * v0)) ≡ (u1 * 2 ^ 32 + u0) * (v1 * 2 ^ 32 + v0)
  product_is =
      let word : bit_or (w * 2 ^ 32 % 2 ^ 64) (low (u0 * v0)) ≡ w % 2 ^ 32 * 2 ^ 32 + u0 * v0 % 2 ^ 32 =
      rw (wrapped w 32 (lit≤ tt), and_mask (u0 * v0) 32) (or_shifted (w % 2 ^ 32) 32 (u0 * v0 % 2 ^ 32) (mod-lt (u0 * v0) (lit< tt))) in
      omega (arith, and_mask t 32)

-- the lower word that the program joins is a word
pub joined_fits : (x y : ℕ) → bit_or (x % 2 ^ 64) (low y) < 2 ^ 64
joined_fits x y = or_lt 64 (x % 2 ^ 64) (low y) (mod-lt x (lit< tt)) (rw (and_mask y 32) (omega arith))

abbrev pub Fits : ℕ → ℕ → Type 0
Fits u v = Columns (u / 2 ^ 32) (low u) (v / 2 ^ 32) (low v)

pub product_fits : (u v : ℕ) → u < 2 ^ 64 → v < 2 ^ 64 → Fits u v
product_fits u v h k =
    let a = halves u h in
    let b = halves v k in
    columns (u / 2 ^ 32) (low u) (v / 2 ^ 32) (low v) a.0 a.1 b.0 b.1

-- ---- the lowest bit of q set where a rest is left below it
abbrev pub jammed : ℕ → ℕ → ℕ
jammed q r = cond (eqb r 0) q (bit_or q 1)

-- a is q b and a rest r, and z is a multiple of the rest
sticky_jammed : (a b q r k z : ℕ) → q * b + r ≡ a → r < b → 0 < k → z ≡ r * k → Sticky a b (jammed q z)
sticky_jammed a b q r k z e l K m = go (eqb z 0) refl
  where
    go : (x : Bool) → eqb z 0 ≡ x → Sticky a b (cond x q (bit_or q 1))
    go true h = inl (omega (arith, eqb-true z 0 h, le-mul_of_pos_right r K))
    go false h = sticky_up a b q (omega (arith, first_pos r k (omega (arith, eqb-false z 0 h)))) (omega arith)

pub sticky_word : (hi lo : ℕ) → lo < 2 ^ 64 → Sticky (hi * 2 ^ 64 + lo) (2 ^ 64) (jammed hi lo)
sticky_word hi lo h = sticky_jammed (hi * 2 ^ 64 + lo) (2 ^ 64) hi lo 1 lo refl h (lit< tt) (sym (mul-one lo))

-- a mark in the lower word is one in the whole
jammed_up : (h l z : ℕ) → h * 2 ^ 64 + jammed l z ≡ jammed (h * 2 ^ 64 + l) z
jammed_up h l z = go (eqb z 0)
  where
    go : (x : Bool) → h * 2 ^ 64 + cond x l (bit_or l 1) ≡ cond x (h * 2 ^ 64 + l) (bit_or (h * 2 ^ 64 + l) 1)
    go true = refl
    go false = rw (or_one l, or_one (h * 2 ^ 64 + l)) (omega arith)

-- ---- one sticky number from another
pub sticky_trans : (a b i J K : ℕ) → 0 < b → Sticky a b J → Sticky J (2 ^ i) K → Sticky a (b * 2 ^ i) K
sticky_trans a b i J K B (inl e) (inl f) = inl (omega (arith, ap (λ (x : ℕ). x * b) f))
sticky_trans a b i J K B (inl e) (inr f) = inr (f.0, omega (arith, mul-lt-mul_of_pos_right f.1 B), omega (arith, mul-lt-mul_of_pos_right f.2 B))
sticky_trans a b zero J K B (inr e) (inl f) = let same : J * b ≡ K * 1 * b = ap (λ (x : ℕ). x * b) f in inr (omega arith, omega arith, omega arith)
sticky_trans a b (suc i) J K B (inr e) (inl f) = absurd (omega (arith, rw (pow-suc 2 i) at f))
sticky_trans a b i J K B (inr e) (inr f) = inr (f.0, omega (arith, mul-le-mul_right b f.1), omega (arith, mul-le-mul_right b f.2))

-- ---- a shift by d, with 0 < d < 64: the upper word's low digits go to the top of the lower word
module _ (hi lo d : ℕ) (L : lo < 2 ^ 64) (D : d < 64) where
  abbrev p : ℕ
  p = 2 ^ d

  abbrev s : ℕ
  s = 2 ^ (64 - d)

  sp : s * p ≡ 2 ^ 64
  sp = pow_back (le_of_lt D)

  low_word : bit_or (hi * s % 2 ^ 64) (lo / p) ≡ hi % p * s + lo / p
  low_word = rw (wrapped hi d (le_of_lt D)) (or_shifted (hi % p) (64 - d) (lo / p) ((div-lt_iff_lt-mul (pow_pos d)).1 (rw sp L)))

  whole : (hi / p * 2 ^ 64 + (hi % p * s + lo / p)) * p + lo % p ≡ hi * 2 ^ 64 + lo
  whole = omega (arith, div-add-mod' hi p, div-add-mod' lo p, ap (λ (x : ℕ). hi % p * x) sp)

  pub sticky_shift : Sticky (hi * 2 ^ 64 + lo) p (hi / p * 2 ^ 64 + jammed (bit_or (hi * s % 2 ^ 64) (lo / p)) (lo * s % 2 ^ 64))
  sticky_shift = rw (low_word, jammed_up (hi / p) (hi % p * s + lo / p) (lo * s % 2 ^ 64))
      (sticky_jammed (hi * 2 ^ 64 + lo) p (hi / p * 2 ^ 64 + (hi % p * s + lo / p)) (lo % p) s (lo * s % 2 ^ 64) whole (mod-lt lo (pow_pos d))
      (pow_pos (64 - d)) (wrapped lo d (le_of_lt D)))

-- ---- rounding a number of two words
-- a word's leading zeros
leading : (a : ℕ) → 0 < a → a < 2 ^ 64
    → (count_leading_zeros 64 a < 64) × (2 ^ 63 ≤ a * 2 ^ count_leading_zeros 64 a) × (a < 2 ^ (64 - count_leading_zeros 64 a))
leading a h k =
    let z = count_leading_zeros 64 a in
    let t = leading_top 64 a h k in
    let under : 64 - z ≡ suc t.0 = omega (arith, t.1) in
    (omega (arith, t.1), omega (arith, mul-le-mul_right (2 ^ z) t.2, two_powers t.0 z 63 0 (omega (arith, t.1))), rw under t.3)

-- S, with its top bit set, stands for W * 2 ^ i / 2 ^ j
rounds : (s : Bool) (W S i j x e e' : ℕ) → 2 ^ 63 ≤ S → Sticky (W * 2 ^ i) (2 ^ j) S → i + x ≡ e + 2336 → j + x ≡ 2272 + e'
    → round binary64 s (S * 2 ^ e') (2 ^ 2336) ≡ round binary64 s (W * 2 ^ e) (2 ^ 2272)
rounds s W S i j x e e' big st p q =
    sym (round_sticky binary64 s (W * 2 ^ e) (2 ^ 2272) S e' 2336 (pow_pos 2272) (le_trans (lit≤ tt) big)
    (rw (mul_assoc W (2 ^ e) (2 ^ 2336), ← two_powers i x e 2336 p, ← mul_assoc W (2 ^ i) (2 ^ x), ← two_powers j x 2272 e' q)
    (sticky_times (W * 2 ^ i) (2 ^ j) (2 ^ x) S (pow_pos x) st)))

-- as `finish` has it: the top bit of what is rounded is set, and it rounds as W, which is hi * 2 ^ 64 + lo, does
module _ (hi lo : ℕ) {W : ℕ} (is : hi * 2 ^ 64 + lo ≡ W) (U : lo < 2 ^ 64) where
  abbrev zl : ℕ
  zl = count_leading_zeros 64 lo

  abbrev zh : ℕ
  zh = count_leading_zeros 64 hi

  pub low_rounds : hi ≡ 0 → 0 < W → (zl < 64) × (2 ^ 63 ≤ lo * 2 ^ zl % 2 ^ 64)
      × ((s : Bool) (e : ℕ) → round binary64 s (lo * 2 ^ zl % 2 ^ 64 * 2 ^ (e + 64 - zl)) (2 ^ 2336) ≡ round binary64 s (W * 2 ^ e) (2 ^ 2272))
  low_rounds none some =
      let l = leading lo (omega arith) U in
      let fits : lo * 2 ^ zl % 2 ^ 64 ≡ lo * 2 ^ zl =
      mod-eq_of_lt (omega (arith, mul-lt-mul_of_pos_right l.2 (pow_pos zl), pow_back (le_of_lt l.0))) in
      let same : W ≡ lo = omega arith in
      let st : Sticky (lo * 2 ^ zl) (2 ^ 0) (lo * 2 ^ zl) = inl (sym (mul-one (lo * 2 ^ zl))) in
      rw (fits, same) (l.0, l.1, λ s e. rounds s lo (lo * 2 ^ zl) zl 0 (e + 2336 - zl) e (e + 64 - zl) l.1 st (omega arith) (omega arith))

  pub high_rounds : (hi ≡ 0 → ⊥) → hi < 2 ^ 64 → (sh sl : ℕ) {S : ℕ} → sh * 2 ^ 64 + sl ≡ S → Sticky W (2 ^ (64 - zh)) S → (2 ^ 63 ≤ sl)
      × ((s : Bool) (e : ℕ) → round binary64 s (sl * 2 ^ (e + 128 - zh)) (2 ^ 2336) ≡ round binary64 s (W * 2 ^ e) (2 ^ 2272))
  high_rounds some Uh sh sl {S} s-is st =
      let l = leading hi (omega arith) Uh in
      let least : 2 ^ 63 ≤ S =
      sticky_least W (2 ^ (64 - zh)) S (2 ^ 63) (pow_pos (64 - zh))
      (omega (arith, mul-le-mul_right (2 ^ (64 - zh)) l.1, ap (λ (x : ℕ). hi * x) (pow_back (le_of_lt l.0)))) st in
      let most : S < 2 ^ 64 = sticky_below W (2 ^ (64 - zh)) S (2 ^ 63) (omega (arith, mul-le-mul_right (2 ^ 64) l.2)) st in
      let same : S ≡ sl = omega arith in
      rw (← same) (least, λ s e. rounds s W S 0 (64 - zh) (e + 2336) e (e + 128 - zh) least (rw (mul-one W) st) (omega arith) (omega arith))
