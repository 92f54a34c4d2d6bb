-- The digits of a square root, one a turn. The invariant, with k turns to go and G = 2 ^ k: s is twice the digits found so far, the trial t is
-- s + G, and the rest ix is what w * 2 ^ 56 is more than s * s, in units of 4 * G. The trial goes up by g and down by h.
use Rattle.std.proofs.Common.{◌≡◌, ℕ, suc, ◌+◌, ◌-◌, ◌*◌, ◌/◌, ◌^◌, ◌<◌, ◌≤◌, ap, ◌∙◌, inl, inr, arith}
use Rattle.rounding.specs.Near.{Turned, Ended}
use Rattle.rounding.proofs.Roots.{IsRoot, even_square}

pub record Holds (w ix t h g i k G s : ℕ) : Type 0 where
  pub power : G ≡ 2 ^ k
  pub turn : k + i ≡ 53
  pub half : h ≡ G / 2
  pub more : g ≡ 3 * G / 2
  pub at : s + G ≡ t
  pub room : t + 3 * G ≤ 2 ^ 55
  pub rest : ix < 2 * t + 2 * G
  pub sum : s * s + 4 * (G * ix) ≡ w * 2 ^ 56

pub record Inv (w ix t h g i : ℕ) : Type 0 where
  pub k : ℕ
  pub G : ℕ
  pub s : ℕ
  pub holds : Holds w ix t h g i k G s

pub first : {w ix t h g : ℕ} → w < 2 ^ 54 → (ix ≡ w * 2) × (t ≡ 2 ^ 53) → (g ≡ 3 * 2 ^ 52) × (h ≡ 2 ^ 52) → Inv w ix t h g 0
first small e f = record { k = 53; G = 2 ^ 53; s = 0; holds = omega arith }

module _ {w ix t h g i : ℕ} (v : Inv w ix t h g i) where
  -- ---- a turn: G is 2 * h
  module _ (l : i < 53) where
    halves : (h ≡ 2 ^ (v.k - 1)) × (v.G ≡ 2 * 2 ^ (v.k - 1))
    halves = let e : v.k ≡ suc (v.k - 1) = omega arith in omega (arith, ap (λ (n : ℕ). 2 ^ n) e)

    -- what is left, in units of 8 * h
    left : v.s * v.s + 8 * (h * ix) ≡ w * 2 ^ 56
    left = let twice : v.G ≡ 2 * h = omega (arith, halves) in omega (arith, ap (λ (x : ℕ). x * ix) twice)

    digit_one : (d t' x : ℕ) → d + t ≡ ix → t' ≡ t + g → x ≡ d * 2 → Inv w x t' (h / 2) (g / 2) (i + 1)
    digit_one d t' x e a b =
        let before : d + (v.s + 2 * h) ≡ ix = omega (arith, halves) in
        let here = ap (λ (y : ℕ). h * y) before in
        let next = ap (λ (y : ℕ). h * y) b in
        record { k = v.k - 1; G = h; s = v.s + 4 * h; holds = omega (arith, halves, left, here, next) }

    digit_zero : (t' x : ℕ) → ix < t → t' ≡ t - h → x ≡ ix * 2 → Inv w x t' (h / 2) (g / 2) (i + 1)
    digit_zero t' x below a b = record { k = v.k - 1; G = h; s = v.s; holds = omega (arith, halves, left, ap (λ (y : ℕ). h * y) b) }

    pub again : {x t' h' g' : ℕ} → Turned ix t g h x t' → (g' ≡ g / 2) × (h' ≡ h / 2) → Inv w x t' h' g' (i + 1)
    again {x} {t'} (inl a) e = rw (e.0, e.1) (digit_one (ix - t) t' x (omega arith) a.1 a.2)
    again {x} {t'} (inr a) e = rw (e.0, e.1) (digit_zero t' x a.0 a.1 a.2)

  -- ---- at the end G is 1, and s is even, since s * s is
  module _ (l : 53 ≤ i) where
    abbrev found : ℕ
    found = v.s / 2

    one : v.G ≡ 1
    one = let none : v.k ≡ 0 = omega arith in v.holds.power ∙ ap (λ (k : ℕ). 2 ^ k) none

    even : v.s ≡ 2 * found
    even = omega (arith, even_square v.s (omega (arith, ap (λ (x : ℕ). x * ix) one)))

    sum : found * found + ix ≡ w * 2 ^ 54
    sum = omega (arith, ap (λ (x : ℕ). x * ix) one, ap (λ (x : ℕ). x * x) even)

    pub out : {q : ℕ} → Ended ix t q → IsRoot (w * 2 ^ 54) q
    out {q} (inl z) = let e : q ≡ found + 1 = omega (arith, one, even) in rw e (omega (arith, one, even, sum))
    out {q} (inr z) = let e : q ≡ found = omega (arith, one, even) in rw e (omega (arith, one, even, sum))
