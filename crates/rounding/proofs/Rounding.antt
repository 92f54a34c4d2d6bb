-- sig * 2 ^ e / 2 ^ 2336, with the top bit of sig's 64 set, rounded: eleven digits are dropped, or more for a subnormal.
use Rattle.std.proofs.Common.{◌≡◌, ℕ, ◌+◌, ◌-◌, ◌*◌, ◌^◌, ◌<◌, ◌≤◌, Bool, sym, refl, ap, ◌∙◌, inl, inr, mul-pos, arith}
use Rattle.std.proofs.Common.{lit<, pow_pos, pow-add}
use lib.Ieee.{binary64, units, round}
use lib.Ieee.Nearest.{closest, closest_same}
use Rattle.rounding.specs.Near.{Sticky}
use Rattle.rounding.proofs.Powers.{one_shift, three_shifts, shift_under, shift_over}
use Rattle.rounding.proofs.Sticky.{Window, round_at, closest_sticky}

module _ (s : Bool) (sig e : ℕ) (lo : 2 ^ 63 ≤ sig) (hi : sig < 2 ^ 64) where
  -- in units of 2 ^ -1074 the number is n / 2 ^ 2336
  abbrev n : ℕ
  n = sig * 2 ^ e * 2 ^ 1074

  n_under : (l : ℕ) → 64 + (e + 1074) ≤ l → n < 2 ^ l
  n_under l h = rw (one_shift sig e 1074 (e + 1074) refl) (shift_under 64 (e + 1074) l hi h)

  n_over : (l : ℕ) → l ≤ 63 + (e + 1074) → 2 ^ l ≤ n
  n_over l h = rw (one_shift sig e 1074 (e + 1074) refl) (shift_over 63 (e + 1074) l lo h)

  pub round_high : 1251 ≤ e → units binary64 s (closest sig 2048) (e - 1251) ≡ round binary64 s (sig * 2 ^ e) (2 ^ 2336)
  round_high h =
      let k = e - 1251 in
      let w : Window 53 k n (2 ^ 2336) = (
        rw (← (pow-add 2 (53 + k) 2336)) (n_under (53 + k + 2336) (omega arith)),
        inr (rw (← (pow-add 2 (52 + k) 2336)) (n_over (52 + k + 2336) (omega arith))),
      ) in
      sym (round_at binary64 s (sig * 2 ^ e) (2 ^ 2336) k (pow_pos 2336) w
      ∙ ap (λ (x : ℕ). units binary64 s x k)
      (closest_same n (2 ^ 2336 * 2 ^ k) sig 2048 (mul-pos (pow_pos 2336) (pow_pos k)) (lit< tt)
      (rw (three_shifts sig e 1074 11 (2336 + k) (omega arith), pow-add 2 2336 k))))

  pub round_low : (J : ℕ) → e < 1251 → Sticky sig (2 ^ (1251 - e)) J → units binary64 s (closest J 2048) 0 ≡ round binary64 s (sig * 2 ^ e) (2 ^ 2336)
  round_low J h st =
      let d = 1251 - e in
      sym (round_at binary64 s (sig * 2 ^ e) (2 ^ 2336) 0 (pow_pos 2336) (n_under (53 + 2336) (omega arith), inl refl)
      ∙ ap (λ (x : ℕ). units binary64 s x 0)
      (closest_same n (2 ^ 2336 * 2 ^ 0) sig (2 ^ d * 2048) (mul-pos (pow_pos 2336) (pow_pos 0)) (mul-pos (pow_pos d) (lit< tt))
      (rw (← (pow-add 2 d 11), three_shifts sig e 1074 (d + 11) 2336 (omega arith)))
      ∙ closest_sticky sig (2 ^ d) J 512 (pow_pos d) (lit< tt) st))
