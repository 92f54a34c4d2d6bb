-- `rounding::pack::magnitude` meets its contract.
use Rattle.std.proofs.Common.{◌≡◌, ℕ, ◌+◌, ◌*◌, ◌%◌, ◌^◌, ◌≤◌, ◌⊎◌, mod-eq_of_lt, arith, lit<}
use Rattle.rounding.specs.Near.{Pattern}
use Rattle.rounding.proofs.Packed.{packed, packed_over}
use Rattle.rounding.proofs.pack.magnitude.Goals as goal

inside : (k q : ℕ) → q ≤ 2 ^ 53 → (k ≡ 0) ⊎ (2 ^ 52 ≤ q) → k ≤ 2045 → Pattern k q (k * 2 ^ 52 % 2 ^ 64 + q)
inside k q h w j = rw (mod-eq_of_lt {n = k * 2 ^ 52} {m = 2 ^ 64} (omega arith)) (record { small = omega arith; reads = λ s. packed s q k h w j })

pub returns-then-k-le2045 : goal.returns-then-k-le2045
returns-then-k-le2045 c = inside c.args.k c.args.q c.requires.0 c.requires.1 c.if-k-le2045.true

pub returns-else-k-le2045 : goal.returns-else-k-le2045
returns-else-k-le2045 c = record { small = lit< tt; reads = λ z. packed_over z c.args.q c.args.k c.requires.1 c.if-k-le2045.false }
