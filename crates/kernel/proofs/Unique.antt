-- The contracts of the entries leave no choice: whatever two results and exit states they allow of one call, the results are equal, and so are the rows that
-- are lent by `&mut`, and what else is.
use mathlib.Core.Path.{◌≡◌, sym, ◌∙◌}
use mathlib.Core.List.{List}
use Prim.Native.Nat.{ℕ}
use lib.Ieee.{Float}
use seplogic.Ra.Ura.{Ura}
use base.Logic.{SProp, ent, sep, via, fst∗, snd∗}
use prog.Memory.{Memory}
use prog.Routine.{Routine}
use types.Logic.{Logic}
use contract.Monad.{Fun, fact, fact_use, fact_i}
use Rattle.rows.specs.declared.Row.{Row}
use Rattle.float.proofs.One.{One}
use Rattle.lent.proofs.Unique.{One as OneOf}
use Rattle.link.specs.declared.Fed.{Fed}
use Rattle.link.proofs.Unique.{Left, fed_alike, ends_alike}
use Rattle.abi.specs.declared.Solved.{Solved}
use Rattle.abi.specs.declared.SourceSolved.{SourceSolved}
use Rattle.kernel.proofs.ravelsickle_root.Kinds as root
use Rattle.kernel.proofs.ravelsickle_root.Reads as root-contract
use Rattle.kernel.proofs.ravelsickle_fused.Kinds as fused
use Rattle.kernel.proofs.ravelsickle_fused.Reads as fused-contract
use Rattle.kernel.proofs.ravelsickle_normalize.Kinds as normalize
use Rattle.kernel.proofs.ravelsickle_normalize.Reads as normalize-contract
use Rattle.kernel.proofs.ravelsickle_solve_2x2.Kinds as solve-2x2
use Rattle.kernel.proofs.ravelsickle_solve_2x2.Reads as solve-2x2-contract
use Rattle.kernel.proofs.ravelsickle_lp_1d.Kinds as lp-1d
use Rattle.kernel.proofs.ravelsickle_lp_1d.Reads as lp-1d-contract
use Rattle.kernel.proofs.ravelsickle_recover_2d_prefix.Kinds as recover
use Rattle.kernel.proofs.ravelsickle_recover_2d_prefix.Reads as recover-contract
use Rattle.kernel.proofs.ravelsickle_solve.Kinds as solve
use Rattle.kernel.proofs.ravelsickle_solve.Reads as solve-contract
use Rattle.kernel.specs.contracts.ravelsickle_solve_rows as solve-rows
use Rattle.kernel.proofs.ravelsickle_lp_2d_incre_max_y.Kinds as lp-2d-incre-max-y
use Rattle.kernel.proofs.ravelsickle_lp_2d_incre_max_y.Reads as lp-2d-incre-max-y-contract
use Rattle.kernel.proofs.ravelsickle_reader_start.Kinds as reader-start
use Rattle.kernel.proofs.ravelsickle_reader_start.Reads as reader-start-contract
use Rattle.kernel.proofs.ravelsickle_reader_feed.Kinds as reader-feed
use Rattle.kernel.proofs.ravelsickle_reader_feed.Reads as reader-feed-contract
use Rattle.kernel.proofs.ravelsickle_reader_end.Kinds as reader-end
use Rattle.kernel.proofs.ravelsickle_reader_end.Reads as reader-end-contract

pub root-one : One 0 root.ps root.r root-contract.Post (λ κs z e. z)
root-one κs args z z' e e' h k = h ∙ sym k

pub fused-one : One 0 fused.ps fused.r fused-contract.Post (λ κs z e. z)
fused-one κs args z z' e e' h k = h ∙ sym k

pub normalize_one : One 1 normalize.ps normalize.r normalize-contract.Post {A = ℕ × List Float} (λ κs z e. (z, e.0.now))
normalize_one κs args z z' e e' h k = cc

pub solve_2x2_one : One 0 solve-2x2.ps solve-2x2.r solve-2x2-contract.Post (λ κs z e. z)
solve_2x2_one κs args z z' e e' h k = h ∙ sym k

pub lp_1d_one : One 1 lp-1d.ps lp-1d.r lp-1d-contract.Post (λ κs z e. z)
lp_1d_one κs args z z' e e' h k = h ∙ sym k

pub recover-one : One 1 recover.ps recover.r recover-contract.Post (λ κs z e. z)
recover-one κs args z z' e e' h k = h ∙ sym k

pub solve-one : One 1 solve.ps solve.r solve-contract.Post {A = Solved × List Float} (λ κs z e. (z, e.0.now))
solve-one κs args z z' e e' h k = cc

pub lp_2d_incre_max_y_one : One 1 lp-2d-incre-max-y.ps lp-2d-incre-max-y.r lp-2d-incre-max-y-contract.Post {A = SourceSolved × List Float}
    (λ κs z e. (z, e.0.now))
lp_2d_incre_max_y_one κs args z z' e e' h k = cc

pub reader_start_one : One 0 reader-start.ps reader-start.r reader-start-contract.Post (λ κs z e. z)
reader_start_one κs args z z' e e' h k = h ∙ sym k

pub reader_feed_one : One 4 reader-feed.ps reader-feed.r reader-feed-contract.Post {A = Left}
    (λ κs z e. (z, e.1.0.now, e.1.1.0.now, e.1.1.1.1.0.now))
reader_feed_one κs args z z' e e' h k = fed_alike _ _ _ _ _ _ _ _ _ h k

pub reader_end_one : One 2 reader-end.ps reader-end.r reader-end-contract.Post {A = Fed × List ℕ} (λ κs z e. (z, e.1.1.0.now))
reader_end_one κs args z z' e e' h k = ends_alike _ _ _ _ _ _ h k

-- the contract of a walked function is read as the logic has it: what its two clauses say of the one result beside what they say of the other
abbrev together : {X Y : Type 0} → X → Y → X × Y
together x y = (x, y)

same : {X Y : Type 0} (x x' x₀ : X) (y y' y₀ : Y) → x ≡ x₀ → y ≡ y₀ → x' ≡ x₀ → y' ≡ y₀ → together x y ≡ together x' y'
same x x' x₀ y y' y₀ h₁ h₂ k₁ k₂ = cc

module _ {M : Type 1} (𝓤 : Ura M) where
  learns : (P Q : SProp 𝓤) (φ ψ : Type 0) → ent 𝓤 P (sep 𝓤 (fact 𝓤 φ) (fact 𝓤 ψ)) → (φ → ψ → ent 𝓤 P Q) → ent 𝓤 P Q
  learns P Q φ ψ p next =
      fact_use 𝓤 φ (via 𝓤 (sep 𝓤 (fact 𝓤 φ) (fact 𝓤 ψ)) p (fst∗ 𝓤 (fact 𝓤 φ) (fact 𝓤 ψ))) (λ a.
      fact_use 𝓤 ψ (via 𝓤 (sep 𝓤 (fact 𝓤 φ) (fact 𝓤 ψ)) p (snd∗ 𝓤 (fact 𝓤 φ) (fact 𝓤 ψ))) (λ b. next a b))

  module _ {X Y : Type 0} (x x' x₀ : X) (y y' y₀ : Y) where
    abbrev Says : X → Y → SProp 𝓤
    Says u v = sep 𝓤 (fact 𝓤 (u ≡ x₀)) (fact 𝓤 (v ≡ y₀))

    abbrev Both : SProp 𝓤
    Both = sep 𝓤 (Says x y) (Says x' y')

    alike : ent 𝓤 Both (fact 𝓤 (together x y ≡ together x' y'))
    alike =
        learns Both _ (x ≡ x₀) (y ≡ y₀) (fst∗ 𝓤 (Says x y) (Says x' y')) (λ h₁ h₂.
        learns Both _ (x' ≡ x₀) (y' ≡ y₀) (snd∗ 𝓤 (Says x y) (Says x' y')) (λ k₁ k₂.
        fact_i 𝓤 (together x y ≡ together x' y') Both (same x x' x₀ y y' y₀ h₁ h₂ k₁ k₂)))

module _ {M : Type 1} {𝓤 : Ura M} (𝓛 : Logic 𝓤) (mem : Memory → SProp 𝓤) (run : Routine → Fun 𝓤) where
  pub solve-rows-one : OneOf 𝓛 mem run solve-rows.ended (solve-rows.clauses 𝓛 mem run) {X = Solved × List Row} (λ κs z e. together z e.0.now)
  solve-rows-one κs a g z z' e e' = alike 𝓤 z z' _ e.0.now e'.0.now _
