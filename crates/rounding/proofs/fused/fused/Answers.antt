-- `rounding::fused::fused` meets its contract.
use Rattle.std.proofs.Common.{refl, ◌∙◌}
use Rattle.rounding.proofs.FusedCases.{x_nan, y_nan, z_nan, whole-fused}
use Rattle.rounding.proofs.fused.fused.Goals.{then-is_nan-via-then-is_nan, then-is_nan-via-else-is_nan+then-is_nan-2}
use Rattle.rounding.proofs.fused.fused.Goals.{then-is_nan-via-else-is_nan+else-is_nan-2+then-is_nan-3}
use Rattle.rounding.proofs.fused.fused.Goals as goal

pub returns-then-is_nan : goal.returns-then-is_nan
returns-then-is_nan c =
    c.nan.ensures ∙ (elim c.then-is_nan.branch [
      | then-is_nan-via-then-is_nan w ↦ x_nan _ _ _ w.if-is_nan.ensures.value
      | then-is_nan-via-else-is_nan+then-is_nan-2 w ↦ y_nan _ _ _ w.if-is_nan-2.ensures.value
      | then-is_nan-via-else-is_nan+else-is_nan-2+then-is_nan-3 w ↦ z_nan _ _ _ w.if-is_nan-3.ensures.value
    ])

pub returns : goal.returns
returns c = whole-fused _ _ _ _ c.well_formed.0.1 c.well_formed.1.0.1 c.well_formed.1.1.0.1 _ refl c.fused_parts.ensures
