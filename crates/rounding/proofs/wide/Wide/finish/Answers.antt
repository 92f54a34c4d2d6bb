-- `rounding::wide::Wide::finish` meets its contract.
use Rattle.std.proofs.Common.{◌∙◌, arith}
use Rattle.rounding.proofs.Words.{low_rounds, high_rounds}
use Rattle.rounding.proofs.wide.Wide.finish.Goals as goal

pub round_pack-requires : goal.round_pack-requires
round_pack-requires c = (low_rounds _ _ c.self.view_is c.self.invariant c.if-self-eq0.true c.requires.0).1

pub round_pack-requires-else-self-eq0 : goal.round_pack-requires-else-self-eq0
round_pack-requires-else-self-eq0 c =
    (high_rounds _ _ c.self.view_is c.self.invariant c.if-self-eq0.false (omega arith) _ _ c.s.view_is c.shift_jam-s.ensures).0

pub returns-then-self-eq0 : goal.returns-then-self-eq0
returns-then-self-eq0 c = c.round_pack.ensures ∙ (low_rounds _ _ c.self.view_is c.self.invariant c.if-self-eq0.true c.requires.0).2 _ _

pub returns-else-self-eq0 : goal.returns-else-self-eq0
returns-else-self-eq0 c =
    c.round_pack-else-self-eq0.ensures
    ∙ (high_rounds _ _ c.self.view_is c.self.invariant c.if-self-eq0.false (omega arith) _ _ c.s.view_is c.shift_jam-s.ensures).1 _ _
