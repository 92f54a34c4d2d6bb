-- `recover::seed_of` meets its contract.
use Rattle.recover.specs.Recover.{seed_of}
use Rattle.recover.proofs.seed_of.Goals as goal

pub returns-in-None : goal.returns-in-None
unfolding seed_of
returns-in-None c = simp c.in-None.is

pub returns-in-Some : goal.returns-in-Some
unfolding seed_of
returns-in-Some c = simp c.in-Some.is
