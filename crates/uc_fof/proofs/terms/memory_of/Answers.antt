use Rattle.uc_fof.proofs.terms.memory_of.Goals as goal

pub unreachable-requires : goal.unreachable-requires
unreachable-requires c = let h = c.in-At.is in let k = c.requires in cc
