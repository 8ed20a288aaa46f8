use Rattle.uc_fof.proofs.file.no_memory.Goals as goal

pub unreachable-requires : goal.unreachable-requires
unreachable-requires c = c.in_default.not-NoMemory c.requires
