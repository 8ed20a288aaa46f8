use Rattle.uc_tstp.proofs.sources.source_of_rule.Goals as goal

pub returns-in-Chain-clause-stops : goal.returns-in-Chain-clause-stops
returns-in-Chain-clause-stops c = rw c.in-Chain.is c.chain_source.ensures.stops

pub returns-in-Encode-clause-stops : goal.returns-in-Encode-clause-stops
returns-in-Encode-clause-stops c = rw c.in-Encode.is c.encode_source.ensures.stops

pub returns-in-Refute-clause-stops : goal.returns-in-Refute-clause-stops
returns-in-Refute-clause-stops c = rw c.in-Refute.is c.refute_source.ensures.stops
