use Rattle.uc_system.proofs.FactReading.{found_reads}
use Rattle.uc_system.proofs.FactsRead.{known_later}
use Rattle.uc_system.proofs.facts.fact_of.Goals as goal

pub returns-in-Some-clause-reads : goal.returns-in-Some-clause-reads
returns-in-Some-clause-reads c = found_reads c.fact_at.new.symbols c.args.known.now.keys (known_later c.args.symbols.now c.fact_at.new.symbols c.in_ok-fact.ensures.grows c.args.known.now.keys c.requires.known) c.args.text.now c.in-Some.fact (rw c.in-Some.is at c.in_ok-fact.ensures.reads)
