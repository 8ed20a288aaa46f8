use Rattle.uc_system.proofs.SymbolsRead.{keys_more}
use Rattle.uc_system.proofs.symbols.Ranks.put.Goals as goal

pub returns-clause-same : goal.returns-clause-same
returns-clause-same c = rw c.in_ok-push.ensures.items (keys_more c.args.self.now.known.keys c.insert.new.self.keys c.args.symbol c.args.self.now.ranked.items c.in_ok-insert.ensures.keys c.requires.new c.requires.same)
