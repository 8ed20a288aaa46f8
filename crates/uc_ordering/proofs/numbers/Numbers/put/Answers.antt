use Rattle.uc_ordering.proofs.NumberLists.{put_is}
use Rattle.uc_ordering.proofs.numbers.Numbers.put.Goals as goal

pub returns-clause-put : goal.returns-clause-put
returns-clause-put c = put_is c.args.self.now.map.entries c.insert.new.self.entries c.in_ok-name.name c.args.number c.args.name.now c.in_ok-name.ensures.items c.in_ok-old.ensures.entries
