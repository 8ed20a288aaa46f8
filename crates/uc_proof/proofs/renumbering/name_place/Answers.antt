use Rattle.uc_proof.proofs.Naming.{name_at}
use Rattle.uc_proof.proofs.renumbering.name_place.Goals as goal

pub returns : goal.returns
returns c = name_at c.args.x c.args.names.now.keys c.insert_full.new.self.keys c.in_ok-place.place c.in_ok-place.ensures.keys c.in_ok-place.ensures.index
