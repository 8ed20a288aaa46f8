use Rattle.uc_fof.proofs.Reach.{term_stops, stop_freed}
use Rattle.uc_fof.proofs.terms.first_stop.Goals as goal

pub returns-in-Some : goal.returns-in-Some
returns-in-Some c = stop_freed c.args.bytes.now c.args.tokens.now c.args.conjecture c.args.bound.now c.args.from c.args.why c.args.at c.args.to c.in-Some.free c.requires.stops c.requires.reaches c.in-Some.ensures

pub returns-in-None : goal.returns-in-None
returns-in-None c = term_stops c.args.bytes.now c.args.tokens.now c.args.conjecture c.args.bound.now c.args.from c.args.why c.args.at c.args.to c.requires.stops c.requires.reaches c.in-None.ensures
