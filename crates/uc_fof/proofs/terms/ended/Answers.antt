use Rattle.uc_fof.proofs.Reach.{term_passes, term_freed}
use Rattle.uc_fof.proofs.terms.ended.Goals as goal

pub returns-in-Some : goal.returns-in-Some
returns-in-Some c conjecture = let r = c.requires.reads in term_freed c.args.bytes.now c.args.tokens.now conjecture c.args.bound.now c.args.from r.0 c.args.end c.in-Some.free r.1 c.in-Some.ensures

pub returns-in-None : goal.returns-in-None
returns-in-None c conjecture = let r = c.requires.reads in record { value = r.0; reads = term_passes c.args.bytes.now c.args.tokens.now conjecture c.args.bound.now c.args.from r.0 c.args.end r.1 c.in-None.ensures }
