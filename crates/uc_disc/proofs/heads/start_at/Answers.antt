use Rattle.std.proofs.Common.{◌∙◌, sym, ap, Some}
use Rattle.std.proofs.lemmas.Option.{slice_get-get_or}
use Rattle.uc_disc.proofs.Passing.{start_there, start_past}
use Rattle.uc_disc.proofs.heads.start_at.Goals as goal

pub returns-in-Some : goal.returns-in-Some
returns-in-Some c = sym (start_there c.args.heads.now c.args.k c.args.end c.in-Some.head.now (slice_get-get_or c.args.heads.now c.args.k c.in-Some.head.now c.in-Some.ensures.lookup.3.0 ∙ ap Some (sym c.in-Some.ensures.lookup.1)))

pub returns-in-None : goal.returns-in-None
returns-in-None c = sym (start_past c.args.heads.now c.args.k c.args.end c.in-None.ensures.lookup.3)
