use Rattle.std.proofs.Common.{◌≡◌, Some, None, length, slice_get, refl, subst}
use Rattle.std.proofs.lemmas.Option.{slice_get_read}
use Rattle.uc_term.specs.Path.{at_position}
use Rattle.uc_term.specs.Positions.{IsPlaceOf}
use Rattle.uc_term.specs.Tree.{Tree}
use Rattle.uc_certify.proofs.Lists.{never}
use Rattle.uc_certify.proofs.OnePath.{path_at, no_path}
use Rattle.uc_certify.proofs.joining.has_path.Goals as goal

pub returns-in-Some-pos_of : goal.returns-in-Some-pos_of
returns-in-Some-pos_of c =
    let at : slice_get c.args.facts.now c.args.overlap.outer ≡ Some c.in-Some.fact.now = (slice_get_read c.args.facts.now (length c.args.facts.now) c.args.overlap.outer c.in-Some.fact.now refl c.in-Some.ensures.lookup.3.0 c.in-Some.ensures.lookup.1) in
    path_at c.args.facts.now c.args.overlap c.args.path.now c.in-Some.fact.now at c.in-Some-pos_of.pos.0 (subst (λ (t : Tree). IsPlaceOf t c.args.path.now c.in-Some-pos_of.pos.0) c.side_of.ensures c.in-Some-pos_of.ensures)

pub returns-in-None : goal.returns-in-None
returns-in-None c =
    let at : slice_get c.args.facts.now c.args.overlap.outer ≡ Some c.in-Some.fact.now = (slice_get_read c.args.facts.now (length c.args.facts.now) c.args.overlap.outer c.in-Some.fact.now refl c.in-Some.ensures.lookup.3.0 c.in-Some.ensures.lookup.1) in
    never (no_path c.args.facts.now c.args.overlap c.args.path.now c.in-Some.fact.now at (subst (λ (t : Tree). at_position t c.args.path.now ≡ None) c.side_of.ensures c.in-None.ensures))
