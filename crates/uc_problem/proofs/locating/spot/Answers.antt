use Rattle.uc_problem.proofs.Sides.{located_within, place_within, place_is}
use Rattle.uc_problem.proofs.locating.spot.Goals as goal

pub bounds-clauses-term : goal.bounds-clauses-term
bounds-clauses-term c = located_within c.args.clauses.now c.args.term c.args.node c.requires.spot c.requires.is

pub bounds-as_slice-first : goal.bounds-as_slice-first
bounds-as_slice-first c = rw (c.as_slice.ensures, c.first_place-first.ensures.value) (place_within c.args.clauses.now c.args.term c.args.node c.index-clauses-term.result c.index-clauses-term.result c.index-clauses-term.is c.requires.spot c.requires.is)

pub returns : goal.returns
returns c = rw (c.as_slice.ensures, c.first_place-first.ensures.value) (place_is c.args.clauses.now c.args.term c.args.node c.index-clauses-term.result c.index-clauses-term.result c.index-clauses-term.is c.requires.spot c.requires.is c.in_ok-copy.field-0 _ c.in_ok-copy.ensures)
