use Rattle.uc_disc.proofs.Telling.{below_seat, not_below_seat}
use Rattle.uc_disc.proofs.seats.place_of.Goals as goal

pub returns-in-Some-clause-below : goal.returns-in-Some-clause-below
returns-in-Some-clause-below c = below_seat c.args.facts.now c.in-Some.place c.args.fact c.requires.rising c.in-Some.ensures

pub returns-in-Some-clause-not_below : goal.returns-in-Some-clause-not_below
returns-in-Some-clause-not_below c = not_below_seat c.args.facts.now c.in-Some.place c.args.fact c.requires.rising c.in-Some.ensures
