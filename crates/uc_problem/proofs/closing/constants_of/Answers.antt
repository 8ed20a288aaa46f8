use Rattle.std.proofs.Common.{sym, ◌∙◌}
use Rattle.uc_problem.specs.Conjecture.{flat_terms}
use Rattle.uc_problem.proofs.Sound.{flat_terms_sound}
use Rattle.uc_problem.proofs.ConstantNames.{are_constants, no_constants, adds_no_constants}
use Rattle.uc_problem.proofs.closing.constants_of.Goals as goal

pub returns-then-count-eq0-clause-are : goal.returns-then-count-eq0-clause-are
returns-then-count-eq0-clause-are c = no_constants c.args.symbols.now c.args.flats.now c.new.result.items c.new.ensures.items (sym c.constants_needed-count.ensures ∙ c.if-count-eq0.true)

pub returns-then-count-eq0-clause-adds : goal.returns-then-count-eq0-clause-adds
returns-then-count-eq0-clause-adds c = adds_no_constants c.args.symbols.now c.new.result.items c.new.ensures.items

pub returns-clause-are : goal.returns-clause-are
returns-clause-are c =
    are_constants c.add_constants.new.symbols c.args.flats.now c.constants_needed-count.result c.add_constants.result c.constants_needed-count.ensures c.add_constants.ensures.count
    (c.add_constants.ensures.named (flat_terms c.args.flats.now) (flat_terms_sound c.args.symbols.now c.args.flats.now c.requires) c.in_ok-names.ensures)
