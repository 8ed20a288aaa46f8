use Rattle.uc_certify.proofs.Known.{same_symbols, into_set, from_set}
use Rattle.uc_certify.proofs.Lists.{of, not_of, never}
use Rattle.uc_certify.proofs.symbol_set.are_same_symbols.Goals as goal

pub returns-then-not-has_all : goal.returns-then-not-has_all
returns-then-not-has_all c = never (λ same. not_of c.has_all.result c.if-not-has_all.true c.has_all.ensures (into_set c.args.symbols.now c.args.others.now c.args.set.now.numbers.keys c.requires same))

pub returns : goal.returns
returns c = (
  λ t. same_symbols c.args.symbols.now c.args.others.now c.args.set.now.numbers.keys c.in_ok-other_set.other_set.numbers.keys c.requires c.in_ok-other_set.ensures (of c.has_all.result c.if-not-has_all.false c.has_all.ensures) (c.has_all-2.ensures.0 t),
  λ same. c.has_all-2.ensures.1 (from_set c.args.symbols.now c.args.others.now c.in_ok-other_set.other_set.numbers.keys c.in_ok-other_set.ensures same),
)
