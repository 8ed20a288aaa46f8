use Rattle.uc_clause.proofs.grammar.draft.Draft.functor.Goals as goal

pub returns-in_ok-open-clause-moves : goal.returns-in_ok-open-clause-moves
returns-in_ok-open-clause-moves c = λ seen. c.in_ok-open.ensures.moves seen c.args.symbols.now
