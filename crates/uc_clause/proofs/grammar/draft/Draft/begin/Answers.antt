use Rattle.std.proofs.Common.{sym, ◌∙◌, arith}
use Rattle.uc_clause.specs.Drafts.{at_no_term, at_node_too_many}
use Rattle.uc_clause.proofs.Tables.{grows_not}
use Rattle.uc_clause.proofs.grammar.draft.Draft.begin.Goals as goal

pub returns-in-Neither-clause-stops : goal.returns-in-Neither-clause-stops
returns-in-Neither-clause-stops c = at_no_term c.requires.begins (sym c.head_at-head.ensures ∙ c.in-Neither.is)

pub returns-then-len-ge-MAX_NODES : goal.returns-then-len-ge-MAX_NODES
returns-then-len-ge-MAX_NODES c = record {
  moves = tt;
  stops = at_node_too_many c.requires.begins (λ e. c.in_default.not-Neither (c.head_at-head.ensures ∙ e)) (omega arith);
  grows = grows_not c.args.symbols.now;
}

pub returns-in_ok-variable-in-Variable : goal.returns-in_ok-variable-in-Variable
returns-in_ok-variable-in-Variable c = record {
  moves = c.in_ok-variable-in-Variable.ensures.moves c.args.symbols.now;
  stops = tt;
  grows = grows_not c.args.symbols.now;
}

pub returns-in_ok-functor-in-Functor : goal.returns-in_ok-functor-in-Functor
returns-in_ok-functor-in-Functor c = record {
  moves = c.in_ok-functor-in-Functor.ensures.moves c.args.variables.now;
  stops = tt;
  grows = c.in_ok-functor-in-Functor.ensures.grows;
}
