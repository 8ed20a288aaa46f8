use Rattle.std.proofs.Common.{length, ◌-◌}
use Rattle.uc_term.specs.Table.{Grows}
use Rattle.uc_clause.specs.Drafts.{state_of}
use Rattle.uc_clause.proofs.Loop.{Keeps}
use Rattle.uc_clause.proofs.grammar.draft.Draft.read.Given as goal

abbrev pub invariant-steps : goal.invariant-steps
invariant-steps l = record {
  keeps : Keeps l.bytes l.tokens l.from l.fn.variables l.fn.symbols (state_of l.draft l.variables l.symbols);
  grows : Grows l.fn.symbols l.symbols;
}

abbrev pub decreases-steps : goal.decreases-steps
decreases-steps l = length l.tokens - l.draft.at
