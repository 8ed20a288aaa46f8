use Rattle.std.proofs.Common.{◌++◌, drop, take, reverse}
use Rattle.uc_term.specs.Flat.{spelled}
use Rattle.uc_term.proofs.NodeVars.{node_vars}
use Rattle.uc_clause.specs.Printable.{AreNumbered}
use Rattle.uc_clause.specs.Printing.{term_text}
use Rattle.uc_clause.proofs.Printing.{Ahead}
use Rattle.uc_clause.proofs.printer.write_term.Given as goal

abbrev pub invariant-loop-node : goal.invariant-loop-node
invariant-loop-node l = record {
  ahead : Ahead l.symbols (reverse l.pending.items) (spelled (drop l.node-index l.nodes)) l.out (l.fn.out ++ term_text l.symbols l.term);
  numbered : AreNumbered (node_vars (take l.node-index l.nodes));
}
