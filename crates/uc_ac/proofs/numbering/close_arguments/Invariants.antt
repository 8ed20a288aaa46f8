use Rattle.std.proofs.Common.{◌≤◌, ◌-◌, List, length}
use Rattle.uc_term.specs.declared.node.Sym.{Sym}
use Rattle.uc_term.specs.Tree.{Tree}
use Rattle.uc_ac.specs.Classes.{IsGrown, Stands, AreClosed}
use Rattle.uc_ac.proofs.numbering.close_arguments.Given as goal

abbrev pub invariant-loop-left : goal.invariant-loop-left
invariant-loop-left l = record {
  enough : l.left ≤ length l.terms.items;
  within : l.left ≤ l.n;
  grown : IsGrown l.fn.classes l.classes;
  closed : (symbols : List Sym) (ts : List Tree) → Stands symbols l.fn.classes l.fn.terms.items ts → AreClosed symbols l.classes l.terms.items l.fn.numbers.items l.numbers.items (l.n - l.left) ts;
}

abbrev pub decreases-loop-left : goal.decreases-loop-left
decreases-loop-left l = l.left
