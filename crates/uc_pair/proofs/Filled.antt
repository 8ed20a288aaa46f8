-- Instances in lists that are lent.
use Rattle.std.proofs.Common.{◌≡◌, ◌≤◌, ◌∙◌, List, Bool, true, false, length, arith}
use Rattle.uc_term.specs.declared.node.Node.{Node}
use Rattle.uc_term.specs.Tree.{Tree}
use Rattle.uc_term.specs.Flat.{tree_of, IsWhole}
use Rattle.uc_term.proofs.Terms.{whole_list}
use Rattle.uc_pair.specs.Overlapping.{IsSmall}
use Rattle.uc_pair.specs.Judging.{IsFilled}

-- the nodes are those of a small term
pub record IsHeld (t : Tree) (ns : List Node) : Type 0 where
  pub whole : IsWhole ns
  pub short : length ns ≤ 4096
  pub tree : tree_of ns ≡ t
  pub small : IsSmall t

pub held : (t : Tree) (list ns : List Node) (b : Bool) → b ≡ true → ns ≡ list → IsFilled t list b → IsHeld t ns
held t list ns true e is f = let w = whole_list ns t (is ∙ f.0) in record { whole = w.0; short = omega (arith, w.2, f.1); tree = w.1; small = f.1 }
held t list ns false e is f = absurd cc
