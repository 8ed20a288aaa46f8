use Rattle.std.proofs.Common.{◌≡◌, ℕ, List, length, arith, ap, ◌∙◌}
use Rattle.uc_term.specs.declared.node.Node.{Node}
use Rattle.uc_term.specs.Tree.{Tree, apply, nodes}
use Rattle.uc_term.specs.Subst.{image}
use Rattle.uc_term.specs.Flat.{flat, tree_of, IsWhole}
use Rattle.uc_term.proofs.Terms.{whole_list}
use Rattle.uc_term.proofs.term.Term.apply.Goals as goal

-- the instance's list is whole, and is the instance
made : (σ : ℕ → Tree) (ns all : List Node) (t : Tree) → tree_of ns ≡ t → all ≡ flat (apply σ (tree_of ns)) → IsWhole all × (tree_of all ≡ apply σ t) × (length all ≡ nodes (apply σ (tree_of ns)))
made σ ns all t e is = let w = whole_list all (apply σ (tree_of ns)) is in (w.0, w.1 ∙ ap (apply σ) e, w.2)

pub from_nodes-requires-clause-whole : goal.from_nodes-requires-clause-whole
from_nodes-requires-clause-whole c = (made (image c.args.subst.now) c.as_nodes-pattern.result.now c.in_ok-instance.field-0.items c.args.self.now c.as_nodes-pattern.ensures.tree c.in_ok-instance.ensures.nodes).0

pub from_nodes-requires-clause-small : goal.from_nodes-requires-clause-small
from_nodes-requires-clause-small c = let w = made (image c.args.subst.now) c.as_nodes-pattern.result.now c.in_ok-instance.field-0.items c.args.self.now c.as_nodes-pattern.ensures.tree c.in_ok-instance.ensures.nodes in omega (arith, w.2)

pub returns-clause-ok : goal.returns-clause-ok
returns-clause-ok c = c.from_nodes.ensures ∙ (made (image c.args.subst.now) c.as_nodes-pattern.result.now c.in_ok-instance.field-0.items c.args.self.now c.as_nodes-pattern.ensures.tree c.in_ok-instance.ensures.nodes).1
