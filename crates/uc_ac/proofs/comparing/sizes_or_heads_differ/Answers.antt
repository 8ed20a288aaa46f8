use Rattle.std.proofs.Common.{◌≡◌, ◌∙◌, IsTrue, Bool, true, false, not, List, [], ◌∷◌, get_or, ap, sym}
use Rattle.uc_term.specs.declared.node.Sym.{Sym}
use Rattle.uc_term.specs.declared.node.Node.{Node}
use Rattle.uc_term.specs.Flat.{flat}
use Rattle.uc_term.specs.Tree.{Tree}
use Rattle.uc_ac.specs.AcEqual.{AcEqual}
use Rattle.uc_ac.proofs.Sizes.{same_nodes, same_first}
use Rattle.uc_ac.proofs.comparing.sizes_or_heads_differ.Goals as goal

one_first : (symbols : List Sym) (d : Node) (s t : Tree) (left right : List Node) → left ≡ flat s → right ≡ flat t → AcEqual symbols s t → (get_or left 0 d ∷ []) ≡ (get_or right 0 d ∷ [])
one_first symbols d s t left right l r e = ap (λ (ns : List Node). get_or ns 0 d ∷ []) l ∙ ap (λ (n : Node). n ∷ []) (same_first symbols d s t e) ∙ sym (ap (λ (ns : List Node). get_or ns 0 d ∷ []) r)

not_both : (b : Bool) → IsTrue (not b) → IsTrue b → ⊥
not_both true h k = absurd cc
not_both false h k = absurd cc

pub returns-then-nodes : goal.returns-then-nodes
returns-then-nodes c h symbols e = c.if-nodes.true (c.nodes.ensures.value ∙ same_nodes symbols c.args.s.now c.args.t.now e ∙ sym c.nodes-2.ensures.value)

pub returns : goal.returns
returns c h symbols e = not_both c.same_nodes.result h (c.same_nodes.ensures.1 (one_first symbols _ c.args.s.now c.args.t.now c.as_nodes.result.now c.as_nodes-2.result.now c.as_nodes.ensures.value c.as_nodes-2.ensures.value e))
