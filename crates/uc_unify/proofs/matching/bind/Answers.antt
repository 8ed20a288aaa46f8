use Rattle.std.proofs.Common.{◌≡◌, ℕ, Bool, true, false, refl, sym, ap, ◌∙◌, inl, ◌↔◌, IsTrue, List, Some}
use Rattle.uc_term.specs.declared.node.Node.{Node}
use Rattle.uc_term.specs.Tree.{Tree}
use Rattle.uc_term.specs.Bindings.{IsTermOf}
use Rattle.uc_term.specs.Flat.{flat, tree_of, IsWhole}
use Rattle.uc_unify.specs.Extension.{IsBound}
use Rattle.uc_unify.proofs.matching.bind.Goals as goal

-- a variable that has a term is compared with it
compared : (x : ℕ) (ns part : List Node) (ps : List (ℕ × Tree)) (b : Bool) → IsTermOf ps x ns → IsWhole part → (IsTrue b ↔ (ns ≡ part)) → IsBound x (tree_of part) ps ps b
compared x ns part ps true t w d = inl (t.is ∙ ap Some (ap tree_of (d.0 refl)), refl)
compared x ns part ps false t w d = (tree_of ns, t.is, λ s. differ (d.1 (sym t.whole ∙ (ap flat s ∙ w))))
  where
    differ : IsTrue false → ⊥
    differ h = cc

pub returns-in-Some : goal.returns-in-Some
returns-in-Some c = compared c.args.x c.in-Some.nodes.now c.args.part.now c.args.subst.now c.same_nodes.result c.in-Some.ensures c.requires.whole c.same_nodes.ensures
