use Rattle.std.proofs.Common.{◌≡◌, sym, ap₂, ◌∙◌, subst}
use Rattle.uc_term.specs.Tree.{apply}
use Rattle.uc_term.specs.Variables.{Occurs}
use Rattle.uc_term.specs.Flat.{tree_of}
use Rattle.uc_rewrite.specs.Completed.{completed}
use Rattle.uc_rewrite.proofs.Testing.{whole_flat, tree_flat, found_sides, instance_none_new, goes_down, down_greater}
use Rattle.uc_rewrite.proofs.falls.FallsTest.passes.Goals as goal

pub is_greater-requires-clause-t_whole : goal.is_greater-requires-clause-t_whole
is_greater-requires-clause-t_whole g c = whole_flat c.as_slice.result.now _ (c.as_slice.ensures.value ∙ c.in_ok-fill_completed.ensures.nodes)

pub is_greater-requires-clause-t_known : goal.is_greater-requires-clause-t_known
is_greater-requires-clause-t_known g c x o =
    let e : tree_of c.as_slice.result.now ≡ apply (completed (g.C.Comparison.constant c.args.self.now.rules.now.comparison.now) c.args.found.now.subst) c.args.to.now = tree_flat c.as_slice.result.now _ (c.as_slice.ensures.value ∙ c.in_ok-fill_completed.ensures.nodes) ∙ ap₂ (λ k z. apply (completed k c.args.found.now.subst) z) c.least-least.ensures c.as_nodes.ensures.tree in
    c.requires.2 x (instance_none_new (g.C.Comparison.constant c.args.self.now.rules.now.comparison.now) (g.I.Index.live c.args.self.now.rules.now.index.now) (tree_of c.args.self.now.term.now) c.args.from.now c.args.to.now c.args.found.now (g.met.I.Index.rising c.args.self.now.rules.now.index.now) c.requires.3 x (subst (Occurs x) e o))

pub returns : goal.returns
returns g c =
    let e : tree_of c.as_slice.result.now ≡ apply (completed (g.C.Comparison.constant c.args.self.now.rules.now.comparison.now) c.args.found.now.subst) c.args.to.now = tree_flat c.as_slice.result.now _ (c.as_slice.ensures.value ∙ c.in_ok-fill_completed.ensures.nodes) ∙ ap₂ (λ k z. apply (completed k c.args.found.now.subst) z) c.least-least.ensures c.as_nodes.ensures.tree in
    ((λ h. goes_down (g.C.Comparison.greater c.args.self.now.rules.now.comparison.now) (g.C.Comparison.constant c.args.self.now.rules.now.comparison.now) (g.I.Index.live c.args.self.now.rules.now.index.now) (tree_of c.args.self.now.term.now) c.args.from.now c.args.to.now c.args.found.now (found_sides (g.C.Comparison.constant c.args.self.now.rules.now.comparison.now) (g.I.Index.live c.args.self.now.rules.now.index.now) (tree_of c.args.self.now.term.now) c.args.from.now c.args.to.now c.args.found.now (g.met.I.Index.rising c.args.self.now.rules.now.index.now) c.requires.3) (subst (λ z. g.C.Comparison.greater c.args.self.now.rules.now.comparison.now (tree_of c.args.self.now.term.now) z) e (c.is_greater.ensures.0 h))), (λ d. c.is_greater.ensures.1 (subst (λ z. g.C.Comparison.greater c.args.self.now.rules.now.comparison.now (tree_of c.args.self.now.term.now) z) (sym e) (down_greater (g.C.Comparison.greater c.args.self.now.rules.now.comparison.now) (g.C.Comparison.constant c.args.self.now.rules.now.comparison.now) (g.I.Index.live c.args.self.now.rules.now.index.now) (tree_of c.args.self.now.term.now) c.args.from.now c.args.to.now c.args.found.now (found_sides (g.C.Comparison.constant c.args.self.now.rules.now.comparison.now) (g.I.Index.live c.args.self.now.rules.now.index.now) (tree_of c.args.self.now.term.now) c.args.from.now c.args.to.now c.args.found.now (g.met.I.Index.rising c.args.self.now.rules.now.index.now) c.requires.3) d))))
