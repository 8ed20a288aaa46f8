use Rattle.std.proofs.Common.{◌≡◌, ◌∙◌, refl, sym, ap, IsTrue, Bool, true, false}
use Rattle.uc_term.specs.Tree.{put, apply}
use Rattle.uc_term.specs.Flat.{tree_of}
use Rattle.uc_term.specs.Subst.{image}
use Rattle.uc_pair.proofs.Filled.{held}
use Rattle.uc_pair.proofs.judging.same_or.Goals as goal

holds : {A : Type 0} (b : Bool) → b ≡ true → (IsTrue b → A) → A
holds true e h = h refl
holds false e h = absurd cc

pub returns-then-same_nodes : goal.returns-then-same_nodes
returns-then-same_nodes c =
    let σ = image c.args.subst.now in
    let s = held (apply σ c.args.terms.now.outer_to) c.fill_instance.new.list.items c.as_slice.result.now c.in_ok-fill_instance.field-0 c.if-not-branch.false c.as_slice.ensures.value c.in_ok-fill_instance.ensures in
    let t = held (apply σ (put c.args.terms.now.outer_from c.args.there.place c.args.terms.now.inner_to)) c.fill_put.new.list.items c.as_slice-2.result.now c.in_ok-fill_put.field-0 c.if-not-branch-2.false c.as_slice-2.ensures.value c.in_ok-fill_put.ensures in
    λ left right. sym s.tree ∙ ap tree_of (holds c.same_nodes.result c.if-same_nodes.true c.same_nodes.ensures.0) ∙ t.tree
