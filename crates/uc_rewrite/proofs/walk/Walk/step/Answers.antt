use Rattle.std.proofs.Common.{◌+◌, ◌++◌, length, take, drop, sym, ap, ap₂, ◌∙◌, arith, subst}
use Rattle.uc_term.specs.Tree.{apply}
use Rattle.uc_term.specs.Flat.{flat, tree_of}
use Rattle.uc_term.proofs.Terms.{length-flat}
use Rattle.uc_fact.specs.declared.chain.By.TheVariants.{Fact}
use Rattle.uc_rewrite.specs.Completed.{completed}
use Rattle.uc_rewrite.specs.Walking.{Steps}
use Rattle.uc_rewrite.proofs.Testing.{whole_flat, tree_flat}
use Rattle.uc_rewrite.proofs.Keeping.{still_kept}
use Rattle.uc_rewrite.proofs.Stepping.{has_fact, within, whole_term, list_is, nodes_are, large, inside_new, inside_end, small_place, steps}
use Rattle.uc_rewrite.proofs.walk.Walk.step.Goals as goal

pub unreachable-requires : goal.unreachable-requires
unreachable-requires g c = has_fact (g.C.Comparison.greater c.args.rules.now.comparison.now) (g.C.Comparison.constant c.args.rules.now.comparison.now) (g.I.Index.live c.args.rules.now.index.now) (g.met.I.Index.rising c.args.rules.now.index.now) c.args.list.now c.requires.whole c.args.self.now.opened.items c.args.redex c.requires.stops c.in_default.ensures

pub overflow_sub-list : goal.overflow_sub-list
overflow_sub-list g c = let h = within (g.C.Comparison.greater c.args.rules.now.comparison.now) (g.C.Comparison.constant c.args.rules.now.comparison.now) (g.I.Index.live c.args.rules.now.index.now) (g.met.I.Index.rising c.args.rules.now.index.now) c.args.list.now c.requires.whole c.args.self.now.opened.items c.args.redex c.requires.stops in omega arith

pub returns-then-list-redex-gt-MAX_NODES-clause-step : goal.returns-then-list-redex-gt-MAX_NODES-clause-step
returns-then-list-redex-gt-MAX_NODES-clause-step g c =
    let n = nodes_are (g.C.Comparison.greater c.args.rules.now.comparison.now) (g.C.Comparison.constant c.args.rules.now.comparison.now) (g.I.Index.live c.args.rules.now.index.now) (g.met.I.Index.rising c.args.rules.now.index.now) c.args.list.now c.requires.whole c.args.self.now.opened.items c.args.redex c.requires.stops c.in-Some.from.now c.in-Some.to.now c.in-Some.ensures c.in_ok-part.part.items (c.in_ok-part.ensures.nodes ∙ ap flat (ap₂ (λ k z. apply (completed k c.args.redex.found.subst) z) c.least-least.ensures c.as_nodes.ensures.tree)) in
    let k = c.len.ensures in
    let h = c.if-list-redex-gt-MAX_NODES.true in
    large (g.C.Comparison.greater c.args.rules.now.comparison.now) (g.C.Comparison.constant c.args.rules.now.comparison.now) (g.I.Index.live c.args.rules.now.index.now) (g.met.I.Index.rising c.args.rules.now.index.now) c.args.list.now c.requires.whole c.args.self.now.opened.items c.args.redex c.requires.stops c.in-Some.from.now c.in-Some.to.now c.in-Some.ensures c.in_ok-part.part.items (c.in_ok-part.ensures.nodes ∙ ap flat (ap₂ (λ k z. apply (completed k c.args.redex.found.subst) z) c.least-least.ensures c.as_nodes.ensures.tree)) (omega arith)

pub replaced-requires-clause-within : goal.replaced-requires-clause-within
replaced-requires-clause-within g c = within (g.C.Comparison.greater c.args.rules.now.comparison.now) (g.C.Comparison.constant c.args.rules.now.comparison.now) (g.I.Index.live c.args.rules.now.index.now) (g.met.I.Index.rising c.args.rules.now.index.now) c.args.list.now c.requires.whole c.args.self.now.opened.items c.args.redex c.requires.stops

pub replaced-requires-clause-whole : goal.replaced-requires-clause-whole
replaced-requires-clause-whole g c = whole_flat (take c.args.redex.from c.args.list.now ++ c.as_slice.result.now ++ drop c.args.redex.to c.args.list.now) (whole_term (g.C.Comparison.greater c.args.rules.now.comparison.now) (g.C.Comparison.constant c.args.rules.now.comparison.now) (g.I.Index.live c.args.rules.now.index.now) (g.met.I.Index.rising c.args.rules.now.index.now) c.args.list.now c.requires.whole c.args.self.now.opened.items c.args.redex c.requires.stops c.in-Some.from.now c.in-Some.to.now c.in-Some.ensures c.in_ok-part.part.items (c.in_ok-part.ensures.nodes ∙ ap flat (ap₂ (λ k z. apply (completed k c.args.redex.found.subst) z) c.least-least.ensures c.as_nodes.ensures.tree))) (ap (λ p. take c.args.redex.from c.args.list.now ++ p ++ drop c.args.redex.to c.args.list.now) c.as_slice.ensures.value ∙ list_is (g.C.Comparison.greater c.args.rules.now.comparison.now) (g.C.Comparison.constant c.args.rules.now.comparison.now) (g.I.Index.live c.args.rules.now.index.now) (g.met.I.Index.rising c.args.rules.now.index.now) c.args.list.now c.requires.whole c.args.self.now.opened.items c.args.redex c.requires.stops c.in-Some.from.now c.in-Some.to.now c.in-Some.ensures c.in_ok-part.part.items (c.in_ok-part.ensures.nodes ∙ ap flat (ap₂ (λ k z. apply (completed k c.args.redex.found.subst) z) c.least-least.ensures c.as_nodes.ensures.tree)))

pub replaced-requires-clause-small : goal.replaced-requires-clause-small
replaced-requires-clause-small g c =
    let n = nodes_are (g.C.Comparison.greater c.args.rules.now.comparison.now) (g.C.Comparison.constant c.args.rules.now.comparison.now) (g.I.Index.live c.args.rules.now.index.now) (g.met.I.Index.rising c.args.rules.now.index.now) c.args.list.now c.requires.whole c.args.self.now.opened.items c.args.redex c.requires.stops c.in-Some.from.now c.in-Some.to.now c.in-Some.ensures c.in_ok-part.part.items (c.in_ok-part.ensures.nodes ∙ ap flat (ap₂ (λ k z. apply (completed k c.args.redex.found.subst) z) c.least-least.ensures c.as_nodes.ensures.tree)) in
    let k = c.len.ensures in
    let h = c.if-list-redex-gt-MAX_NODES.false in
    let e = ap length (ap (λ p. take c.args.redex.from c.args.list.now ++ p ++ drop c.args.redex.to c.args.list.now) c.as_slice.ensures.value ∙ list_is (g.C.Comparison.greater c.args.rules.now.comparison.now) (g.C.Comparison.constant c.args.rules.now.comparison.now) (g.I.Index.live c.args.rules.now.index.now) (g.met.I.Index.rising c.args.rules.now.index.now) c.args.list.now c.requires.whole c.args.self.now.opened.items c.args.redex c.requires.stops c.in-Some.from.now c.in-Some.to.now c.in-Some.ensures c.in_ok-part.part.items (c.in_ok-part.ensures.nodes ∙ ap flat (ap₂ (λ k z. apply (completed k c.args.redex.found.subst) z) c.least-least.ensures c.as_nodes.ensures.tree))) in
    let f = length-flat (whole_term (g.C.Comparison.greater c.args.rules.now.comparison.now) (g.C.Comparison.constant c.args.rules.now.comparison.now) (g.I.Index.live c.args.rules.now.index.now) (g.met.I.Index.rising c.args.rules.now.index.now) c.args.list.now c.requires.whole c.args.self.now.opened.items c.args.redex c.requires.stops c.in-Some.from.now c.in-Some.to.now c.in-Some.ensures c.in_ok-part.part.items (c.in_ok-part.ensures.nodes ∙ ap flat (ap₂ (λ k z. apply (completed k c.args.redex.found.subst) z) c.least-least.ensures c.as_nodes.ensures.tree))) in
    omega arith

pub go_in-requires : goal.go_in-requires
go_in-requires g c = record { within = inside_new (g.C.Comparison.greater c.args.rules.now.comparison.now) (g.C.Comparison.constant c.args.rules.now.comparison.now) (g.I.Index.live c.args.rules.now.index.now) (g.met.I.Index.rising c.args.rules.now.index.now) c.args.list.now c.requires.whole c.args.self.now.opened.items c.args.redex c.requires.stops c.in-Some.from.now c.in-Some.to.now c.in-Some.ensures c.in_ok-part.part.items (c.in_ok-part.ensures.nodes ∙ ap flat (ap₂ (λ k z. apply (completed k c.args.redex.found.subst) z) c.least-least.ensures c.as_nodes.ensures.tree)) c.as_nodes-2.result.now (c.as_nodes-2.ensures.value ∙ ap flat (c.in_ok-new.ensures ∙ tree_flat (take c.args.redex.from c.args.list.now ++ c.as_slice.result.now ++ drop c.args.redex.to c.args.list.now) (whole_term (g.C.Comparison.greater c.args.rules.now.comparison.now) (g.C.Comparison.constant c.args.rules.now.comparison.now) (g.I.Index.live c.args.rules.now.index.now) (g.met.I.Index.rising c.args.rules.now.index.now) c.args.list.now c.requires.whole c.args.self.now.opened.items c.args.redex c.requires.stops c.in-Some.from.now c.in-Some.to.now c.in-Some.ensures c.in_ok-part.part.items (c.in_ok-part.ensures.nodes ∙ ap flat (ap₂ (λ k z. apply (completed k c.args.redex.found.subst) z) c.least-least.ensures c.as_nodes.ensures.tree))) (ap (λ p. take c.args.redex.from c.args.list.now ++ p ++ drop c.args.redex.to c.args.list.now) c.as_slice.ensures.value ∙ list_is (g.C.Comparison.greater c.args.rules.now.comparison.now) (g.C.Comparison.constant c.args.rules.now.comparison.now) (g.I.Index.live c.args.rules.now.index.now) (g.met.I.Index.rising c.args.rules.now.index.now) c.args.list.now c.requires.whole c.args.self.now.opened.items c.args.redex c.requires.stops c.in-Some.from.now c.in-Some.to.now c.in-Some.ensures c.in_ok-part.part.items (c.in_ok-part.ensures.nodes ∙ ap flat (ap₂ (λ k z. apply (completed k c.args.redex.found.subst) z) c.least-least.ensures c.as_nodes.ensures.tree))))); end = (let n = inside_end (g.C.Comparison.greater c.args.rules.now.comparison.now) (g.C.Comparison.constant c.args.rules.now.comparison.now) (g.I.Index.live c.args.rules.now.index.now) (g.met.I.Index.rising c.args.rules.now.index.now) c.args.list.now c.requires.whole c.args.self.now.opened.items c.args.redex c.requires.stops c.in-Some.from.now c.in-Some.to.now c.in-Some.ensures c.in_ok-part.part.items (c.in_ok-part.ensures.nodes ∙ ap flat (ap₂ (λ k z. apply (completed k c.args.redex.found.subst) z) c.least-least.ensures c.as_nodes.ensures.tree)) c.as_nodes-2.result.now (c.as_nodes-2.ensures.value ∙ ap flat (c.in_ok-new.ensures ∙ tree_flat (take c.args.redex.from c.args.list.now ++ c.as_slice.result.now ++ drop c.args.redex.to c.args.list.now) (whole_term (g.C.Comparison.greater c.args.rules.now.comparison.now) (g.C.Comparison.constant c.args.rules.now.comparison.now) (g.I.Index.live c.args.rules.now.index.now) (g.met.I.Index.rising c.args.rules.now.index.now) c.args.list.now c.requires.whole c.args.self.now.opened.items c.args.redex c.requires.stops c.in-Some.from.now c.in-Some.to.now c.in-Some.ensures c.in_ok-part.part.items (c.in_ok-part.ensures.nodes ∙ ap flat (ap₂ (λ k z. apply (completed k c.args.redex.found.subst) z) c.least-least.ensures c.as_nodes.ensures.tree))) (ap (λ p. take c.args.redex.from c.args.list.now ++ p ++ drop c.args.redex.to c.args.list.now) c.as_slice.ensures.value ∙ list_is (g.C.Comparison.greater c.args.rules.now.comparison.now) (g.C.Comparison.constant c.args.rules.now.comparison.now) (g.I.Index.live c.args.rules.now.index.now) (g.met.I.Index.rising c.args.rules.now.index.now) c.args.list.now c.requires.whole c.args.self.now.opened.items c.args.redex c.requires.stops c.in-Some.from.now c.in-Some.to.now c.in-Some.ensures c.in_ok-part.part.items (c.in_ok-part.ensures.nodes ∙ ap flat (ap₂ (λ k z. apply (completed k c.args.redex.found.subst) z) c.least-least.ensures c.as_nodes.ensures.tree))))) in omega arith) }

pub overflow_add-end : goal.overflow_add-end
overflow_add-end g c =
    let h = small_place (g.C.Comparison.greater c.args.rules.now.comparison.now) (g.C.Comparison.constant c.args.rules.now.comparison.now) (g.I.Index.live c.args.rules.now.index.now) (g.met.I.Index.rising c.args.rules.now.index.now) c.args.list.now c.requires.whole c.args.self.now.opened.items c.args.redex c.requires.stops c.in-Some.from.now c.in-Some.to.now c.in-Some.ensures c.in_ok-part.part.items (c.in_ok-part.ensures.nodes ∙ ap flat (ap₂ (λ k z. apply (completed k c.args.redex.found.subst) z) c.least-least.ensures c.as_nodes.ensures.tree)) in
    let k = c.requires.small in
    let n = c.len-2.ensures in
    let m = c.in_ok-part.ensures.small in
    omega arith

pub overflow_cast-step : goal.overflow_cast-step
overflow_cast-step g c =
    let h = small_place (g.C.Comparison.greater c.args.rules.now.comparison.now) (g.C.Comparison.constant c.args.rules.now.comparison.now) (g.I.Index.live c.args.rules.now.index.now) (g.met.I.Index.rising c.args.rules.now.index.now) c.args.list.now c.requires.whole c.args.self.now.opened.items c.args.redex c.requires.stops c.in-Some.from.now c.in-Some.to.now c.in-Some.ensures c.in_ok-part.part.items (c.in_ok-part.ensures.nodes ∙ ap flat (ap₂ (λ k z. apply (completed k c.args.redex.found.subst) z) c.least-least.ensures c.as_nodes.ensures.tree)) in
    let k = c.requires.small in
    omega arith

pub returns-clause-kept : goal.returns-clause-kept
returns-clause-kept g c = still_kept (g.C.Comparison.greater c.args.rules.now.comparison.now) (g.C.Comparison.constant c.args.rules.now.comparison.now) (g.I.Index.live c.args.rules.now.index.now) (g.met.I.Index.rising c.args.rules.now.index.now) c.args.list.now c.args.self.now.opened.items c.args.redex c.requires.stops c.in-Some.from.now c.in-Some.to.now c.in-Some.ensures _ _ _ _ _ _ _ c.go_in.new.self.kept.items c.requires.kept c.in_ok-go_in.ensures

pub returns-clause-step : goal.returns-clause-step
returns-clause-step g c =
    let n = nodes_are (g.C.Comparison.greater c.args.rules.now.comparison.now) (g.C.Comparison.constant c.args.rules.now.comparison.now) (g.I.Index.live c.args.rules.now.index.now) (g.met.I.Index.rising c.args.rules.now.index.now) c.args.list.now c.requires.whole c.args.self.now.opened.items c.args.redex c.requires.stops c.in-Some.from.now c.in-Some.to.now c.in-Some.ensures c.in_ok-part.part.items (c.in_ok-part.ensures.nodes ∙ ap flat (ap₂ (λ k z. apply (completed k c.args.redex.found.subst) z) c.least-least.ensures c.as_nodes.ensures.tree)) in
    let k = c.len.ensures in
    let h = c.if-list-redex-gt-MAX_NODES.false in
    subst (λ b. Steps (g.C.Comparison.greater c.args.rules.now.comparison.now) (g.C.Comparison.constant c.args.rules.now.comparison.now) (g.I.Index.live c.args.rules.now.index.now) (tree_of c.args.list.now) (record { by = Fact c.args.redex.found.fact; left_to_right = b; position = record { 0 = c.args.redex.from }; to = c.in_ok-new.new }) c.go_in.new.self.opened.items c.go_in.new.self.place) (sym c.is_left.ensures) (steps (g.C.Comparison.greater c.args.rules.now.comparison.now) (g.C.Comparison.constant c.args.rules.now.comparison.now) (g.I.Index.live c.args.rules.now.index.now) (g.met.I.Index.rising c.args.rules.now.index.now) c.args.list.now c.requires.whole c.args.self.now.opened.items c.args.redex c.requires.stops c.in-Some.from.now c.in-Some.to.now c.in-Some.ensures c.in_ok-part.part.items (c.in_ok-part.ensures.nodes ∙ ap flat (ap₂ (λ k z. apply (completed k c.args.redex.found.subst) z) c.least-least.ensures c.as_nodes.ensures.tree)) (omega arith) c.as_nodes-2.result.now (c.as_nodes-2.ensures.value ∙ ap flat (c.in_ok-new.ensures ∙ tree_flat (take c.args.redex.from c.args.list.now ++ c.as_slice.result.now ++ drop c.args.redex.to c.args.list.now) (whole_term (g.C.Comparison.greater c.args.rules.now.comparison.now) (g.C.Comparison.constant c.args.rules.now.comparison.now) (g.I.Index.live c.args.rules.now.index.now) (g.met.I.Index.rising c.args.rules.now.index.now) c.args.list.now c.requires.whole c.args.self.now.opened.items c.args.redex c.requires.stops c.in-Some.from.now c.in-Some.to.now c.in-Some.ensures c.in_ok-part.part.items (c.in_ok-part.ensures.nodes ∙ ap flat (ap₂ (λ k z. apply (completed k c.args.redex.found.subst) z) c.least-least.ensures c.as_nodes.ensures.tree))) (ap (λ p. take c.args.redex.from c.args.list.now ++ p ++ drop c.args.redex.to c.args.list.now) c.as_slice.ensures.value ∙ list_is (g.C.Comparison.greater c.args.rules.now.comparison.now) (g.C.Comparison.constant c.args.rules.now.comparison.now) (g.I.Index.live c.args.rules.now.index.now) (g.met.I.Index.rising c.args.rules.now.index.now) c.args.list.now c.requires.whole c.args.self.now.opened.items c.args.redex c.requires.stops c.in-Some.from.now c.in-Some.to.now c.in-Some.ensures c.in_ok-part.part.items (c.in_ok-part.ensures.nodes ∙ ap flat (ap₂ (λ k z. apply (completed k c.args.redex.found.subst) z) c.least-least.ensures c.as_nodes.ensures.tree))))) (c.args.redex.from + c.len-2.result) (let e = c.len-2.ensures in omega arith) _ _ c.go_in.new.self.opened.items c.go_in.new.self.place c.in_ok-go_in.ensures c.in_ok-new.new (c.in_ok-new.ensures ∙ tree_flat (take c.args.redex.from c.args.list.now ++ c.as_slice.result.now ++ drop c.args.redex.to c.args.list.now) (whole_term (g.C.Comparison.greater c.args.rules.now.comparison.now) (g.C.Comparison.constant c.args.rules.now.comparison.now) (g.I.Index.live c.args.rules.now.index.now) (g.met.I.Index.rising c.args.rules.now.index.now) c.args.list.now c.requires.whole c.args.self.now.opened.items c.args.redex c.requires.stops c.in-Some.from.now c.in-Some.to.now c.in-Some.ensures c.in_ok-part.part.items (c.in_ok-part.ensures.nodes ∙ ap flat (ap₂ (λ k z. apply (completed k c.args.redex.found.subst) z) c.least-least.ensures c.as_nodes.ensures.tree))) (ap (λ p. take c.args.redex.from c.args.list.now ++ p ++ drop c.args.redex.to c.args.list.now) c.as_slice.ensures.value ∙ list_is (g.C.Comparison.greater c.args.rules.now.comparison.now) (g.C.Comparison.constant c.args.rules.now.comparison.now) (g.I.Index.live c.args.rules.now.index.now) (g.met.I.Index.rising c.args.rules.now.index.now) c.args.list.now c.requires.whole c.args.self.now.opened.items c.args.redex c.requires.stops c.in-Some.from.now c.in-Some.to.now c.in-Some.ensures c.in_ok-part.part.items (c.in_ok-part.ensures.nodes ∙ ap flat (ap₂ (λ k z. apply (completed k c.args.redex.found.subst) z) c.least-least.ensures c.as_nodes.ensures.tree)))))
