use Rattle.std.proofs.Common.{◌≡◌, ◌∙◌, ℕ, ◌++◌, List, [], ◌∷◌, Bool, true, false, length, refl, sym, subst, arith, ap}
use Rattle.uc_term.specs.declared.node.Node.{Node}
use Rattle.uc_unify.specs.Forest.{IsForest, IsUnited}
use Rattle.uc_unify.proofs.Closing.{joining_starts, joining_goes_on, joining_ends, closing_fails, pair_in}
use Rattle.uc_unify.proofs.closure.closure.Goals as goal

pub loop-p-init : goal.loop-p-init
loop-p-init c = joining_starts c.args.nodes.now c.first_places.new.firsts.items c.in_ok-first_places.ensures c.args.second c.extend_from_slice.new.self.items c.push.new.self.items c.requires.within (c.in_ok-extend_from_slice.ensures.items ∙ rw (c.clear.ensures.items, c.as_slice.ensures.value) refl) (c.in_ok-push.ensures.items ∙ ap (λ l. l ++ (c.args.second, 0) ∷ []) c.clear-2.ensures.items)

pub unite-requires-clause-pairs : goal.unite-requires-clause-pairs
unite-requires-clause-pairs c = (pair_in c.args.nodes.now c.args.second c.loop-p.invariant.classes c.pop.new.self.items c.loop-p.pairs.items c.in-Some.p c.in-Some.q c.in-Some.ensures.items c.loop-p.invariant.closing).0

pub unite-requires-clause-p : goal.unite-requires-clause-p
unite-requires-clause-p c = (pair_in c.args.nodes.now c.args.second c.loop-p.invariant.classes c.pop.new.self.items c.loop-p.pairs.items c.in-Some.p c.in-Some.q c.in-Some.ensures.items c.loop-p.invariant.closing).1.0

pub unite-requires-clause-q : goal.unite-requires-clause-q
unite-requires-clause-q c = (pair_in c.args.nodes.now c.args.second c.loop-p.invariant.classes c.pop.new.self.items c.loop-p.pairs.items c.in-Some.p c.in-Some.q c.in-Some.ensures.items c.loop-p.invariant.closing).1.1

-- what the pair has come to
united : (ns : List Node) (classes : List ℕ) (pairs : List (ℕ × ℕ)) (parents heads : List ℕ) (new_pairs : List (ℕ × ℕ)) (b d : Bool) → b ≡ d → IsUnited ns classes pairs parents heads new_pairs b → IsUnited ns classes pairs parents heads new_pairs d
united ns classes pairs parents heads new_pairs b d e u = subst (IsUnited ns classes pairs parents heads new_pairs) e u

pub returns-then-not-branch : goal.returns-then-not-branch
returns-then-not-branch c =
    let u = c.in_ok-unite.ensures.united c.loop-p.invariant.classes c.loop-p.invariant.closing.are_classes c.loop-p.invariant.forest in
    closing_fails c.args.nodes.now c.args.second c.loop-p.invariant.classes c.pop.new.self.items c.loop-p.pairs.items c.in-Some.p c.in-Some.q c.in-Some.ensures.items c.loop-p.invariant.closing (united c.args.nodes.now c.loop-p.invariant.classes _ _ _ _ _ false c.if-not-branch.true u)

pub loop-p-preserved : goal.loop-p-preserved
loop-p-preserved c =
    let u = c.in_ok-unite.ensures.united c.loop-p.invariant.classes c.loop-p.invariant.closing.are_classes c.loop-p.invariant.forest in
    joining_goes_on c.args.nodes.now c.args.second c.loop-p.parents.items c.loop-p.heads.items c.unite.new.parents.items c.unite.new.heads.items c.pop.new.self.items c.loop-p.pairs.items c.unite.new.pairs.items c.in-Some.p c.in-Some.q c.in-Some.ensures.items c.loop-p.invariant (united c.args.nodes.now c.loop-p.invariant.classes _ _ _ _ _ true c.if-not-branch.false u)

none_left : (pairs : List (ℕ × ℕ)) → length pairs ≡ 0 → pairs ≡ []
none_left [] e = refl
none_left (p ∷ ps) e = absurd (omega arith)

pub returns : goal.returns
returns c =
    let forest = subst (λ (ps : List ℕ). IsForest ps c.loop-p.heads.items c.loop-p.invariant.classes) (sym c.as_slice-2.ensures.value) c.loop-p.invariant.forest in
    joining_ends c.args.nodes.now c.args.second c.loop-p.parents.items c.loop-p.heads.items c.settle.new.heads.items c.loop-p.pairs.items (none_left c.loop-p.pairs.items (omega (arith, c.in_default.ensures.cases.0, c.loop-p.pairs.ok.0))) c.loop-p.invariant (c.settle.ensures c.loop-p.invariant.classes forest)
