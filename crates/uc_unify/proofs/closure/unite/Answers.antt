use Rattle.std.proofs.Common.{◌≡◌, Bool, true, false, IsTrue, List, ℕ, refl, arith}
use Rattle.uc_unify.specs.Forest.{AreSameTrees, IsRootOf}
use Rattle.uc_unify.proofs.Relabel.{arguments_a, arguments_b}
use Rattle.uc_unify.proofs.Uniting.{AreFound, united_same, united_left, united_right, united_both, clashing, less, less_both, s_is, t_is, t_in}
use Rattle.uc_unify.proofs.closure.unite.Goals as goal

found : {old mid now : List ℕ} {p q a b : ℕ} → AreSameTrees old mid → IsRootOf old mid p a → AreSameTrees mid now → IsRootOf mid now q b → AreFound old mid now p q a b
found s r t u = record { first = s; first_root = r; then = t; then_root = u }

holds : {A : Type 0} (b : Bool) → b ≡ true → (IsTrue b → A) → A
holds true e h = h refl
holds false e h = absurd cc

fails : {A : Type 0} (b : Bool) → b ≡ false → (A → IsTrue b) → A → ⊥
fails true e h a = cc
fails false e h a = let x : IsTrue false = h a in cc

pub returns-then-a-b-clause-united : goal.returns-then-a-b-clause-united
returns-then-a-b-clause-united c = λ classes k f. united_same c.args.parents.now.items c.find-a.new.parents.items c.find-b.new.parents.items c.args.p c.args.q c.find-a.result c.find-b.result (found c.find-a.ensures.same c.find-a.ensures.root c.find-b.ensures.same c.find-b.ensures.root) c.args.nodes.now c.args.heads.now.items c.requires.p c.requires.q classes k f c.if-a-b.true c.args.pairs.now.items c.requires.pairs

pub offset_bounds-nodes-t : goal.offset_bounds-nodes-t
offset_bounds-nodes-t c = let h = t_in c.args.parents.now.items c.find-a.new.parents.items c.find-b.new.parents.items c.args.p c.args.q c.find-a.result c.find-b.result (found c.find-a.ensures.same c.find-a.ensures.root c.find-b.ensures.same c.find-b.ensures.root) c.args.nodes.now c.args.heads.now.items c.requires.p c.requires.q c.requires.forest.classes c.requires.forest.are_classes c.requires.forest.forest c.index-s.result.now c.index-t.result.now c.index-s.ensures c.index-t.ensures in omega (arith, c.requires.small)

pub push_arguments-requires-clause-left : goal.push_arguments-requires-clause-left
push_arguments-requires-clause-left c = arguments_a c.args.nodes.now c.requires.forest.classes c.args.pairs.now.items c.args.p c.args.q c.requires.forest.are_classes c.requires.pairs c.requires.p c.requires.q c.index-s.result.now c.index-t.result.now (s_is c.args.parents.now.items c.find-a.new.parents.items c.find-b.new.parents.items c.args.p c.args.q c.find-a.result c.find-b.result (found c.find-a.ensures.same c.find-a.ensures.root c.find-b.ensures.same c.find-b.ensures.root) c.args.nodes.now c.args.heads.now.items c.requires.p c.requires.q c.requires.forest.classes c.requires.forest.are_classes c.requires.forest.forest c.index-s.result.now c.index-t.result.now c.index-s.ensures c.index-t.ensures) (t_is c.args.parents.now.items c.find-a.new.parents.items c.find-b.new.parents.items c.args.p c.args.q c.find-a.result c.find-b.result (found c.find-a.ensures.same c.find-a.ensures.root c.find-b.ensures.same c.find-b.ensures.root) c.args.nodes.now c.args.heads.now.items c.requires.p c.requires.q c.requires.forest.classes c.requires.forest.are_classes c.requires.forest.forest c.index-s.result.now c.index-t.result.now c.index-s.ensures c.index-t.ensures) c.in-App-default.f c.in-App-default.n _ c.in-App-default.is-0

pub push_arguments-requires-clause-right : goal.push_arguments-requires-clause-right
push_arguments-requires-clause-right c = arguments_b c.args.nodes.now c.requires.forest.classes c.args.pairs.now.items c.args.p c.args.q c.requires.forest.are_classes c.requires.pairs c.requires.p c.requires.q c.index-s.result.now c.index-t.result.now (s_is c.args.parents.now.items c.find-a.new.parents.items c.find-b.new.parents.items c.args.p c.args.q c.find-a.result c.find-b.result (found c.find-a.ensures.same c.find-a.ensures.root c.find-b.ensures.same c.find-b.ensures.root) c.args.nodes.now c.args.heads.now.items c.requires.p c.requires.q c.requires.forest.classes c.requires.forest.are_classes c.requires.forest.forest c.index-s.result.now c.index-t.result.now c.index-s.ensures c.index-t.ensures) (t_is c.args.parents.now.items c.find-a.new.parents.items c.find-b.new.parents.items c.args.p c.args.q c.find-a.result c.find-b.result (found c.find-a.ensures.same c.find-a.ensures.root c.find-b.ensures.same c.find-b.ensures.root) c.args.nodes.now c.args.heads.now.items c.requires.p c.requires.q c.requires.forest.classes c.requires.forest.are_classes c.requires.forest.forest c.index-s.result.now c.index-t.result.now c.index-s.ensures c.index-t.ensures) c.in-App-default.f c.in-App-default.n _ (holds c.is_head.result c.if-not-is_head.false c.is_head.ensures.0)

pub returns-then-not-is_head-clause-united : goal.returns-then-not-is_head-clause-united
returns-then-not-is_head-clause-united c = λ classes k f. clashing c.args.parents.now.items c.find-a.new.parents.items c.find-b.new.parents.items c.args.p c.args.q c.find-a.result c.find-b.result (found c.find-a.ensures.same c.find-a.ensures.root c.find-b.ensures.same c.find-b.ensures.root) c.args.nodes.now c.args.heads.now.items c.requires.p c.requires.q classes k f c.index-s.result.now c.index-t.result.now c.index-s.ensures c.index-t.ensures c.args.pairs.now.items c.requires.pairs c.requires.whole c.in-App-default.f c.in-App-default.n _ c.in-App-default.is-0 c.in-App-default.not-Var-1 (fails c.is_head.result c.if-not-is_head.true c.is_head.ensures.1)

pub returns-in-Var-default-clause-united : goal.returns-in-Var-default-clause-united
returns-in-Var-default-clause-united c = λ classes k f. united_left c.args.parents.now.items c.find-a.new.parents.items c.find-b.new.parents.items c.args.p c.args.q c.find-a.result c.find-b.result (found c.find-a.ensures.same c.find-a.ensures.root c.find-b.ensures.same c.find-b.ensures.root) c.args.nodes.now c.args.heads.now.items c.requires.p c.requires.q classes k f c.index-s.result.now c.index-t.result.now c.index-s.ensures c.index-t.ensures c.args.pairs.now.items c.requires.pairs c.if-a-b.false c.link.new.parents.items c.link.new.heads.items c.link.ensures.parents c.in-Var-default.field-0-0 _ c.in-Var-default.is-0 c.link.ensures.heads

pub returns-in-Var-default-clause-less : goal.returns-in-Var-default-clause-less
returns-in-Var-default-clause-less c = less c.args.parents.now.items c.find-a.new.parents.items c.find-b.new.parents.items c.args.p c.args.q c.find-a.result c.find-b.result (found c.find-a.ensures.same c.find-a.ensures.root c.find-b.ensures.same c.find-b.ensures.root) c.if-a-b.false c.link.new.parents.items c.link.ensures.parents c.args.pairs.now.items

pub returns-in_default-Var-clause-united : goal.returns-in_default-Var-clause-united
returns-in_default-Var-clause-united c = λ classes k f. united_right c.args.parents.now.items c.find-a.new.parents.items c.find-b.new.parents.items c.args.p c.args.q c.find-a.result c.find-b.result (found c.find-a.ensures.same c.find-a.ensures.root c.find-b.ensures.same c.find-b.ensures.root) c.args.nodes.now c.args.heads.now.items c.requires.p c.requires.q classes k f c.index-s.result.now c.index-t.result.now c.index-s.ensures c.index-t.ensures c.args.pairs.now.items c.requires.pairs c.if-a-b.false c.link-in_default-Var.new.parents.items c.link-in_default-Var.new.heads.items c.link-in_default-Var.ensures.parents c.in_default-Var.field-0-1 _ c.in_default-Var.is-1 c.link-in_default-Var.ensures.heads

pub returns-in_default-Var-clause-less : goal.returns-in_default-Var-clause-less
returns-in_default-Var-clause-less c = less c.args.parents.now.items c.find-a.new.parents.items c.find-b.new.parents.items c.args.p c.args.q c.find-a.result c.find-b.result (found c.find-a.ensures.same c.find-a.ensures.root c.find-b.ensures.same c.find-b.ensures.root) c.if-a-b.false c.link-in_default-Var.new.parents.items c.link-in_default-Var.ensures.parents c.args.pairs.now.items

pub returns-in_ok-push_arguments-in-App-default-clause-united : goal.returns-in_ok-push_arguments-in-App-default-clause-united
returns-in_ok-push_arguments-in-App-default-clause-united c = λ classes k f. united_both c.args.parents.now.items c.find-a.new.parents.items c.find-b.new.parents.items c.args.p c.args.q c.find-a.result c.find-b.result (found c.find-a.ensures.same c.find-a.ensures.root c.find-b.ensures.same c.find-b.ensures.root) c.args.nodes.now c.args.heads.now.items c.requires.p c.requires.q classes k f c.index-s.result.now c.index-t.result.now c.index-s.ensures c.index-t.ensures c.args.pairs.now.items c.requires.pairs c.if-a-b.false c.link-in-App-default.new.parents.items c.link-in-App-default.new.heads.items c.link-in-App-default.ensures.parents c.requires.whole c.in-App-default.f c.in-App-default.n _ c.in-App-default.is-0 (holds c.is_head.result c.if-not-is_head.false c.is_head.ensures.0) c.push_arguments.new.pairs.items c.in_ok-push_arguments-in-App-default.ensures c.link-in-App-default.ensures.heads

pub returns-in_ok-push_arguments-in-App-default-clause-less : goal.returns-in_ok-push_arguments-in-App-default-clause-less
returns-in_ok-push_arguments-in-App-default-clause-less c = less_both c.args.parents.now.items c.find-a.new.parents.items c.find-b.new.parents.items c.args.p c.args.q c.find-a.result c.find-b.result (found c.find-a.ensures.same c.find-a.ensures.root c.find-b.ensures.same c.find-b.ensures.root) c.if-a-b.false c.link-in-App-default.new.parents.items c.link-in-App-default.ensures.parents c.args.pairs.now.items c.push_arguments.new.pairs.items c.args.nodes.now c.index-s.result.now c.index-t.result.now c.in-App-default.n c.requires.whole c.requires.small (arguments_a c.args.nodes.now c.requires.forest.classes c.args.pairs.now.items c.args.p c.args.q c.requires.forest.are_classes c.requires.pairs c.requires.p c.requires.q c.index-s.result.now c.index-t.result.now (s_is c.args.parents.now.items c.find-a.new.parents.items c.find-b.new.parents.items c.args.p c.args.q c.find-a.result c.find-b.result (found c.find-a.ensures.same c.find-a.ensures.root c.find-b.ensures.same c.find-b.ensures.root) c.args.nodes.now c.args.heads.now.items c.requires.p c.requires.q c.requires.forest.classes c.requires.forest.are_classes c.requires.forest.forest c.index-s.result.now c.index-t.result.now c.index-s.ensures c.index-t.ensures) (t_is c.args.parents.now.items c.find-a.new.parents.items c.find-b.new.parents.items c.args.p c.args.q c.find-a.result c.find-b.result (found c.find-a.ensures.same c.find-a.ensures.root c.find-b.ensures.same c.find-b.ensures.root) c.args.nodes.now c.args.heads.now.items c.requires.p c.requires.q c.requires.forest.classes c.requires.forest.are_classes c.requires.forest.forest c.index-s.result.now c.index-t.result.now c.index-s.ensures c.index-t.ensures) c.in-App-default.f c.in-App-default.n _ c.in-App-default.is-0) c.in_ok-push_arguments-in-App-default.ensures
