use Rattle.std.proofs.Common.{arith, ◌≡◌, ◌+◌, ◌-◌, ◌<◌, ◌++◌, ℕ, Bool, List, [], length, take, drop, true, false, Result, Ok, Err, IfOk}
use Rattle.std.proofs.lemmas.Grind.{common_steps}
use Rattle.std.specs.List.{flat_map}
use Rattle.uc_term.specs.declared.node.Node.{Node}
use Rattle.uc_term.specs.Tree.{Tree, nodes, apply, put}
use Rattle.uc_term.specs.Flat.{flat, tree_of, IsWhole}
use Rattle.uc_term.specs.Code.{tree_of-flat}
use Rattle.uc_term.specs.Subst.{image}
use Rattle.uc_term.proofs.Terms.{whole-flat}
use Rattle.uc_term.proofs.Instances.{node_image}
use Rattle.uc_pair.specs.Judging.{IsFilled, AreAdded}
use Rattle.uc_pair.proofs.Parts.{part_within, part_in_list, part_end}
use Rattle.uc_pair.proofs.Added.{added_behind, added_before, filled_by, images_put}
use Rattle.uc_pair.proofs.instances.fill_put.Goals as goal

if_ok : {A E : Type 0} (P Q : A → Type 0) → ((a : A) → P a → Q a) → (r : Result A E) → IfOk r P → IfOk r Q
if_ok P Q f (Ok a) p = f a p
if_ok P Q f (Err e) p = tt

pub slice_bounds-add_instance-end : goal.slice_bounds-add_instance-end
slice_bounds-add_instance-end c = let h = part_within c.as_nodes-nodes.result.now c.args.term.now c.args.there c.as_nodes-nodes.ensures.whole c.as_nodes-nodes.ensures.tree c.requires in grind (arith, common_steps, h)

pub slice_bounds-add_instance-count : goal.slice_bounds-add_instance-count
slice_bounds-add_instance-count c = part_in_list c.as_nodes-nodes.result.now c.args.term.now c.args.there c.as_nodes-nodes.ensures.whole c.as_nodes-nodes.ensures.tree c.requires

pub slice_bounds-add_instance-start : goal.slice_bounds-add_instance-start
slice_bounds-add_instance-start c = part_in_list c.as_nodes-nodes.result.now c.args.term.now c.args.there c.as_nodes-nodes.ensures.whole c.as_nodes-nodes.ensures.tree c.requires

-- the three parts, one after the other
module _ (σ : ℕ → Tree) (ns ms : List Node) (t u : Tree) (p to : ℕ) (w : IsWhole ns) (is : tree_of ns ≡ t) (v : IsWhole ms) (also : tree_of ms ≡ u) (h : p < nodes t) (end : to ≡ p + nodes (tree_of (drop p ns))) (old : List Node) (empty : old ≡ []) where
  abbrev before : List Node
  before = flat_map (node_image σ) (take p ns)

  abbrev middle : List Node
  middle = flat_map (node_image σ) ms

  abbrev behind : List Node
  behind = flat_map (node_image σ) (take (length ns - to) (drop to ns))

  all_three : (new : List Node) (b : Bool) → AreAdded (before ++ (middle ++ behind)) old new b → IsFilled (apply σ (put t p u)) new b
  all_three new b a = filled_by (apply σ (put t p u)) (before ++ (middle ++ behind)) old new b empty (images_put σ ns ms t u p to w is v also h end) a

  first_large : (new : List Node) (b : Bool) → b ≡ false → AreAdded before old new b → IsFilled (apply σ (put t p u)) new false
  first_large new true e a = absurd cc
  first_large new false e a = all_three new false (added_before before (middle ++ behind) old new a)

  second_large : (mid new : List Node) (a b : Bool) → a ≡ true → b ≡ false → AreAdded before old mid a → AreAdded middle mid new b → IsFilled (apply σ (put t p u)) new false
  second_large mid new false b d e x y = absurd cc
  second_large mid new true true d e x y = absurd cc
  second_large mid new true false d e x y = all_three new false (added_behind before (middle ++ behind) old mid new false x (added_before middle behind mid new y))

  third : (mid next new : List Node) (a b : Bool) → a ≡ true → b ≡ true → AreAdded before old mid a → AreAdded middle mid next b → (b : Bool) → AreAdded behind next new b → IsFilled (apply σ (put t p u)) new b
  third mid next new false b d e x y r z = absurd cc
  third mid next new true false d e x y r z = absurd cc
  third mid next new true true d e x y r z = all_three new r (added_behind before (middle ++ behind) old mid new r x (added_behind middle behind mid next new r y z))

pub returns-then-not-branch : goal.returns-then-not-branch
returns-then-not-branch c = first_large (image c.args.subst.now) c.as_nodes-nodes.result.now (flat c.args.part.now) c.args.term.now c.args.part.now c.args.there.place c.args.there.end c.as_nodes-nodes.ensures.whole c.as_nodes-nodes.ensures.tree (whole-flat c.args.part.now) (tree_of-flat c.args.part.now) c.requires.inside (part_end c.as_nodes-nodes.result.now c.args.term.now c.args.there c.as_nodes-nodes.ensures.whole c.as_nodes-nodes.ensures.tree c.requires) c.clear.new.self.items c.clear.ensures.items c.add_instance.new.list.items c.in_ok-add_instance.field-0 c.if-not-branch.true c.in_ok-add_instance.ensures

pub returns-then-not-branch-2 : goal.returns-then-not-branch-2
returns-then-not-branch-2 c = second_large (image c.args.subst.now) c.as_nodes-nodes.result.now c.as_nodes.result.now c.args.term.now c.args.part.now c.args.there.place c.args.there.end c.as_nodes-nodes.ensures.whole c.as_nodes-nodes.ensures.tree c.as_nodes.ensures.whole c.as_nodes.ensures.tree c.requires.inside (part_end c.as_nodes-nodes.result.now c.args.term.now c.args.there c.as_nodes-nodes.ensures.whole c.as_nodes-nodes.ensures.tree c.requires) c.clear.new.self.items c.clear.ensures.items c.add_instance.new.list.items c.add_instance-2.new.list.items c.in_ok-add_instance.field-0 c.in_ok-add_instance-2.field-0 c.if-not-branch.false c.if-not-branch-2.true c.in_ok-add_instance.ensures c.in_ok-add_instance-2.ensures

pub returns : goal.returns
returns c =
    if_ok _ _
    (third (image c.args.subst.now) c.as_nodes-nodes.result.now c.as_nodes.result.now c.args.term.now c.args.part.now c.args.there.place c.args.there.end c.as_nodes-nodes.ensures.whole c.as_nodes-nodes.ensures.tree c.as_nodes.ensures.whole c.as_nodes.ensures.tree c.requires.inside (part_end c.as_nodes-nodes.result.now c.args.term.now c.args.there c.as_nodes-nodes.ensures.whole c.as_nodes-nodes.ensures.tree c.requires) c.clear.new.self.items c.clear.ensures.items c.add_instance.new.list.items c.add_instance-2.new.list.items c.add_instance-3.new.list.items c.in_ok-add_instance.field-0 c.in_ok-add_instance-2.field-0 c.if-not-branch.false c.if-not-branch-2.false c.in_ok-add_instance.ensures c.in_ok-add_instance-2.ensures)
    c.add_instance-3.result c.add_instance-3.ensures
