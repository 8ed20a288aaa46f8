use Rattle.std.proofs.Common.{◌≡◌, ℕ, ◌+◌, ◌-◌, ◌<◌, List, take, drop, length, Result, Ok, Err, IfOk, arith, subst}
use Rattle.uc_term.specs.declared.node.Node.{Node}
use Rattle.uc_term.specs.Tree.{nodes, subterm}
use Rattle.uc_term.specs.Flat.{tree_of, IsWhole}
use Rattle.uc_term.specs.Subst.{image}
use Rattle.uc_term.proofs.Terms.{whole_one}
use Rattle.uc_unify.specs.declared.unification.Unified.{Unified}
use Rattle.uc_unify.specs.declared.unification.Unified.TheVariants.{Unifier, Apart, TooLarge}
use Rattle.uc_unify.specs.Unifiers.{IsUnified, HasNoUnifier}
use Rattle.uc_fact.specs.Live.{Rule}
use Rattle.uc_pair.specs.declared.instances.RenamedApart.{RenamedApart}
use Rattle.uc_pair.specs.Overlapping.{Overlapping, read_from}
use Rattle.uc_pair.specs.Pairs.{IsPairOf, ReplaysPair}
use Rattle.uc_pair.specs.Reading.{rule_read, AreApart}
use Rattle.uc_pair.specs.Forming.{IsPairByTerms}
use Rattle.uc_pair.proofs.Parts.{part_whole, part_of, within_list, unified_is}
use Rattle.uc_pair.proofs.Judged.{same_size, apart_back, large_formation}
use Rattle.uc_pair.proofs.Paired.{apart_never, formation_by, replays_of}
use Rattle.uc_pair.proofs.pairing.pair_of.Goals as goal

if_ok : {A E : Type 0} (P Q : A → Type 0) → ((a : A) → P a → Q a) → (r : Result A E) → IfOk r P → IfOk r Q
if_ok P Q f (Ok a) p = f a p
if_ok P Q f (Err e) p = tt

-- the rules that were read, with their sides renamed apart
read_apart : (outer inner outer' inner' : Rule) (terms : RenamedApart) → outer' ≡ outer → inner' ≡ inner → AreApart outer' inner' terms → AreApart outer inner terms
read_apart outer inner outer' inner' terms e f x = subst (λ r. AreApart r inner terms) e (subst (λ r. AreApart outer' r terms) f x)

module _ (outer inner : Rule) (place : ℕ) (terms : RenamedApart) (x : AreApart outer inner terms) (o : Overlapping outer inner place) where
  within_renamed : place < nodes terms.outer_from
  within_renamed = omega (arith, o.inside, same_size outer inner place terms x o.inside)

  within : (ns : List Node) → IsWhole ns → tree_of ns ≡ terms.outer_from → place < length ns
  within ns w e = within_list ns terms.outer_from place w e within_renamed

  found : (to : ℕ) (ns ms : List Node) → IsWhole ns → tree_of ns ≡ terms.outer_from → tree_of ms ≡ terms.inner_from → to ≡ place + nodes (tree_of (drop place ns)) → (u v : Unified) → u ≡ v → IsUnified (tree_of (take (to - place) (drop place ns))) (tree_of ms) u → IsUnified (subterm terms.outer_from place) terms.inner_from v
  found to ns ms w e f end u v is i =
      unified_is (tree_of (take (to - place) (drop place ns))) (tree_of ms) (subterm terms.outer_from place) terms.inner_from u v (part_of ns terms.outer_from place to w e (within ns w e) end) f is i

pub end_of-to-requires-clause-whole : goal.end_of-to-requires-clause-whole
end_of-to-requires-clause-whole c = whole_one c.as_nodes-nodes.result.now c.as_nodes-nodes.ensures.whole

pub end_of-to-requires-clause-within : goal.end_of-to-requires-clause-within
end_of-to-requires-clause-within c =
    let outer = read_from c.args.overlap.now.outer c.args.overlap.now.outer_side c.args.a.now in
    let inner = read_from c.args.overlap.now.inner c.args.overlap.now.inner_side c.args.b.now in
    within outer inner c.args.overlap.now.position.0 c.in_ok-terms.terms (read_apart outer inner (rule_read c.new-outer.result) (rule_read c.new-inner.result) c.in_ok-terms.terms c.new-outer.ensures c.new-inner.ensures c.in_ok-terms.ensures) c.requires c.as_nodes-nodes.result.now c.as_nodes-nodes.ensures.whole c.as_nodes-nodes.ensures.tree

pub unify-requires-clause-whole_s : goal.unify-requires-clause-whole_s
unify-requires-clause-whole_s c =
    let outer = read_from c.args.overlap.now.outer c.args.overlap.now.outer_side c.args.a.now in
    let inner = read_from c.args.overlap.now.inner c.args.overlap.now.inner_side c.args.b.now in
    part_whole c.as_nodes-nodes.result.now c.args.overlap.now.position.0 c.end_of-to.result c.as_nodes-nodes.ensures.whole (within outer inner c.args.overlap.now.position.0 c.in_ok-terms.terms (read_apart outer inner (rule_read c.new-outer.result) (rule_read c.new-inner.result) c.in_ok-terms.terms c.new-outer.ensures c.new-inner.ensures c.in_ok-terms.ensures) c.requires c.as_nodes-nodes.result.now c.as_nodes-nodes.ensures.whole c.as_nodes-nodes.ensures.tree) c.end_of-to.ensures.end

pub pair_by-requires : goal.pair_by-requires
pair_by-requires c =
    let outer = read_from c.args.overlap.now.outer c.args.overlap.now.outer_side c.args.a.now in
    let inner = read_from c.args.overlap.now.inner c.args.overlap.now.inner_side c.args.b.now in
    within_renamed outer inner c.args.overlap.now.position.0 c.in_ok-terms.terms (read_apart outer inner (rule_read c.new-outer.result) (rule_read c.new-inner.result) c.in_ok-terms.terms c.new-outer.ensures c.new-inner.ensures c.in_ok-terms.ensures) c.requires

pub returns-in-Unifier-clause-pair : goal.returns-in-Unifier-clause-pair
returns-in-Unifier-clause-pair c =
    let outer = read_from c.args.overlap.now.outer c.args.overlap.now.outer_side c.args.a.now in
    let inner = read_from c.args.overlap.now.inner c.args.overlap.now.inner_side c.args.b.now in
    let x = read_apart outer inner (rule_read c.new-outer.result) (rule_read c.new-inner.result) c.in_ok-terms.terms c.new-outer.ensures c.new-inner.ensures c.in_ok-terms.ensures in
    let unifier = found outer inner c.args.overlap.now.position.0 c.in_ok-terms.terms x c.requires c.end_of-to.result c.as_nodes-nodes.result.now c.as_nodes.result.now c.as_nodes-nodes.ensures.whole c.as_nodes-nodes.ensures.tree c.as_nodes.ensures.tree c.end_of-to.ensures.end c.in_ok-subst.field-0 (Unifier c.in-Unifier.subst) c.in-Unifier.is c.in_ok-subst.ensures in
    if_ok (IsPairByTerms c.args.overlap.now c.in_ok-terms.terms (image c.in-Unifier.subst)) (IsPairOf c.args.a.now c.args.b.now c.args.overlap.now)
    (formation_by outer inner c.args.overlap.now.position.0 c.in_ok-terms.terms x c.requires.inside c.requires.no_variable (image c.in-Unifier.subst) unifier.most_general)
    c.pair_by.result c.pair_by.ensures

pub returns-in-Unifier-clause-replays : goal.returns-in-Unifier-clause-replays
returns-in-Unifier-clause-replays c =
    let outer = read_from c.args.overlap.now.outer c.args.overlap.now.outer_side c.args.a.now in
    let inner = read_from c.args.overlap.now.inner c.args.overlap.now.inner_side c.args.b.now in
    let x = read_apart outer inner (rule_read c.new-outer.result) (rule_read c.new-inner.result) c.in_ok-terms.terms c.new-outer.ensures c.new-inner.ensures c.in_ok-terms.ensures in
    let unifier = found outer inner c.args.overlap.now.position.0 c.in_ok-terms.terms x c.requires c.end_of-to.result c.as_nodes-nodes.result.now c.as_nodes.result.now c.as_nodes-nodes.ensures.whole c.as_nodes-nodes.ensures.tree c.as_nodes.ensures.tree c.end_of-to.ensures.end c.in_ok-subst.field-0 (Unifier c.in-Unifier.subst) c.in-Unifier.is c.in_ok-subst.ensures in
    if_ok (IsPairByTerms c.args.overlap.now c.in_ok-terms.terms (image c.in-Unifier.subst)) (ReplaysPair c.args.a.now c.args.b.now c.args.overlap.now)
    (λ formation by. replays_of c.args.a.now c.args.b.now c.args.overlap.now formation (formation_by outer inner c.args.overlap.now.position.0 c.in_ok-terms.terms x c.requires.inside c.requires.no_variable (image c.in-Unifier.subst) unifier.most_general formation by))
    c.pair_by.result c.pair_by.ensures

pub returns-in-Apart-clause-pair : goal.returns-in-Apart-clause-pair
returns-in-Apart-clause-pair c =
    let outer = read_from c.args.overlap.now.outer c.args.overlap.now.outer_side c.args.a.now in
    let inner = read_from c.args.overlap.now.inner c.args.overlap.now.inner_side c.args.b.now in
    let x = read_apart outer inner (rule_read c.new-outer.result) (rule_read c.new-inner.result) c.in_ok-terms.terms c.new-outer.ensures c.new-inner.ensures c.in_ok-terms.ensures in
    let none : HasNoUnifier (subterm c.in_ok-terms.terms.outer_from c.args.overlap.now.position.0) c.in_ok-terms.terms.inner_from = found outer inner c.args.overlap.now.position.0 c.in_ok-terms.terms x c.requires c.end_of-to.result c.as_nodes-nodes.result.now c.as_nodes.result.now c.as_nodes-nodes.ensures.whole c.as_nodes-nodes.ensures.tree c.as_nodes.ensures.tree c.end_of-to.ensures.end c.in_ok-subst.field-0 Apart c.in-Apart.is c.in_ok-subst.ensures in
    absurd (apart_never outer inner c.args.overlap.now.position.0 (apart_back outer inner c.args.overlap.now.position.0 c.in_ok-terms.terms x c.requires.inside none) c.requires)

pub returns-clause-pair : goal.returns-clause-pair
returns-clause-pair c =
    let outer = read_from c.args.overlap.now.outer c.args.overlap.now.outer_side c.args.a.now in
    let inner = read_from c.args.overlap.now.inner c.args.overlap.now.inner_side c.args.b.now in
    let x = read_apart outer inner (rule_read c.new-outer.result) (rule_read c.new-inner.result) c.in_ok-terms.terms c.new-outer.ensures c.new-inner.ensures c.in_ok-terms.ensures in
    large_formation outer inner c.args.overlap.now.position.0 c.in_ok-terms.terms x c.requires.inside c.requires.no_variable
    (found outer inner c.args.overlap.now.position.0 c.in_ok-terms.terms x c.requires c.end_of-to.result c.as_nodes-nodes.result.now c.as_nodes.result.now c.as_nodes-nodes.ensures.whole c.as_nodes-nodes.ensures.tree c.as_nodes.ensures.tree c.end_of-to.ensures.end c.in_ok-subst.field-0 TooLarge c.in-TooLarge.is c.in_ok-subst.ensures)
