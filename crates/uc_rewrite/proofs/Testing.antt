-- When what is found leads down.
use Rattle.std.proofs.Common.{◌≡◌, ℕ, List, sym, ap, ap₂, ◌∙◌, subst}
use Rattle.uc_term.specs.declared.node.Node.{Node}
use Rattle.uc_term.specs.declared.node.Sym.{Sym}
use Rattle.uc_term.specs.Equations.{side_of, other_side_of}
use Rattle.uc_term.specs.Tree.{Tree, apply}
use Rattle.uc_term.specs.Variables.{Occurs}
use Rattle.uc_term.specs.Flat.{flat, tree_of, IsWhole}
use Rattle.uc_term.specs.Code.{tree_of-flat}
use Rattle.uc_fact.specs.declared.index.Found.{Found}
use Rattle.uc_fact.specs.Live.{Live, AreRising, rules_of, fact_at}
use Rattle.uc_fact.specs.Retrieval.{IsFound}
use Rattle.uc_fact.proofs.NewVariables.{none_new}
use Rattle.uc_rewrite.specs.declared.comparison.Falling.TheVariants.{Always, Never}
use Rattle.uc_rewrite.specs.Comparing.{Tells}
use Rattle.uc_rewrite.specs.Completed.{completed, AreSides, LeadsDown}
use Rattle.uc_rewrite.proofs.Choosing.{FoundBy, found_rule, all_known}
use Rattle.uc_rewrite.proofs.Completing.{completes, gives}

pub whole_flat : (ns : List Node) (t : Tree) → ns ≡ flat t → IsWhole ns
whole_flat ns t e = ap flat (ap tree_of e ∙ tree_of-flat t) ∙ sym e

pub tree_flat : (ns : List Node) (t : Tree) → ns ≡ flat t → tree_of ns ≡ t
tree_flat ns t e = ap tree_of e ∙ tree_of-flat t

pub same_sides : (live : List Live) (found : Found) (from to from' to' : Tree) → AreSides live found from to → AreSides live found from' to' → (from ≡ from') × (to ≡ to')
same_sides live found from to from' to' a b =
    let e : a.equation ≡ b.equation = (let p = a.equation_is in let q = b.equation_is in cc) in
    (a.from_is ∙ ap (side_of found.side) e ∙ sym b.from_is, a.to_is ∙ ap (other_side_of found.side) e ∙ sym b.to_is)

module _ (least : Sym) (live : List Live) (t from to : Tree) (found : Found) (rising : AreRising live) (i : IsFound t (rules_of live) found from to) where
  by : FoundBy live t found from to
  by = found_rule live t (rules_of live) found from to (all_known live rising) i

  -- what was found was found by a fact that lives
  pub found_sides : AreSides live found from to
  found_sides = record {
    equation = by.known.equation;
    equation_is = ap (λ g. fact_at live g.fact) by.found_is ∙ by.known.equation_is;
    from_is = by.from_is ∙ by.known.from_is ∙ ap (λ g. side_of g.side by.known.equation) (sym by.found_is);
    to_is = by.to_is ∙ by.known.to_is ∙ ap (λ g. other_side_of g.side by.known.equation) (sym by.found_is);
  }

  -- the instance of the side that was found is the term
  pub instance_is : apply (completed least found.subst) from ≡ t
  instance_is = ap (λ g. apply (completed least g.subst) from) by.found_is ∙ ap (apply (completed least by.pairs)) by.from_is ∙ gives least by.rule.from t by.pairs by.is_match

  -- that of the other side has no variable that the term lacks
  pub instance_none_new : (x : ℕ) → Occurs x (apply (completed least found.subst) to) → Occurs x t
  instance_none_new x o =
      let here : Occurs x (apply (completed least by.pairs) by.rule.to) = subst (Occurs x) (ap₂ (λ g z. apply (completed least g.subst) z) by.found_is by.to_is) o in
      subst (Occurs x) (gives least by.rule.from t by.pairs by.is_match) (none_new least by.rule.from by.rule.to (completed least by.pairs) (completes least by.rule.from t by.pairs by.is_match by.rule.to) x here)

module _ (Greater : Tree → Tree → Type 0) (least : Sym) (live : List Live) (t from to : Tree) (found : Found) (s : AreSides live found from to) where
  abbrev pub Down : Type 0
  Down = LeadsDown Greater least live t found

  abbrev smaller : Tree
  smaller = apply (completed least found.subst) to

  pub goes_down : Greater t smaller → Down
  goes_down g = record { from = from; to = to; sides = s; greater = g }

  pub down_greater : Down → Greater t smaller
  down_greater d = subst (λ z. Greater t (apply (completed least found.subst) z)) (same_sides live found d.from d.to from to d.sides s).1 d.greater

  pub always_down : apply (completed least found.subst) from ≡ t → Tells Greater from to Always → Down
  always_down e tells = goes_down (subst (λ z. Greater z smaller) e (tells (completed least found.subst)))

  pub never_down : apply (completed least found.subst) from ≡ t → Tells Greater from to Never → Down → ⊥
  never_down e tells d = tells (completed least found.subst) (subst (λ z. Greater z smaller) (sym e) (down_greater d))

-- a side of which no instance is greater leads down nowhere
pub ruled_out : (Greater : Tree → Tree → Type 0) (least : Sym) (live : List Live) → AreRising live → (t from to : Tree) (found : Found) → Tells Greater from to Never → IsFound t (rules_of live) found from to → LeadsDown Greater least live t found → ⊥
ruled_out Greater least live rising t from to found tells i d = never_down Greater least live t from to found (found_sides least live t from to found rising i) (instance_is least live t from to found rising i) tells d

-- one of which each instance is greater leads down from each of its instances
pub let_through : (Greater : Tree → Tree → Type 0) (least : Sym) (live : List Live) → AreRising live → (t from to : Tree) (found : Found) → Tells Greater from to Always → IsFound t (rules_of live) found from to → LeadsDown Greater least live t found
let_through Greater least live rising t from to found tells i = always_down Greater least live t from to found (found_sides least live t from to found rising i) (instance_is least live t from to found rising i) tells
