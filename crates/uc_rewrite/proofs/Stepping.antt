-- The step where a walk stops.
use Rattle.std.proofs.Common.{◌≡◌, ℕ, ◌+◌, ◌-◌, ◌<◌, ◌≤◌, List, [], ◌∷◌, ◌++◌, length, take, drop, get_or, Some, None, sym, ap, ap₂, ◌∙◌, arith, length-append, append_assoc, subst}
use Rattle.uc_term.specs.declared.node.Sym.{Sym}
use Rattle.uc_term.specs.declared.node.Node.{Node}
use Rattle.uc_term.specs.declared.node.Node.TheVariants.{Var}
use Rattle.uc_term.specs.declared.equation.Side.{Side}
use Rattle.uc_term.specs.Equations.{other_side_of}
use Rattle.uc_term.specs.Tree.{Tree, apply, nodes}
use Rattle.uc_term.specs.Flat.{flat, tree_of, IsWhole}
use Rattle.uc_term.proofs.Terms.{length-flat}
use Rattle.uc_fact.specs.declared.chain.Step.{Step}
use Rattle.uc_fact.specs.declared.chain.By.TheVariants.{Fact}
use Rattle.uc_fact.specs.Live.{Live, AreRising, fact_at, rules_of}
use Rattle.uc_rewrite.specs.declared.walk.Open.{Open}
use Rattle.uc_rewrite.specs.declared.walk.Redex.{Redex}
use Rattle.uc_rewrite.specs.Completed.{completed, AreSides}
use Rattle.uc_rewrite.specs.Normalising.{FirstRule, FirstStep, at_the_term, is_left}
use Rattle.uc_rewrite.specs.Walking.{Frame, plug, hole, arguments_of, Walks, Stops, Steps, IsLarge, GoesIn, enters_it, leaves_it}
use Rattle.uc_rewrite.specs.Ends.{CanStep}
use Rattle.uc_rewrite.proofs.Choosing.{Chosen, chosen, all_known}
use Rattle.uc_rewrite.proofs.Reading.{none_below}
use Rattle.uc_rewrite.proofs.Lifting.{first_in_frames}
use Rattle.uc_rewrite.proofs.Frames.{left, right, flat_plug, length_left, length_is, replaced_is, inside}
use Rattle.uc_rewrite.proofs.Advancing.{enters, left_behind}
use Rattle.uc_rewrite.proofs.Keeping.{value_irreducible}
use Rattle.uc_rewrite.proofs.Testing.{whole_flat, tree_flat}

abbrev pub step_of : ℕ → Side → ℕ → Tree → Step
step_of number side place v = record { by = Fact number; left_to_right = is_left side; position = record { 0 = place }; to = v }

nodes_plug : (frames : List Frame) (v : Tree) → nodes (plug frames v) ≡ hole frames + (nodes v + length (right frames))
nodes_plug frames v = omega (arith, length-flat (plug frames v), ap length (flat_plug frames v), length-append (left frames) (flat v ++ right frames), length-append (flat v) (right frames), length_left frames, length-flat v)

module _ (Greater : Tree → Tree → Type 0) (least : Sym) (live : List Live) (rising : AreRising live) (list : List Node) (w : IsWhole list) (front : List Open) (redex : Redex) (s : Stops Greater least live (tree_of list) front redex) where
  by : Chosen Greater least live s.u (rules_of live) redex.found
  by = chosen Greater least live s.u (rules_of live) redex.found (all_known live rising) s.first

  pub has_fact : {A : Type 0} → fact_at live redex.found.fact ≡ None → A
  has_fact e = absurd (let h : fact_at live redex.found.fact ≡ Some by.known.equation = ap (fact_at live) by.number_is ∙ by.known.equation_is in cc)

  pub order : redex.from ≤ redex.to
  order = omega (arith, s.from_is, s.to_is)

  pub within : redex.to ≤ length list
  within = omega (arith, s.to_is, length_is list w s.frames s.u s.t_is)

  pub can_step : CanStep Greater least live (tree_of list)
  can_step =
      let v = apply (completed least redex.found.subst) by.rule.to in
      let g : FirstStep Greater least live (plug s.frames s.u) (hole s.frames + 0) by.rule (plug s.frames v) = first_in_frames Greater least live s.frames s.u v 0 by.rule s.frames_behind (at_the_term (none_below Greater least live s.u s.behind) by.first) in
      record { at = hole s.frames + 0; rule = by.rule; v = plug s.frames v; first = subst (λ t. FirstStep Greater least live t (hole s.frames + 0) by.rule (plug s.frames v)) (sym s.t_is) g }

  module _ (from to : Tree) (sides : AreSides live redex.found from to) (part : List Node) (part_is : part ≡ flat (apply (completed least redex.found.subst) to)) where
    abbrev v : Tree
    v = apply (completed least redex.found.subst) to

    abbrev pub whole_term : Tree
    whole_term = plug s.frames v

    to_is : by.rule.to ≡ to
    to_is =
        let e : by.known.equation ≡ sides.equation = (let p : fact_at live redex.found.fact ≡ Some by.known.equation = ap (fact_at live) by.number_is ∙ by.known.equation_is in let q = sides.equation_is in cc) in
        by.known.to_is ∙ ap₂ other_side_of (sym by.side_is) e ∙ sym sides.to_is

    first : FirstStep Greater least live (tree_of list) (hole s.frames) by.rule whole_term
    first =
        let f : FirstRule Greater least s.u v (rules_of live) by.rule = subst (λ z. FirstRule Greater least s.u (apply (completed least redex.found.subst) z) (rules_of live) by.rule) to_is by.first in
        let g : FirstStep Greater least live (plug s.frames s.u) (hole s.frames + 0) by.rule whole_term = first_in_frames Greater least live s.frames s.u v 0 by.rule s.frames_behind (at_the_term (none_below Greater least live s.u s.behind) f) in
        let e : hole s.frames + 0 ≡ hole s.frames = omega arith in
        subst (λ n. FirstStep Greater least live (tree_of list) n by.rule whole_term) e (subst (λ t. FirstStep Greater least live t (hole s.frames + 0) by.rule whole_term) (sym s.t_is) g)

    pub list_is : (take redex.from list ++ part) ++ drop redex.to list ≡ flat whole_term
    list_is = append_assoc (take redex.from list) part (drop redex.to list) ∙ ap (λ n. take n list ++ (part ++ drop redex.to list)) s.from_is ∙ replaced_is list w s.frames s.u s.t_is redex.to v part s.to_is part_is

    pub nodes_are : length list - (redex.to - redex.from) + length part ≡ nodes whole_term
    nodes_are = omega (arith, s.from_is, s.to_is, length_is list w s.frames s.u s.t_is, nodes_plug s.frames v, ap length part_is, length-flat v)

    pub large : 4096 < nodes whole_term → IsLarge Greater least live (tree_of list)
    large h = record { at = hole s.frames; rule = by.rule; v = whole_term; first = first; large = h }

    pub inside_new : (ns : List Node) → ns ≡ flat whole_term → redex.from < length ns
    inside_new ns e = omega (arith, s.from_is, inside ns (whole_flat ns whole_term e) s.frames v (tree_flat ns whole_term e))

    pub small_place : redex.from < length list
    small_place = omega (arith, s.from_is, inside list w s.frames s.u s.t_is)

    pub inside_end : (ns : List Node) → ns ≡ flat whole_term → redex.from + length part ≤ length ns
    inside_end ns e = omega (arith, s.from_is, ap length part_is, length-flat v, ap length e, length-flat whole_term, nodes_plug s.frames v)

    went_in : (ns : List Node) → ns ≡ flat whole_term → (end : ℕ) → end ≡ redex.from + length part → (kept new_kept : List (List (ℕ × Tree))) (opened : List Open) (place : ℕ) → GoesIn from to redex.found.subst ns end front redex.from kept opened place new_kept → Walks Greater least live whole_term opened place
    went_in ns e end e_is kept new_kept opened place (enters_it o p k) =
        subst (λ t. Walks Greater least live t opened place) (tree_flat ns whole_term e) (enters Greater least live ns (whole_flat ns whole_term e) s.frames v opened place (tree_flat ns whole_term e) s.frames_behind (o ∙ ap₂ (λ a n. a ++ record { place = n; pending = arguments_of (get_or ns n (Var 0)) } ∷ []) s.opened_is s.from_is) (omega (arith, p, s.from_is)))
    went_in ns e end e_is kept new_kept opened place (leaves_it o p k value) =
        subst (λ t. Walks Greater least live t opened place) (tree_flat ns whole_term e) (left_behind Greater least live ns (whole_flat ns whole_term e) opened (record { place = 0; pending = 0 }) place s.frames v (tree_flat ns whole_term e) (o ∙ s.opened_is) (omega (arith, p, e_is, s.from_is, ap length part_is, length-flat v)) s.frames_behind (value_irreducible Greater least live rising list front redex s from to sides value))

    pub steps : nodes whole_term ≤ 4096 → (ns : List Node) → ns ≡ flat whole_term → (end : ℕ) → end ≡ redex.from + length part → (kept new_kept : List (List (ℕ × Tree))) (opened : List Open) (place : ℕ) → GoesIn from to redex.found.subst ns end front redex.from kept opened place new_kept → (new : Tree) → new ≡ whole_term → Steps Greater least live (tree_of list) (step_of redex.found.fact redex.found.side redex.from new) opened place
    steps h ns e end e_is kept new_kept opened place went new is = record {
      at = hole s.frames;
      rule = by.rule;
      v = whole_term;
      first = first;
      step_is = ap₂ (λ n side. step_of n side redex.from new) by.number_is by.side_is ∙ ap₂ (λ n z. step_of by.rule.number by.rule.side n z) s.from_is is;
      small = h;
      walks = went_in ns e end e_is kept new_kept opened place went;
    }
