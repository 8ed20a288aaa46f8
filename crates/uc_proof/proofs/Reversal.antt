-- A chain gone back replays as it did.
use Rattle.std.proofs.Common.{◌≡◌, ℕ, zero, suc, ◌-◌, ◌<◌, not, Bool, true, false, List, [], ◌∷◌, ◌++◌, get_or, refl, sym, ap, ap₂, ◌∙◌, subst, arith, inl, inr}
use Rattle.std.proofs.lemmas.List.{get_or_append_left, get_or-append_right}
use Rattle.uc_term.specs.declared.equation.Equation.{Equation}
use Rattle.uc_term.specs.Equations.{side_of, other_side_of}
use Rattle.uc_term.specs.Tree.{Tree, var, app, Trees, none, more, apply, nodes, nodes_all, subterms, subterms_all, put, put_all}
use Rattle.uc_term.proofs.Terms.{length-subterms, nodes_pos}
use Rattle.uc_unify.specs.Replacing.{ReplacesAt}
use Rattle.uc_fact.specs.declared.chain.Step.{Step}
use Rattle.uc_fact.specs.declared.chain.Chain.{Chain}
use Rattle.uc_fact.specs.declared.fact.Fact.{Fact}
use Rattle.uc_fact.specs.Chains.{last_term, step_back, steps_back}
use Rattle.uc_rewrite.specs.Replay.{replaced_side, IsReplacement, AreReplacements, LeadsFrom}
use Rattle.uc_pair.proofs.Replacing.{put_here, put_later, where_is}
use Rattle.uc_problem.specs.declared.problem.Encoded.{Encoded}
use Rattle.uc_proof.specs.declared.aim.Aim.TheVariants as aim
use Rattle.uc_proof.specs.Chains.{conclusion_of, ProvesGoal}
use Rattle.uc_proof.specs.Making.{IsReached}

first : (w d : Tree) → get_or (subterms w) 0 d ≡ w
first (var x) d = refl
first (app f ts) d = refl

root : (w u : Tree) → put w 0 u ≡ u
root (var x) u = refl
root (app f ts) u = refl

-- what stands at a place where something was put, and what is put there again
mutual
  put_inside : (t : Tree) (p : ℕ) (w : Tree) → p < nodes t → p < nodes (put t p w)
  put_inside (var x) zero w h = nodes_pos w
  put_inside (var x) (suc p) w h = absurd (omega arith)
  put_inside (app f ts) zero w h = nodes_pos w
  put_inside (app f ts) (suc p) w h = let i = put_inside_all ts p w (omega arith) in omega arith

  put_inside_all : (ts : Trees) (p : ℕ) (w : Tree) → p < nodes_all ts → p < nodes_all (put_all ts p w)
  put_inside_all none p w h = absurd (omega arith)
  put_inside_all (more t ts) p w h =
      elim (where_is p (nodes t)) [
        | inl k ↦ let i = put_inside t p w k in omega (arith, ap nodes_all (put_here t ts p w k))
        | inr k ↦ let i = put_inside_all ts (p - nodes t) w (omega arith) in omega (arith, ap nodes_all (put_later t ts p w k))
      ]

mutual
  there_put : (t : Tree) (p : ℕ) (w d : Tree) → p < nodes t → get_or (subterms (put t p w)) p d ≡ w
  there_put (var x) zero w d h = first w d
  there_put (var x) (suc p) w d h = absurd (omega arith)
  there_put (app f ts) zero w d h = first w d
  there_put (app f ts) (suc p) w d h = there_put_all ts p w d (omega arith)

  there_put_all : (ts : Trees) (p : ℕ) (w d : Tree) → p < nodes_all ts → get_or (subterms_all (put_all ts p w)) p d ≡ w
  there_put_all none p w d h = absurd (omega arith)
  there_put_all (more t ts) p w d h =
      elim (where_is p (nodes t)) [
        | inl k ↦
            ap (λ us. get_or (subterms_all us) p d) (put_here t ts p w k)
            ∙ get_or_append_left (subterms (put t p w)) (subterms_all ts) d p (let i = put_inside t p w k in omega (arith, length-subterms (put t p w)))
            ∙ there_put t p w d k
        | inr k ↦
            ap (λ us. get_or (subterms_all us) p d) (put_later t ts p w k)
            ∙ get_or-append_right (subterms t) (subterms_all (put_all ts (p - nodes t) w)) (nodes t) p d (length-subterms t) k
            ∙ there_put_all ts (p - nodes t) w d (omega arith)
      ]

mutual
  put_back : (t : Tree) (p : ℕ) (w d : Tree) → p < nodes t → put (put t p w) p (get_or (subterms t) p d) ≡ t
  put_back (var x) zero w d h = root w (var x)
  put_back (var x) (suc p) w d h = absurd (omega arith)
  put_back (app f ts) zero w d h = root w (app f ts)
  put_back (app f ts) (suc p) w d h = ap (app f) (put_back_all ts p w d (omega arith))

  put_back_all : (ts : Trees) (p : ℕ) (w d : Tree) → p < nodes_all ts → put_all (put_all ts p w) p (get_or (subterms_all ts) p d) ≡ ts
  put_back_all none p w d h = absurd (omega arith)
  put_back_all (more t ts) p w d h =
      elim (where_is p (nodes t)) [
        | inl k ↦
            ap₂ (λ us u. put_all us p u) (put_here t ts p w k) (get_or_append_left (subterms t) (subterms_all ts) d p (omega (arith, length-subterms t)))
            ∙ put_here (put t p w) ts p (get_or (subterms t) p d) (put_inside t p w k)
            ∙ ap (λ u. more u ts) (put_back t p w d k)
        | inr k ↦
            ap₂ (λ us u. put_all us p u) (put_later t ts p w k) (get_or-append_right (subterms t) (subterms_all ts) (nodes t) p d (length-subterms t) k)
            ∙ put_later t (put_all ts (p - nodes t) w) p (get_or (subterms_all ts) (p - nodes t) d) k
            ∙ ap (more t) (put_back_all ts (p - nodes t) w d (omega arith))
      ]

-- a replacement gone back
replaces_back : (from to before after : Tree) (place : ℕ) → ReplacesAt from to before place after → ReplacesAt to from after place before
replaces_back from to before after place r =
    let w = apply r.σ to in
    record {
      inside = subst (λ (t : Tree). place < nodes t) r.to_is (put_inside before place w r.inside);
      σ = r.σ;
      from_is = sym (there_put before place w after r.inside) ∙ ap (λ t. get_or (subterms t) place after) r.to_is;
      to_is = ap₂ (λ t u. put t place u) (sym r.to_is) r.from_is ∙ put_back before place w before r.inside;
    }

module _ (axioms : List Equation) (facts : List Fact) where
  replacement_back : (before : Tree) (step : Step) → IsReplacement axioms facts before step → IsReplacement axioms facts step.to (step_back before step)
  replacement_back before step r = record {
    equation = r.equation;
    equation_is = r.equation_is;
    replaces = go step.left_to_right (replaces_back (side_of (replaced_side step.left_to_right) r.equation) (other_side_of (replaced_side step.left_to_right) r.equation) before step.to step.position.0 r.replaces);
  }
    where
      go : (way : Bool) → ReplacesAt (other_side_of (replaced_side way) r.equation) (side_of (replaced_side way) r.equation) step.to step.position.0 before → ReplacesAt (side_of (replaced_side (not way)) r.equation) (other_side_of (replaced_side (not way)) r.equation) step.to step.position.0 before
      go true h = h
      go false h = h

  -- one list of steps after another
  both : (u : Tree) (ss rs : List Step) → AreReplacements axioms facts u ss → AreReplacements axioms facts (last_term u ss) rs → AreReplacements axioms facts u (ss ++ rs)
  both u [] rs a b = b
  both u (s ∷ ss) rs a b = (a.0, both s.to ss rs a.1 b)

  last_of_both : (u : Tree) (ss rs : List Step) → last_term u (ss ++ rs) ≡ last_term (last_term u ss) rs
  last_of_both u [] rs = refl
  last_of_both u (s ∷ ss) rs = last_of_both s.to ss rs

  back_ends : (u : Tree) (ss : List Step) → last_term (last_term u ss) (steps_back u ss) ≡ u
  back_ends u [] = refl
  back_ends u (s ∷ ss) = last_of_both (last_term s.to ss) (steps_back s.to ss) (step_back u s ∷ [])

  all_back : (u : Tree) (ss : List Step) → AreReplacements axioms facts u ss → AreReplacements axioms facts (last_term u ss) (steps_back u ss)
  all_back u [] h = tt
  all_back u (s ∷ ss) h =
      both (last_term s.to ss) (steps_back s.to ss) (step_back u s ∷ []) (all_back s.to ss h.1)
      (subst (λ (t : Tree). AreReplacements axioms facts t (step_back u s ∷ [])) (sym (back_ends s.to ss)) (replacement_back u s h.0, tt))

  -- the goal's chain leads from its left to its right side
  pub conclusion_leads : (left right : Chain) (u v meeting : Tree) → LeadsFrom axioms facts left u meeting → LeadsFrom axioms facts right v meeting → LeadsFrom axioms facts (conclusion_of left right) u v
  conclusion_leads left right u v meeting a b =
      let l = last_term left.start left.steps in
      let r = last_term right.start right.steps in
      let meet : r ≡ l = b.end_is ∙ sym a.end_is in
      record {
        start_is = a.start_is;
        end_is = last_of_both left.start left.steps (steps_back right.start right.steps) ∙ ap (λ t. last_term t (steps_back right.start right.steps)) (sym meet) ∙ back_ends right.start right.steps ∙ b.start_is;
        replays = both left.start left.steps (steps_back right.start right.steps) a.replays (subst (λ (t : Tree). AreReplacements axioms facts t (steps_back right.start right.steps)) meet (all_back right.start right.steps b.replays));
      }

-- what proves a goal reaches it
pub goal_reached : (enc : Encoded) (facts : List Fact) (left right : Chain) (goal : ℕ) → ProvesGoal enc facts goal left right → IsReached enc facts (aim.Goal (conclusion_of left right) goal)
goal_reached enc facts left right goal p = (p.equation, p.equation_is, conclusion_leads enc.axioms facts left right p.equation.left p.equation.right p.meeting p.left_leads p.right_leads)
