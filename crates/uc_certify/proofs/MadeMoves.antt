-- The steps of a normalising are right moves.
use Rattle.std.proofs.Common.{◌≡◌, ℕ, ◌+◌, ◌<◌, List, [], ◌∷◌, ◌++◌, drop, slice_get, refl, sym, ap, ◌∙◌, subst, append_assoc, append-nil}
use Rattle.uc_term.specs.declared.equation.Equation.{Equation}
use Rattle.uc_term.specs.declared.equation.Side.{Side}
use Rattle.uc_term.specs.declared.equation.Side.TheVariants.{Left, Right}
use Rattle.uc_term.specs.Equations.{side_of, other_side_of}
use Rattle.uc_term.specs.Over.{IsOver}
use Rattle.uc_term.specs.Path.{put_position}
use Rattle.uc_term.specs.Tree.{Tree, apply, nodes, subterm}
use Rattle.uc_fact.specs.declared.chain.By.TheVariants.{Fact}
use Rattle.uc_fact.specs.declared.chain.Chain.{Chain}
use Rattle.uc_fact.specs.declared.chain.Step.{Step}
use Rattle.uc_fact.specs.declared.fact.Stop.{Stop}
use Rattle.uc_fact.specs.Ground.{AreOfSignature}
use Rattle.uc_fact.specs.Live.{Rule, rules_of, equations_of, numbered}
use Rattle.uc_order.specs.Laws.{Meaning, HasSym, Laws, least_term}
use Rattle.uc_rewrite.specs.Normalising.{is_left, step_by, FirstStep, Normalises, is_full, is_spent, is_large, goes_on}
use Rattle.uc_rewrite.specs.Replay.{replaced_side}
use Rattle.uc_rewrite.proofs.Reading.{rule_makes}
use Rattle.uc_rewrite.proofs.Unique.{step_falls}
use Rattle.uc_runs.proofs.OverTerms.{step_over}
use Rattle.uc_certificate.specs.declared.certificate.Move.{Move}
use Rattle.uc_certify.specs.Moving.{moved, IsMove, AreMoves}
use Rattle.uc_certify.specs.Making.{IsMoveOf, AreMovesOf, IsByFact, AreByFacts}
use Rattle.uc_certify.proofs.Numbered.{equations_numbered}
use Rattle.uc_certify.proofs.MadeSteps.{step_at, rule_equation}

side_back : (side : Side) → replaced_side (is_left side) ≡ side
side_back Left = refl
side_back Right = refl

module _ (m : Meaning) (laws : Laws m) (facts : List Equation) (over : AreOfSignature (HasSym m) m.arity facts) (Greater : Tree → Tree → Type 0) (Known : ℕ → Type 0) where
  abbrev Over : Tree → Type 0
  Over = IsOver (HasSym m) m.arity Known

  move_made : (t : Tree) (p : ℕ) (r : Rule) (v : Tree) (move : Move) → FirstStep Greater m.least (numbered facts) t p r v → IsMoveOf t (step_by r p v) move → Over v → IsMove m facts Greater Known t move
  move_made t p r v move f i o =
      let s = step_at Greater m.least (numbered facts) t p r v f in
      let makes = rule_makes Greater m.least (subterm t p) s.w (rules_of (numbered facts)) r s.first in
      let rule = rule_equation facts Greater m.least (subterm t p) s.w r s.first in
      let number : r.number ≡ move.fact = let z : Fact r.number ≡ Fact move.fact = i.by in cc in
      let side : replaced_side move.left_to_right ≡ r.side = ap replaced_side i.way ∙ side_back r.side in
      record {
        equation = rule.equation;
        equation_is = ap (slice_get facts) (sym number) ∙ rule.equation_is;
        part = subterm t p;
        part_is = i.path.there;
        σ = makes.σ;
        from_is = ap (λ (x : Side). apply makes.σ (side_of x rule.equation)) side ∙ ap (apply makes.σ) (sym rule.from_is) ∙ sym makes.u_is;
        to_is =
            ap (λ (x : Side). put_position t move.path (apply makes.σ (other_side_of x rule.equation))) side
            ∙ ap (λ (x : Tree). put_position t move.path (apply makes.σ x)) (sym rule.to_is)
            ∙ ap (put_position t move.path) (sym makes.v_is)
            ∙ sym (i.path.puts s.w)
            ∙ s.put_is
            ∙ sym i.to;
        greater = subst (Greater (subterm t p)) (makes.v_is ∙ ap (apply makes.σ) rule.to_is ∙ ap (λ (x : Side). apply makes.σ (other_side_of x rule.equation)) (sym side)) makes.greater;
        over = subst Over (sym i.to) o;
      }

  pub least_over : Over (least_term m)
  least_over = (laws.least_is.0, sym laws.least_is.1, tt)

  pub all_over : AreOfSignature (HasSym m) m.arity (equations_of (numbered facts))
  all_over = subst (AreOfSignature (HasSym m) m.arity) (sym (equations_numbered 0 facts)) over

  pub moves_made : (limit : ℕ) (t end : Tree) (steps : List Step) (stop : Stop) (moves : List Move) → Normalises Greater m.least (numbered facts) limit t steps end stop → AreMovesOf t steps moves → Over t → AreMoves m facts Greater Known t moves × (moved t moves ≡ end)
  moves_made limit t _ _ _ [] (is_full i) a o = (tt, refl)
  moves_made limit t _ _ _ (x ∷ xs) (is_full i) a o = absurd a
  moves_made _ t _ _ _ [] (is_spent f) a o = (tt, refl)
  moves_made _ t _ _ _ (x ∷ xs) (is_spent f) a o = absurd a
  moves_made _ t _ _ _ [] (is_large f l) a o = (tt, refl)
  moves_made _ t _ _ _ (x ∷ xs) (is_large f l) a o = absurd a
  moves_made _ t end _ stop [] (goes_on f l n) a o = absurd a
  moves_made _ t end _ stop (move ∷ moves) (goes_on {limit = limit} {v = v} {place = p} {rule = r} {steps = steps} f l n) a o =
      let b : Over v = step_over (HasSym m) m.arity Known Greater m.least least_over (equations_of (numbered facts)) all_over (step_falls Greater m.least (numbered facts) t p r v f) o in
      let rest = moves_made limit v end steps stop moves n a.1 b in
      let to : move.to ≡ v = a.0.to in (
        (move_made t p r v move f a.0 b, subst (λ (u : Tree). AreMoves m facts Greater Known u moves) (sym to) rest.0),
        ap (λ (u : Tree). moved u moves) to ∙ rest.1,
      )

-- the moves of a chain, one by one
pub record Turning (start : Tree) (steps : List Step) (before : Tree) (i : ℕ) (moves : List Move) : Type 0 where
  pub done : (more : List Move) → AreMovesOf before (drop i steps) more → AreMovesOf start steps (moves ++ more)
  pub by_facts : AreByFacts before (drop i steps)

pub turning_begins : (chain : Chain) (steps : List Step) (moves : List Move) → AreByFacts chain.start chain.steps → steps ≡ chain.steps → moves ≡ [] → Turning chain.start steps chain.start 0 moves
turning_begins chain steps moves b e w = record {
  done = λ more h. subst (λ (l : List Move). AreMovesOf chain.start steps (l ++ more)) (sym w) h;
  by_facts = subst (AreByFacts chain.start) (sym e) b;
}

module _ (start : Tree) (steps : List Step) (before : Tree) (i : ℕ) (moves : List Move) (step : Step) (w : Turning start steps before i moves) (at : drop i steps ≡ step ∷ drop (i + 1) steps) where
  pub by_here : IsByFact step
  by_here = (subst (AreByFacts before) at w.by_facts).0

  pub inside_here : step.position.0 < nodes before
  inside_here = (subst (AreByFacts before) at w.by_facts).1

  pub turning_on : (move : Move) (next : List Move) → IsMoveOf before step move → next ≡ moves ++ move ∷ [] → Turning start steps step.to (i + 1) next
  turning_on move next s e = record {
    done = λ more h.
        subst (AreMovesOf start steps) (sym (ap (λ l. l ++ more) e ∙ append_assoc moves (move ∷ []) more))
        (w.done (move ∷ more) (subst (λ (ss : List Step). AreMovesOf before ss (move ∷ more)) (sym at) (s, h)));
    by_facts = (subst (AreByFacts before) at w.by_facts).2;
  }

pub turning_ends : (start : Tree) (steps : List Step) (before : Tree) (i : ℕ) (moves : List Move) → Turning start steps before i moves → drop i steps ≡ [] → AreMovesOf start steps moves
turning_ends start steps before i moves w e = subst (AreMovesOf start steps) (append-nil moves) (w.done [] (subst (λ (ss : List Step). AreMovesOf before ss []) (sym e) tt))
