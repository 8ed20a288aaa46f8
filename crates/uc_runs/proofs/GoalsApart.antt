-- In a run whose verdict is Saturated the axioms make the sides of each goal equal to two different terms, from which no ordered
-- step leads on.
use Rattle.std.proofs.Common.{◌≡◌, ℕ, zero, suc, List, [], ◌∷◌, ◌++◌, Some, subst, map, slice_get}
use Rattle.uc_term.specs.declared.equation.Equation.{Equation}
use Rattle.uc_term.specs.Tree.{Tree, var, apply}
use Rattle.uc_term.specs.Conversion.{Conv}
use Rattle.uc_term.proofs.Terms.{apply-var}
use Rattle.uc_term.proofs.Conversion.{equation_turn, Conv-turn, Conv-follows}
use Rattle.uc_order.specs.Laws.{Meaning, Laws, IsGroundOf}
use Rattle.uc_fact.specs.declared.chain.Chain.{Chain}
use Rattle.uc_fact.specs.declared.fact.Fact.{Fact}
use Rattle.uc_fact.specs.Chains.{last_term, end_of}
use Rattle.uc_fact.specs.Live.{equation_of, equations_of}
use Rattle.uc_rewrite.specs.Replay.{equations, LeadsFrom, FactsReplay}
use Rattle.uc_rewrite.proofs.Converting.{replacements_convert}
use Rattle.uc_shelf.specs.Entries.{born, live}
use Rattle.uc_machine.specs.declared.event.Verdict.TheVariants.{Saturated}
use Rattle.uc_machine.specs.Runs.{Reaches}
use Rattle.uc_machine.specs.State.{Opening, State, Target}
use Rattle.uc_decide.specs.Converging.{FollowFrom}
use Rattle.uc_decide.specs.Deciding.{AreAllApart}
use Rattle.uc_decide.proofs.Derived.{facts_follow}
use Rattle.uc_runs.specs.Signatures.{OpensOver, AreGroundEquations}
use Rattle.uc_runs.specs.Saturated.{EndsDiffer}
use Rattle.uc_runs.proofs.EachFact.{each_get, get_there}
use Rattle.uc_runs.proofs.OverRuns.{ends_stay_ground}
use Rattle.uc_runs.proofs.Replaying.{chains_replay}
use Rattle.uc_runs.proofs.Saturating.{saturated}

axiom_follows : (axioms : List Equation) (n : ℕ) (e : Equation) → slice_get axioms n ≡ Some e → Conv axioms e.left e.right
axiom_follows axioms n e at = subst (λ (z : Tree). Conv axioms e.left z) (apply-var e.right) (subst (λ (z : Tree). Conv axioms z (apply var e.right)) (apply-var e.left) (Conv-turn axioms (apply var e.left) (apply var e.right) (equation_turn axioms n e at var)))

of_both : (P : Equation → Type 0) (xs ys : List Equation) → ((n : ℕ) (e : Equation) → slice_get xs n ≡ Some e → P e) → ((n : ℕ) (e : Equation) → slice_get ys n ≡ Some e → P e) → (n : ℕ) (e : Equation) → slice_get (xs ++ ys) n ≡ Some e → P e
of_both P [] ys a b n e at = b n e at
of_both P (x ∷ xs) ys a b zero e at = a zero e at
of_both P (x ∷ xs) ys a b (suc n) e at = of_both P xs ys (λ k f it. a (suc k) f it) b n e at

-- what a chain leads from and to is equal by the axioms
leads_convert : (axioms : List Equation) (facts : List Fact) → FactsReplay axioms facts → (c : Chain) (u v : Tree) → LeadsFrom axioms facts c u v → Conv axioms u v
leads_convert axioms facts replays c u v l =
    let all : FollowFrom axioms (equations axioms facts) = of_both (λ (e : Equation). Conv axioms e.left e.right) axioms (map equation_of facts) (axiom_follows axioms) (facts_follow axioms facts replays) in
    let by_all : Conv (equations axioms facts) c.start (last_term c.start c.steps) = replacements_convert axioms facts c.start c.steps l.replays in
    let whole : Conv axioms c.start (last_term c.start c.steps) = Conv-follows (equations axioms facts) axioms all by_all in
    subst (λ (z : Tree). Conv axioms u z) l.end_is (subst (λ (z : Tree). Conv axioms z (last_term c.start c.steps)) l.start_is whole)

module _ (m : Meaning) (laws : Laws m) (o : Opening) (over : OpensOver m o) (ground : AreGroundEquations m o.goals) where
  pub goals_apart : (s : State) → Reaches m o s → s.verdict ≡ Some Saturated → AreAllApart m (equations_of (live s.entries)) o.axioms o.goals
  goals_apart s r h n goal at =
      let replays = chains_replay m o s r in
      let there = get_there s.goals o.goals n goal replays.as_many at in
      let x : Target = there.0 in
      let stands = each_get (EndsDiffer m s.entries) s.goals (saturated m o s r h).goals n x there.1 in
      let ends = each_get (λ (g : Target). IsGroundOf m (end_of g.left) × IsGroundOf m (end_of g.right)) s.goals (ends_stay_ground m laws o over ground s r) n x there.1 in
      let leads = replays.goals n x there.1 goal at in
      record {
        s_ground = (ground n goal at).0;
        t_ground = (ground n goal at).1;
        left = end_of x.left;
        right = end_of x.right;
        left_ground = ends.0;
        right_ground = ends.1;
        left_equal = leads_convert o.axioms (born s.entries) replays.facts x.left goal.left (end_of x.left) leads.left;
        right_equal = leads_convert o.axioms (born s.entries) replays.facts x.right goal.right (end_of x.right) leads.right;
        left_stays = stands.left_stays;
        right_stays = stands.right_stays;
        differ = stands.differ;
      }
