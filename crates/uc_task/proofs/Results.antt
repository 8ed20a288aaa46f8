-- What a task comes to, from what its parts come to.
use Rattle.std.proofs.Common.{◌≡◌, ℕ, ◌-◌, List, length, slice_get, Option, Some, None, refl, sym, subst}
use Rattle.uc_term.specs.Tree.{Tree}
use Rattle.uc_term.specs.declared.equation.Equation.{Equation}
use Rattle.uc_order.specs.Laws.{Meaning}
use Rattle.uc_fact.specs.declared.fact.Fact.{Fact}
use Rattle.uc_fact.specs.Live.{Live, equation_of}
use Rattle.uc_pair.specs.declared.formed.Formed.{Formed}
use Rattle.uc_fact.specs.declared.fact.Origin.{Origin}
use Rattle.uc_fact.specs.declared.fact.Stop.{Stop}
use Rattle.uc_fact.specs.declared.joinable.Joinable.{Joinable}
use Rattle.uc_fact.specs.declared.joinable.Joinable.TheVariants.{Joined as IsJoinedBy, Apart, TooManyVariables}
use Rattle.uc_fact.specs.declared.joinable.Reason.{Reason}
use Rattle.uc_rewrite.specs.declared.normal.Normal.{Normal}
use Rattle.uc_rewrite.specs.Normalising.{IsNormalOf}
use Rattle.uc_ground.specs.Joining.{IsJoined}
use Rattle.uc_ac.specs.Ends.{IsEndsAnswer}
use Rattle.uc_shelf.specs.declared.entry.Entry.{Entry}
use Rattle.uc_shelf.specs.Entries.{born, live}
use Rattle.uc_shelf.specs.Rising.{live_rise}
use Rattle.uc_machine.specs.declared.task.Job.{Job}
use Rattle.uc_machine.specs.declared.task.Job.TheVariants.{Goal, More, Meet, Join}
use Rattle.uc_machine.specs.declared.task.Finding.{Finding}
use Rattle.uc_machine.specs.declared.task.Finding.TheVariants.{Ends, Joined, Kept, Stale, Met}
use Rattle.uc_task.specs.Jobs.{CanBeDone}
use Rattle.uc_machine.specs.Results.{IsResult, goal_comes_to, more_comes_to, pair_is_joined, pair_is_kept, NormaliseBoth, stop_of, Trial, IsTrial, IsPair, GivesFact, fact_is_stale, fact_meets, AreKills, AreMeetings}
use Rattle.uc_task.specs.Meeting.{FirstReducer}
use Rattle.uc_task.specs.declared.trial.Tried.{Tried}
use Rattle.uc_task.specs.declared.trial.Tried.TheVariants.{Joined as EndsJoin, Open as EndsDiffer}
use Rattle.uc_task.specs.Trying.{IsTried, ends_join, ends_differ}
use Rattle.uc_task.proofs.Meetings.{stale_found, none_stale}

-- an answer that isn't that the ends are joined
pub not_joined : (answer : Joinable) → ((why : Reason) → answer ≡ IsJoinedBy why → ⊥) → IsJoined answer → ⊥
not_joined (IsJoinedBy why) n j = n why refl
not_joined (Apart cases left right) n j = j
not_joined (TooManyVariables k) n j = j

module _ (m : Meaning) (axioms : List Equation) (entries : List Entry) where
  -- the two ends of a goal
  module _ (l r : Tree) (left right : Normal) (rest : ℕ) (stop : Stop) (a : IsNormalOf m.greater m.least (live entries) 4096 l left) (b : IsNormalOf m.greater m.least (live entries) rest r right) (is_rest : rest ≡ 4096 - length left.chain.steps) (is_stop : stop ≡ stop_of left.stop right.stop) where
    both : NormaliseBoth m entries l r left right
    both = record { left_is = a; right_is = subst (λ n. IsNormalOf m.greater m.least (live entries) n r right) is_rest b }

    pub goal_result : (g : ℕ) → IsResult m axioms entries (Goal g l r) (Ends left.chain right.chain stop)
    goal_result g = subst (λ s. IsResult m axioms entries (Goal g l r) (Ends left.chain right.chain s)) (sym is_stop) (goal_comes_to both)

    pub more_result : (g : ℕ) → IsResult m axioms entries (More g l r) (Ends left.chain right.chain stop)
    more_result g = subst (λ s. IsResult m axioms entries (More g l r) (Ends left.chain right.chain s)) (sym is_stop) (more_comes_to both)

  -- a pair that is tried
  pub trial_is : (origin : Origin) (t : Trial) (seen : List Entry) → seen ≡ entries → IsPair axioms entries origin t.equation t.chain → IsNormalOf m.greater m.least (live seen) 4096 t.equation.left t.left → IsNormalOf m.greater m.least (live seen) 4096 t.equation.right t.right → IsEndsAnswer m (live seen) t.left.term t.right.term t.answer → IsTrial m axioms entries origin t
  trial_is origin t seen e p a b i = record {
    pair_is = p;
    left_is = subst (λ es. IsNormalOf m.greater m.least (live es) 4096 t.equation.left t.left) e a;
    right_is = subst (λ es. IsNormalOf m.greater m.least (live es) 4096 t.equation.right t.right) e b;
    answer_is = subst (λ es. IsEndsAnswer m (live es) t.left.term t.right.term t.answer) e i;
  }

  pub joined_trial : (origin : Origin) (t : Trial) (why : Reason) → IsTrial m axioms entries origin t → t.answer ≡ IsJoinedBy why → IsTried m axioms entries origin (EndsJoin why)
  joined_trial origin t why i e = ends_join t i e

  pub open_trial : (origin : Origin) (t : Trial) (front : ℕ) (f : Fact) → IsTrial m axioms entries origin t → (IsJoined t.answer → ⊥) → front ≡ length entries → GivesFact m origin front t f → IsTried m axioms entries origin (EndsDiffer f t.answer)
  open_trial origin t front f i n e g = ends_differ t i n (subst (λ k. GivesFact m origin k t f) e g)

  abbrev finding_for : Tried → Finding
  finding_for (EndsJoin why) = Joined why
  finding_for (EndsDiffer f answer) = Kept f

  tried_result : (origin : Origin) (tried : Tried) (p : ℕ) → IsTried m axioms entries origin tried → IsResult m axioms entries (Join p origin) (finding_for tried)
  tried_result origin _ p (ends_join t i e) = pair_is_joined i e
  tried_result origin _ p (ends_differ t i n g) = pair_is_kept i n g

  pub joined_result : (origin : Origin) (tried : Tried) (why : Reason) (p : ℕ) → tried ≡ EndsJoin why → IsTried m axioms entries origin tried → IsResult m axioms entries (Join p origin) (Joined why)
  joined_result origin tried why p e t = subst (λ x. IsResult m axioms entries (Join p origin) (finding_for x)) e (tried_result origin tried p t)

  pub kept_result : (origin : Origin) (tried : Tried) (f : Fact) (answer : Joinable) (p : ℕ) → tried ≡ EndsDiffer f answer → IsTried m axioms entries origin tried → IsResult m axioms entries (Join p origin) (Kept f)
  kept_result origin tried f answer p e t = subst (λ x. IsResult m axioms entries (Join p origin) (finding_for x)) e (tried_result origin tried p t)

-- a job that is known
pub can_be : (m : Meaning) (axioms : List Equation) (entries : List Entry) (job known : Job) → job ≡ known → CanBeDone m axioms entries job → CanBeDone m axioms entries known
can_be m axioms entries job known e h = subst (CanBeDone m axioms entries) e h

pub result_of : (m : Meaning) (axioms : List Equation) (entries seen : List Entry) (job known : Job) (f : Finding) → job ≡ known → seen ≡ entries → IsResult m axioms seen known f → IsResult m axioms entries job f
result_of m axioms entries seen job known f e s r = subst (λ j. IsResult m axioms entries j f) (sym e) (subst (λ es. IsResult m axioms es known f) s r)

-- a fact that meets the others
module _ (m : Meaning) (axioms : List Equation) (entries : List Entry) (i : ℕ) (fact : Fact) (own : Equation) (at : slice_get (born entries) i ≡ Some fact) (own_is : own ≡ equation_of fact) where
  first_of_live : (js : List Live) (found : Option ℕ) → js ≡ live entries → FirstReducer m i own js found → FirstReducer m i (equation_of fact) (live entries) found
  first_of_live js found e r = subst (λ f. FirstReducer m i f (live entries) found) own_is (subst (λ l. FirstReducer m i own l found) e r)

  pub stale_result : (js : List Live) (found : Option ℕ) (k : ℕ) → js ≡ live entries → found ≡ Some k → FirstReducer m i own js found → IsResult m axioms entries (Meet i) (Stale k)
  stale_result js found k e s r = fact_is_stale at (stale_found m i (equation_of fact) entries found k (live_rise entries) s (first_of_live js found e r))

  pub met_result : (js ks_of fs_of : List Live) (found : Option ℕ) (ks : List ℕ) (fs : List Formed) → js ≡ live entries → ks_of ≡ live entries → fs_of ≡ live entries → found ≡ None → FirstReducer m i own js found → AreKills m entries i own ks_of ks → AreMeetings m entries i own fs_of fs → IsResult m axioms entries (Meet i) (Met ks fs)
  met_result js ks_of fs_of found ks fs e ek ef n r k o =
      fact_meets at (none_stale m i (equation_of fact) entries found n (first_of_live js found e r))
      (subst (λ f. AreKills m entries i f (live entries) ks) own_is (subst (λ l. AreKills m entries i own l ks) ek k))
      (subst (λ f. AreMeetings m entries i f (live entries) fs) own_is (subst (λ l. AreMeetings m entries i own l fs) ef o))
