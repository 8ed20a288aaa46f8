-- The results of tasks: what a worker finds for a task over the entries of its front. Live means live in these entries.
use Rattle.std.specs.Prelude.{◌≡◌, ◌≢◌, ℕ, ◌-◌, ◌<◌, ◌≤◌, ◌++◌, Bool, true, false, List, [], ◌∷◌, Some, slice_get, length}
use Rattle.uc_term.specs.declared.equation.Equation.{Equation}
use Rattle.uc_term.specs.declared.equation.Side.{Side}
use Rattle.uc_term.specs.Equations.{side_of, other_side_of}
use Rattle.uc_term.specs.Tree.{Tree, apply}
use Rattle.uc_term.specs.Variables.{variables, firsts, renumbered_by}
use Rattle.uc_order.specs.Laws.{Meaning}
use Rattle.uc_fact.specs.declared.chain.By.TheVariants.{Axiom as ByAxiom, Fact as ByFact}
use Rattle.uc_fact.specs.declared.chain.Chain.{Chain}
use Rattle.uc_fact.specs.declared.fact.Fact.{Fact}
use Rattle.uc_fact.specs.declared.fact.Overlap.{Overlap}
use Rattle.uc_fact.specs.declared.fact.Origin.{Origin}
use Rattle.uc_fact.specs.declared.fact.Origin.TheVariants.{Axiom, Overlap as OfOverlap, Revived}
use Rattle.uc_fact.specs.declared.fact.Stop.{Stop}
use Rattle.uc_fact.specs.declared.fact.Stop.TheVariants.{Full, Steps, Size}
use Rattle.uc_fact.specs.declared.joinable.Joinable.{Joinable}
use Rattle.uc_fact.specs.declared.joinable.Joinable.TheVariants.{Joined as IsJoinedBy}
use Rattle.uc_fact.specs.declared.joinable.Reason.{Reason}
use Rattle.uc_fact.specs.Live.{Live, fact_at, equation_of}
use Rattle.uc_fact.specs.Ordered.{OStep}
use Rattle.uc_rewrite.specs.declared.normal.Normal.{Normal}
use Rattle.uc_rewrite.specs.Normalising.{IsNormalOf}
use Rattle.uc_pair.specs.declared.formed.Formed.{Formed}
use Rattle.uc_pair.specs.declared.formation.Formation.TheVariants.{Pair as Forms}
use Rattle.uc_pair.specs.Listing.{AreOverlaps}
use Rattle.uc_pair.specs.Pairs.{IsPairOf}
use Rattle.uc_ground.specs.Joining.{IsJoined}
use Rattle.uc_ac.specs.Ends.{IsEndsAnswer}
use Rattle.uc_shelf.specs.declared.entry.Entry.{Entry}
use Rattle.uc_shelf.specs.Entries.{born, live}
use Rattle.uc_machine.specs.declared.task.Job.{Job}
use Rattle.uc_machine.specs.declared.task.Job.TheVariants.{Goal, More, Meet, Join}
use Rattle.uc_machine.specs.declared.task.Finding.{Finding}
use Rattle.uc_machine.specs.declared.task.Finding.TheVariants.{Ends, Joined, Kept, Stale, Met}
use Rattle.uc_fact.specs.Chains.{one_step, followed_by, reversed, variables_of_chain, renumbered_chain}

-- The stop of a task on two ends: Steps where an end stopped so, else Size where an end stopped so, else Full.
abbrev pub stop_of : Stop → Stop → Stop
stop_of Steps b = Steps
stop_of Size Steps = Steps
stop_of Size Size = Size
stop_of Size Full = Size
stop_of Full b = b

-- A pair that was tried: its two sides with the chain between them, what each side was normalised to, and whether the ends are
-- joinable.
pub record Trial : Type 0 where
  pub equation : Equation
  pub chain : Chain
  pub left : Normal
  pub right : Normal
  pub answer : Joinable

-- the chain from the left end by the pair's two sides to the right end
abbrev pub way : Trial → Chain
way t = followed_by (reversed t.left.chain) (followed_by t.chain t.right.chain)

-- A fact made of two ends with the chain between them. The variables are numbered by first occurrence, left side first; those
-- that only the chain has come behind, by first occurrence in the chain.
abbrev pub names_of : Tree → Tree → Chain → List ℕ
names_of l r chain = firsts (variables l ++ (variables r ++ variables_of_chain chain))

abbrev pub made : Bool → Origin → ℕ → Tree → Tree → Chain → Stop → Stop → Fact
made oriented origin front l r chain left_stop right_stop = record {
  left = renumbered_by (names_of l r chain) l;
  right = renumbered_by (names_of l r chain) r;
  oriented = oriented;
  origin = origin;
  chain = renumbered_chain (names_of l r chain) chain;
  front = front;
  stops = (left_stop, right_stop);
}

-- one substitution makes that side of the equation the first term and its other side the second
pub record IsInstanceFrom (e : Equation) (side : Side) (s t : Tree) : Type 0 where
  pub σ : ℕ → Tree
  pub first_is : s ≡ apply σ (side_of side e)
  pub second_is : t ≡ apply σ (other_side_of side e)

-- The equation of a pair, and the chain from its left side to its right side: the axiom, the overlap's pair, or the dead fact's
-- sides.
pub data IsPair (axioms : List Equation) (entries : List Entry) : Origin → Equation → Chain → Type 0 where
  of_axiom : {k : ℕ} {e : Equation} → slice_get axioms k ≡ Some e → IsPair axioms entries (Axiom k) e (one_step (ByAxiom k) e)
  of_overlap : {o : Overlap} {a b : Fact} {l r : Tree} {chain : Chain} → slice_get (born entries) o.outer ≡ Some a → slice_get (born entries) o.inner ≡ Some b → IsPairOf (equation_of a) (equation_of b) o (Forms l r chain) → IsPair axioms entries (OfOverlap o) (record { left = l; right = r }) chain
  of_dead : {i : ℕ} {f : Fact} → slice_get (born entries) i ≡ Some f → IsPair axioms entries (Revived i) (equation_of f) (one_step (ByFact i) (equation_of f))

module _ (m : Meaning) where
  -- the term normalised by the facts that live, with at most so many steps
  abbrev pub NormalOf : List Entry → ℕ → Tree → Normal → Type 0
  NormalOf entries limit = IsNormalOf m.greater m.least (live entries) limit

  -- Goal and More: the left end is normalised, then the right one, with 4,096 steps together.
  pub record NormaliseBoth (entries : List Entry) (l r : Tree) (left right : Normal) : Type 0 where
    pub left_is : NormalOf entries 4096 l left
    pub right_is : NormalOf entries (4096 - length left.chain.steps) r right

  -- Join: the pair's equation is taken, each side is normalised with 4,096 steps a side, and the ends are tested for equality up
  -- to brackets and order, and then, where they aren't equal so, for ground joinability.
  pub record IsTrial (axioms : List Equation) (entries : List Entry) (origin : Origin) (t : Trial) : Type 0 where
    pub pair_is : IsPair axioms entries origin t.equation t.chain
    pub left_is : NormalOf entries 4096 t.equation.left t.left
    pub right_is : NormalOf entries 4096 t.equation.right t.right
    pub answer_is : IsEndsAnswer m (live entries) t.left.term t.right.term t.answer

  -- The fact that the ends give, turned so that the greater one is left where one is greater; it is made over so many entries.
  pub data GivesFact (origin : Origin) (front : ℕ) (t : Trial) : Fact → Type 0 where
    left_is_greater : m.greater t.left.term t.right.term → GivesFact origin front t (made true origin front t.left.term t.right.term (way t) t.left.stop t.right.stop)
    right_is_greater : m.greater t.right.term t.left.term → GivesFact origin front t (made true origin front t.right.term t.left.term (reversed (way t)) t.right.stop t.left.stop)
    none_is_greater : (m.greater t.left.term t.right.term → ⊥) → (m.greater t.right.term t.left.term → ⊥) → GivesFact origin front t (made false origin front t.left.term t.right.term (way t) t.left.stop t.right.stop)

  -- the equation makes an ordered step in the term
  pub record StepsIn (e : Equation) (u : Tree) : Type 0 where
    pub v : Tree
    pub step : OStep m.greater m.least (e ∷ []) u v

  -- an equation makes an ordered step in a side of another one, or has it as an instance, either way round
  pub data Reduces (e f : Equation) : Type 0 where
    in_left : StepsIn e f.left → Reduces e f
    in_right : StepsIn e f.right → Reduces e f
    has_instance : (side : Side) → IsInstanceFrom e side f.left f.right → Reduces e f

  module _ (entries : List Entry) (i : ℕ) (f : Equation) where
    -- a live fact other than i reduces i
    pub record IsReducedBy (k : ℕ) : Type 0 where
      pub other : k ≢ i
      pub equation : Equation
      pub equation_is : fact_at (live entries) k ≡ Some equation
      pub reduces : Reduces equation f

    -- the least such fact
    pub record IsStaleBy (k : ℕ) : Type 0 where
      pub reduced : IsReducedBy k
      pub least : (j : ℕ) → IsReducedBy j → k ≤ j

    -- no live fact does
    abbrev pub IsFresh : Type 0
    IsFresh = (k : ℕ) → IsReducedBy k → ⊥

    -- the kills are, by number, the live facts j < i that i reduces
    pub data AreKills : List Live → List ℕ → Type 0 where
      no_facts : AreKills [] []
      kills_it : {j : Live} {js : List Live} {ks : List ℕ} → j.number < i → Reduces f j.equation → AreKills js ks → AreKills (j ∷ js) (j.number ∷ ks)
      spares_it : {j : Live} {js : List Live} {ks : List ℕ} → j.number < i → (Reduces f j.equation → ⊥) → AreKills js ks → AreKills (j ∷ js) ks
      is_no_earlier : {j : Live} {js : List Live} {ks : List ℕ} → i ≤ j.number → AreKills js ks → AreKills (j ∷ js) ks

    -- the overlaps are those of outer j, inner i and then outer i, inner j, for each live j < i in order, and last of i with
    -- itself; dead facts are passed over
    pub data AreMeetings : List Live → List Formed → Type 0 where
      with_itself : {own : List Formed} → AreOverlaps m.greater i f i f own → AreMeetings [] own
      with_earlier : {j : Live} {js : List Live} {inside round rest : List Formed} → j.number < i → AreOverlaps m.greater j.number j.equation i f inside → AreOverlaps m.greater i f j.number j.equation round → AreMeetings js rest → AreMeetings (j ∷ js) (inside ++ (round ++ rest))
      not_with_later : {j : Live} {js : List Live} {rest : List Formed} → i ≤ j.number → AreMeetings js rest → AreMeetings (j ∷ js) rest

  -- What a task comes to, over the entries of its front.
  pub data IsResult (axioms : List Equation) (entries : List Entry) : Job → Finding → Type 0 where
    goal_comes_to : {g : ℕ} {l r : Tree} {left right : Normal} → NormaliseBoth entries l r left right → IsResult axioms entries (Goal g l r) (Ends left.chain right.chain (stop_of left.stop right.stop))
    more_comes_to : {g : ℕ} {l r : Tree} {left right : Normal} → NormaliseBoth entries l r left right → IsResult axioms entries (More g l r) (Ends left.chain right.chain (stop_of left.stop right.stop))
    pair_is_joined : {p : ℕ} {origin : Origin} {t : Trial} {why : Reason} → IsTrial axioms entries origin t → t.answer ≡ IsJoinedBy why → IsResult axioms entries (Join p origin) (Joined why)
    pair_is_kept : {p : ℕ} {origin : Origin} {t : Trial} {f : Fact} → IsTrial axioms entries origin t → (IsJoined t.answer → ⊥) → GivesFact origin (length entries) t f → IsResult axioms entries (Join p origin) (Kept f)
    fact_is_stale : {i k : ℕ} {f : Fact} → slice_get (born entries) i ≡ Some f → IsStaleBy entries i (equation_of f) k → IsResult axioms entries (Meet i) (Stale k)
    fact_meets : {i : ℕ} {f : Fact} {ks : List ℕ} {fs : List Formed} → slice_get (born entries) i ≡ Some f → IsFresh entries i (equation_of f) → AreKills entries i (equation_of f) (live entries) ks → AreMeetings entries i (equation_of f) (live entries) fs → IsResult axioms entries (Meet i) (Met ks fs)
