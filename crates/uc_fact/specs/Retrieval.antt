-- What is found for a term: the sides of live facts of which it is an instance.
use Rattle.std.specs.Prelude.{ℕ, List, [], ◌∷◌, Option, Some, None}
use Rattle.uc_term.specs.Tree.{Tree}
use Rattle.uc_unify.specs.Matching.{IsMatch, HasNoMatch}
use Rattle.uc_fact.specs.declared.index.Found.{Found}
use Rattle.uc_fact.specs.Live.{Rule}

-- the side from which the rule is read, with a substitution
abbrev pub found_by : Rule → List (ℕ × Tree) → Found
found_by rule pairs = record { fact = rule.number; side = rule.side; subst = pairs }

-- The list has each rule from whose side the term is an instance, once, in the order of the rules, with the substitution.
pub data Generalises (t : Tree) : List Rule → List Found → Type 0 where
  no_rules : Generalises t [] []
  is_instance : {rule : Rule} {rules : List Rule} {pairs : List (ℕ × Tree)} {list : List Found} → IsMatch rule.from t pairs → Generalises t rules list → Generalises t (rule ∷ rules) (found_by rule pairs ∷ list)
  is_no_instance : {rule : Rule} {rules : List Rule} {list : List Found} → HasNoMatch rule.from t → Generalises t rules list → Generalises t (rule ∷ rules) list

-- the term is an instance of no side
abbrev pub FindsNothing : Tree → List Rule → Type 0
FindsNothing t rules = Generalises t rules []

-- it is what one of the rules gives, which leads from the one term to the other
pub data IsFound (t : Tree) : List Rule → Found → Tree → Tree → Type 0 where
  by_first : {rule : Rule} {rules : List Rule} {pairs : List (ℕ × Tree)} → IsMatch rule.from t pairs → IsFound t (rule ∷ rules) (found_by rule pairs) rule.from rule.to
  by_later : {rule : Rule} {rules : List Rule} {found : Found} {from to : Tree} → IsFound t rules found from to → IsFound t (rule ∷ rules) found from to

-- What the first rule gives that gives something accepted; none, where no rule does.
pub data FirstThat (Accepted : Found → Type 0) (t : Tree) : List Rule → Option Found → Type 0 where
  no_rule_left : FirstThat Accepted t [] None
  accepted : {rule : Rule} {rules : List Rule} {pairs : List (ℕ × Tree)} → IsMatch rule.from t pairs → Accepted (found_by rule pairs) → FirstThat Accepted t (rule ∷ rules) (Some (found_by rule pairs))
  not_accepted : {rule : Rule} {rules : List Rule} {answer : Option Found} → ((pairs : List (ℕ × Tree)) → IsMatch rule.from t pairs → Accepted (found_by rule pairs) → ⊥) → FirstThat Accepted t rules answer → FirstThat Accepted t (rule ∷ rules) answer

-- the first element of a list that is accepted; none, where none is
pub data FirstOf (Accepted : Found → Type 0) : List Found → Option Found → Type 0 where
  none_left : FirstOf Accepted [] None
  is_first : {found : Found} {list : List Found} → Accepted found → FirstOf Accepted (found ∷ list) (Some found)
  is_later : {found : Found} {list : List Found} {answer : Option Found} → (Accepted found → ⊥) → FirstOf Accepted list answer → FirstOf Accepted (found ∷ list) answer
