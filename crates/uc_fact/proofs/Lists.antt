-- What is found for a term is one list, and the first that is accepted is the first of the list that is.
use Rattle.std.proofs.Common.{◌≡◌, ℕ, List, [], ◌∷◌, Option, refl, sym, ap₂, subst}
use Rattle.uc_term.specs.Tree.{Tree}
use Rattle.uc_term.specs.Subst.{image}
use Rattle.uc_unify.specs.Matching.{IsMatch, HasNoMatch}
use Rattle.uc_fact.specs.declared.index.Found.{Found}
use Rattle.uc_fact.specs.Live.{Rule}
use Rattle.uc_fact.specs.Retrieval.{found_by, Generalises, no_rules, is_instance, is_no_instance, FirstThat, no_rule_left, accepted, not_accepted, FirstOf, none_left, is_first, is_later}
use Rattle.uc_fact.proofs.Matched.{one_match}

clash : {A : Type 0} {pattern t : Tree} {pairs : List (ℕ × Tree)} → IsMatch pattern t pairs → HasNoMatch pattern t → A
clash {pairs = pairs} m n = absurd (n (image pairs) m.gives)

pub one : (t : Tree) (rules : List Rule) (a b : List Found) → Generalises t rules a → Generalises t rules b → a ≡ b
one t [] a b no_rules no_rules = refl
one t (rule ∷ rules) a b (is_instance {pairs = p} m g) (is_instance {pairs = q} n h) = ap₂ (λ pairs list. found_by rule pairs ∷ list) (one_match rule.from t p q m n) (one t rules _ _ g h)
one t (rule ∷ rules) a b (is_instance m g) (is_no_instance n h) = clash m n
one t (rule ∷ rules) a b (is_no_instance n g) (is_instance m h) = clash m n
one t (rule ∷ rules) a b (is_no_instance m g) (is_no_instance n h) = one t rules _ _ g h

module _ (Accepted : Found → Type 0) (t : Tree) where
  pub of_list : (rules : List Rule) (list : List Found) (answer : Option Found) → Generalises t rules list → FirstThat Accepted t rules answer → FirstOf Accepted list answer
  of_list [] list answer no_rules no_rule_left = none_left
  of_list (rule ∷ rules) list answer (is_instance {pairs = p} {list = rest} m g) (accepted {pairs = q} n a) = rw (one_match rule.from t p q m n) (is_first a)
  of_list (rule ∷ rules) list answer (is_instance {pairs = p} {list = rest} m g) (not_accepted n f) = is_later (n p m) (of_list rules rest answer g f)
  of_list (rule ∷ rules) list answer (is_no_instance n g) (accepted m a) = clash m n
  of_list (rule ∷ rules) list answer (is_no_instance n g) (not_accepted k f) = of_list rules list answer g f

-- what holds of two terms holds of those that are equal to them
pub of_equal : (P : Tree → Tree → Type 0) (from to from' to' : Tree) → from' ≡ from → to' ≡ to → P from to → P from' to'
of_equal P from to from' to' e h p = subst (λ z. P from' z) (sym h) (subst (λ z. P z to) (sym e) p)
