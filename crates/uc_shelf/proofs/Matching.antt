-- Whether a term is an instance of a side of the fact that is born in one entry.
use Rattle.std.proofs.Common.{◌≡◌, ℕ, ◌++◌, true, false, List, [], ◌∷◌, sym, ap, ◌∙◌, subst}
use Rattle.uc_term.specs.Tree.{Tree}
use Rattle.uc_term.specs.Equations.{side_of}
use Rattle.uc_term.specs.declared.equation.Side.TheVariants.{Left, Right}
use Rattle.uc_unify.specs.Matching.{HasNoMatch}
use Rattle.uc_fact.specs.Against.{HasMatch}
use Rattle.uc_fact.specs.declared.fact.Fact.{Fact}
use Rattle.uc_fact.specs.Live.{rules_of, equation_of}
use Rattle.uc_fact.specs.Retrieval.{Generalises, no_rules}
use Rattle.uc_shelf.specs.declared.entry.Entry.{Entry}
use Rattle.uc_shelf.specs.declared.entry.Entry.TheVariants.{Born, Dies}
use Rattle.uc_shelf.specs.Entries.{is_dead, living}
use Rattle.uc_shelf.specs.Viewing.{rule_if_lives}
use Rattle.uc_shelf.proofs.Viewed.{both_sides, nothing_left, nothing_right, nothing_of, nothing_dead, something_alive, joined}

module _ (t : Tree) (all : List Entry) (n : ℕ) (f : Fact) (e : Entry) (born_is : e ≡ Born f) where
  rules_are : rules_of (living all n (e ∷ [])) ≡ rule_if_lives all Left n f ++ rule_if_lives all Right n f
  rules_are = ap (λ z. rules_of (living all n (z ∷ []))) born_is ∙ both_sides all n f

  pub left_matches : is_dead all n ≡ false → HasMatch (side_of Left (equation_of f)) t → Generalises t (rules_of (living all n (e ∷ []))) [] → ⊥
  left_matches b m g = something_alive t all Left n f b m (nothing_left t (rule_if_lives all Left n f) (rule_if_lives all Right n f) (subst (λ r. Generalises t r []) rules_are g))

  pub right_matches : is_dead all n ≡ false → HasMatch (side_of Right (equation_of f)) t → Generalises t (rules_of (living all n (e ∷ []))) [] → ⊥
  right_matches b m g = something_alive t all Right n f b m (nothing_right t (rule_if_lives all Left n f) (rule_if_lives all Right n f) (subst (λ r. Generalises t r []) rules_are g))

  pub none_matches : HasNoMatch (side_of Left (equation_of f)) t → HasNoMatch (side_of Right (equation_of f)) t → Generalises t (rules_of (living all n (e ∷ []))) []
  none_matches l r = subst (λ z. Generalises t z []) (sym rules_are) (joined t (rule_if_lives all Left n f) (rule_if_lives all Right n f) [] [] (nothing_of t all Left n f l) (nothing_of t all Right n f r))

  pub dead_matches : is_dead all n ≡ true → Generalises t (rules_of (living all n (e ∷ []))) []
  dead_matches b = subst (λ z. Generalises t z []) (sym rules_are) (joined t (rule_if_lives all Left n f) (rule_if_lives all Right n f) [] [] (nothing_dead t all Left n f b) (nothing_dead t all Right n f b))

pub death_matches : (t : Tree) (all : List Entry) (n fact killer : ℕ) (e : Entry) → e ≡ Dies fact killer → Generalises t (rules_of (living all n (e ∷ []))) []
death_matches t all n fact killer e is = subst (λ z. Generalises t (rules_of (living all n (z ∷ []))) []) (sym is) no_rules
