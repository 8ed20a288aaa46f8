-- At most one clause is the denial of a conjecture: what a walk over the clauses has found.
use Rattle.std.proofs.Common.{◌≡◌, ℕ, ◌+◌, ◌<◌, List, ◌∷◌, ◌++◌, length, drop, get_or, codes, true, Option, Some, None, is_some, sym, ap, ◌∙◌}
use Rattle.std.proofs.lemmas.List.{drop_more}
use Rattle.uc_clause.specs.declared.token.Place.{Place}
use Rattle.uc_clause.specs.declared.fault.ClauseFault.TheVariants.{Unsupported}
use Rattle.uc_problem.specs.declared.fault.LoadFault.TheVariants as fault
use Rattle.uc_problem.specs.declared.flat.FlatClause.{FlatClause}
use Rattle.uc_problem.specs.Conjecture.{spot_of, conjectures, conjecture_from}
use Rattle.uc_problem.specs.Assembly.{IsUnclosed, has_second}

module _ (ss : List FlatClause) where
  -- before this number no clause was a conjecture, or one was
  abbrev pub HasFound : ℕ → Option ℕ → Type 0
  HasFound n None = (conjecture_from 0 ss ≡ conjecture_from n (drop n ss)) × (conjectures ss ≡ conjectures (drop n ss))
  HasFound n (Some first) = (conjecture_from 0 ss ≡ Some first) × (spot : List ℕ × Place) × (conjectures ss ≡ spot ∷ conjectures (drop n ss))

  module _ (n : ℕ) (within : n < length ss) (s : FlatClause) (is : s ≡ get_or ss n s) where
    begins : drop n ss ≡ s ∷ drop (n + 1) ss
    begins = drop_more ss n s within ∙ ap (λ x. x ∷ drop (n + 1) ss) (sym is)

    spots : (o : Option Place) → s.conjecture ≡ o → conjectures (drop n ss) ≡ spot_of s.file o ++ conjectures (drop (n + 1) ss)
    spots o e = ap conjectures begins ∙ ap (λ p. spot_of s.file p ++ conjectures (drop (n + 1) ss)) e

    -- another conjecture is refused
    pub second_clause : (place : Place) (first : Option ℕ) (file text : List ℕ) → s.conjecture ≡ Some place → is_some first ≡ true → HasFound n first → file ≡ s.file → text ≡ codes "conjecture" → IsUnclosed ss (fault.Clause file (Unsupported place text))
    second_clause place None file text e some h file_is text_is = absurd cc
    second_clause place (Some first) file text e some h file_is text_is = rw (file_is, text_is) (has_second (h.2 ∙ ap (λ l. h.1 ∷ l) (spots (Some place) e)))
