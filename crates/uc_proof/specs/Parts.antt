-- The order of the lines of a proof.
use Rattle.std.specs.Prelude.{ℕ, zero, suc, ◌+◌, Bool, true, false, List, [], ◌∷◌, ◌++◌, map, if◌then◌else◌}
use Rattle.uc_fact.specs.declared.chain.By.{By}
use Rattle.uc_fact.specs.declared.chain.By.TheVariants.{Axiom as AxiomOf, Fact as FactOf}
use Rattle.uc_problem.specs.declared.problem.Problem.{Problem}
use Rattle.uc_problem.specs.declared.problem.Encoded.{Encoded}
use Rattle.uc_problem.specs.declared.problem.Source.{Source}
use Rattle.uc_problem.specs.declared.problem.Source.TheVariants as source
use Rattle.uc_proof.specs.declared.part.Part.{Part}
use Rattle.uc_proof.specs.declared.part.Part.TheVariants as part

-- the part whose line says the equation by which a step is made
abbrev pub part_of : By → Part
part_of (AxiomOf k) = part.Axiom k
part_of (FactOf n) = part.Fact n

-- the axiom is a clause of the problem, and none of the encoding's
abbrev pub is_clause : Source → Bool
is_clause (source.Clause c) = true
is_clause other = false

abbrev pub is_encoding : Source → Bool
is_encoding (source.Clause c) = false
is_encoding other = true

-- the axioms whose sources are so, by number, where the first has this number
abbrev pub axioms_where : (Source → Bool) → ℕ → List Source → List Part
axioms_where is n [] = []
axioms_where is n (s ∷ ss) = if is s then part.Axiom n ∷ axioms_where is (n + 1) ss else axioms_where is (n + 1) ss

-- so many facts, by number from n on
abbrev pub facts_from : ℕ → ℕ → List Part
facts_from n zero = []
facts_from n (suc more) = part.Fact n ∷ facts_from (n + 1) more

-- For so many facts: the clauses of the axioms, by number; those of the goals, by number; the encoding's axioms, by number; the facts, by number; the
-- goal's chain; and the refutation.
abbrev pub all_parts : Problem → Encoded → ℕ → List Part
all_parts problem encoded facts = axioms_where is_clause 0 encoded.sources ++ (map part.Denial problem.goals ++ (axioms_where is_encoding 0 encoded.sources ++ (facts_from 0 facts ++ part.Conclusion ∷ part.Refutation ∷ [])))

-- those of a list for which this holds, in the list's order, and no other
pub data Selects (Is : Part → Type 0) : List Part → List Part → Type 0 where
  selects_none : Selects Is [] []
  selects : {p : Part} {ps qs : List Part} → Is p → Selects Is ps qs → Selects Is (p ∷ ps) (p ∷ qs)
  passes : {p : Part} {ps qs : List Part} → (Is p → ⊥) → Selects Is ps qs → Selects Is (p ∷ ps) qs
