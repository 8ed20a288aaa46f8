-- The three facts that make a binary symbol associative and commutative.
use Rattle.std.specs.Prelude.{ℕ, ◌≡◌, ◌++◌, List, [], ◌∷◌, map, Some, option_to_list}
use Rattle.uc_term.specs.declared.node.Sym.{Sym}
use Rattle.uc_term.specs.declared.equation.Equation.{Equation}
use Rattle.uc_fact.specs.Live.{Live, fact_at}
use Rattle.uc_fact.specs.declared.ac_facts.AcFacts.{AcFacts}
use Rattle.uc_ac.specs.declared.ac_law.AcLaw.{AcLaw}
use Rattle.uc_ac.specs.declared.ac_law.AcLaw.TheVariants.{Assoc, Comm, Extended}
use Rattle.uc_ac.specs.AcLaw.{IsLaw}

-- the fact of that number lives and is the law for the symbol
abbrev pub IsFactThat : List Live → AcLaw → Sym → ℕ → Type 0
IsFactThat live law f n = (e : Equation) × (fact_at live n ≡ Some e) × IsLaw law f e

-- the three named facts live and make the symbol associative and commutative
pub record AreAcFacts (live : List Live) (facts : AcFacts) : Type 0 where
  pub assoc_is : IsFactThat live Assoc facts.symbol facts.assoc
  pub comm_is : IsFactThat live Comm facts.symbol facts.comm
  pub extended_is : IsFactThat live Extended facts.symbol facts.extended

abbrev pub symbols_of : List AcFacts → List Sym
symbols_of list = map (λ facts. facts.symbol) list

-- the equations of the named facts alone
abbrev pub three_equations : List Live → AcFacts → List Equation
three_equations live facts = option_to_list (fact_at live facts.assoc) ++ option_to_list (fact_at live facts.comm) ++ option_to_list (fact_at live facts.extended)

abbrev pub named_equations : List Live → List AcFacts → List Equation
named_equations live [] = []
named_equations live (facts ∷ list) = three_equations live facts ++ named_equations live list
