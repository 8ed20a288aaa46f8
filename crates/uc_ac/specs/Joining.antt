-- What the test of two terms for equality up to brackets and order answers: the facts of the associative and commutative
-- symbols that occur in them.
use Rattle.std.specs.Prelude.{ℕ, ◌≡◌, ◌<◌, ◌⊎◌, ◌↔◌, List, ◌∷◌, map, Option, Some, None}
use Rattle.std.specs.List.Sorted.{IsStrictlyIncreasing}
use Rattle.uc_term.specs.declared.node.Sym.{Sym}
use Rattle.uc_term.specs.Tree.{Tree, app, Trees, more}
use Rattle.uc_order.specs.Laws.{pair_of}
use Rattle.uc_order.specs.Members.{In, Each}
use Rattle.uc_fact.specs.Live.{Live}
use Rattle.uc_fact.specs.declared.ac_facts.AcFacts.{AcFacts}
use Rattle.uc_ac.specs.declared.ac_law.AcLaw.{AcLaw}
use Rattle.uc_ac.specs.declared.ac_law.AcLaw.TheVariants.{Assoc, Comm, Extended}
use Rattle.uc_ac.specs.AcEqual.{AcEqual}
use Rattle.uc_ac.specs.AcFacts.{IsFactThat, AreAcFacts, symbols_of}

-- the symbol heads, with two arguments, a subterm of the term, or of one of the terms
mutual
  pub data Heads (f : Sym) : Tree → Type 0 where
    heads_it : {s t : Tree} → Heads f (pair_of f s t)
    heads_below : {g : Sym} {ts : Trees} → HeadsOne f ts → Heads f (app g ts)

  pub data HeadsOne (f : Sym) : Trees → Type 0 where
    heads_first : {t : Tree} {ts : Trees} → Heads f t → HeadsOne f (more t ts)
    heads_later : {t : Tree} {ts : Trees} → HeadsOne f ts → HeadsOne f (more t ts)

-- the numbers of the symbols that head a subterm of one of the two terms with two arguments, each once, rising
pub record AreBinaryIn (s t : Tree) (numbers : List ℕ) : Type 0 where
  pub rising : IsStrictlyIncreasing numbers
  pub each : (f : Sym) → In numbers f.0 ↔ (Heads f s ⊎ Heads f t)

module _ (live : List Live) where
  -- the fact of that number is the law for the symbol, and none of a lesser number
  abbrev pub IsLeastThat : AcLaw → Sym → ℕ → Type 0
  IsLeastThat law f n = IsFactThat live law f n × ((k : ℕ) → k < n → IsFactThat live law f k → ⊥)

  -- of each of the three facts the least number
  pub record AreLeastFacts (facts : AcFacts) : Type 0 where
    pub assoc_is : IsLeastThat Assoc facts.symbol facts.assoc
    pub comm_is : IsLeastThat Comm facts.symbol facts.comm
    pub extended_is : IsLeastThat Extended facts.symbol facts.extended

  -- three live facts make the symbol associative and commutative
  pub record IsAcSymbol (f : Sym) : Type 0 where
    pub facts : AcFacts
    pub symbol_is : facts.symbol ≡ f
    pub are_facts : AreAcFacts live facts

  module _ (s t : Tree) where
    -- the list has the facts of each such symbol that occurs in the two terms, by symbol number
    pub record AreFactsOf (list : List AcFacts) : Type 0 where
      pub rising : IsStrictlyIncreasing (map (λ (facts : AcFacts). facts.symbol.0) list)
      pub least : Each AreLeastFacts list
      pub symbols : (f : Sym) → In (symbols_of list) f ↔ ((Heads f s ⊎ Heads f t) × IsAcSymbol f)

    -- The facts, where there are some and the terms are equal up to brackets and order at their symbols. None where no such symbol
    -- occurs in the terms, or they aren't equal so.
    pub data IsAcAnswer : Option (List AcFacts) → Type 0 where
      has_facts : {facts : AcFacts} {list : List AcFacts} → AreFactsOf (facts ∷ list) → AcEqual (symbols_of (facts ∷ list)) s t → IsAcAnswer (Some (facts ∷ list))
      has_none : ((facts : AcFacts) (list : List AcFacts) → AreFactsOf (facts ∷ list) → AcEqual (symbols_of (facts ∷ list)) s t → ⊥) → IsAcAnswer None
