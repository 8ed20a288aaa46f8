-- What the check of a certificate answers: the first of its tests that fails, in their order, or that all are passed.
use Rattle.std.specs.Prelude.{ℕ, ◌≡◌, ◌<◌, ◌+◌, ◌↔◌, List, [], ◌∷◌, length, slice_get, Some, None}
use Rattle.uc_term.specs.declared.node.Sym.{Sym}
use Rattle.uc_term.specs.declared.equation.Equation.{Equation}
use Rattle.uc_clause.specs.declared.clause.Sourced.{Sourced}
use Rattle.uc_check.specs.declared.proof.Line.{Line}
use Rattle.uc_check.specs.declared.checker.Cause.{Cause}
use Rattle.uc_check.specs.Lines.{IsDerived}
use Rattle.uc_check.specs.Checks.{FirstFailure}
use Rattle.uc_order.specs.Members.{In}
use Rattle.uc_order.specs.Laws.{Meaning}
use Rattle.uc_pair.specs.declared.formed.Formed.{Formed}
use Rattle.uc_problem.specs.declared.problem.Encoded.{Encoded}
use Rattle.uc_system.specs.Reading.{precedence_of}
use Rattle.uc_certificate.specs.declared.certificate.Certificate.{Certificate}
use Rattle.uc_certificate.specs.declared.certificate.Join.{Join}
use Rattle.uc_certify.specs.declared.expected.Member.{Member}
use Rattle.uc_certify.specs.declared.expected.Member.TheVariants.{Overlap}
use Rattle.uc_certify.specs.declared.certified.Certified.{Certified}
use Rattle.uc_certify.specs.declared.certified.Certified.TheVariants.{Yes, Symbols, Line as WrongLine, Fact as WrongFact, Join as WrongJoin, Large}
use Rattle.uc_certify.specs.Expecting.{AreExpected, IsLarge, IsLargeMember}
use Rattle.uc_certify.specs.Joining.{IsRightJoin}

-- the two lists have the same symbols
abbrev pub AreSameSymbols : List Sym → List Sym → Type 0
AreSameSymbols fs gs = (f : Sym) → In fs f ↔ In gs f

-- The certificate names a line for the fact of this number, and it is a chain line of the fact's equation, sides in order.
pub record IsDerivedFact (numbers : List ℕ) (lines : List Line) (k : ℕ) (fact : Equation) : Type 0 where
  pub number : ℕ
  pub number_is : slice_get numbers k ≡ Some number
  pub line : Line
  pub line_is : slice_get lines number ≡ Some line
  pub derived : IsDerived line
  pub left_is : line.left ≡ fact.left
  pub right_is : line.right ≡ fact.right

module _ (numbers : List ℕ) (lines : List Line) (facts : List Equation) where
  -- each fact before this one is derived so
  abbrev pub AreDerivedBefore : ℕ → Type 0
  AreDerivedBefore n = (k : ℕ) (fact : Equation) → k < n → slice_get facts k ≡ Some fact → IsDerivedFact numbers lines k fact

  -- this one is the first that isn't
  pub record IsFirstUnderived (k : ℕ) : Type 0 where
    pub fact : Equation
    pub fact_is : slice_get facts k ≡ Some fact
    pub not_derived : IsDerivedFact numbers lines k fact → ⊥
    pub before : AreDerivedBefore k

module _ (m : Meaning) (facts axioms : List Equation) where
  -- What the joins from this number on come to, tested along the rest of the members that are expected: for each member, whether
  -- it is an overlap whose pair is too large, before the join is looked at; and then whether the join is there and is right for
  -- the member. Behind the last member there is no join.
  pub data AreTested : List Member → List Join → ℕ → Certified → Type 0 where
    all_joined : {n : ℕ} → AreTested [] [] n Yes
    too_many : {join : Join} {joins : List Join} {n : ℕ} → AreTested [] (join ∷ joins) n (WrongJoin n)
    is_large : {formed : Formed} {members : List Member} {joins : List Join} {n : ℕ} → IsLarge formed → AreTested (Overlap formed ∷ members) joins n (Large formed.overlap)
    is_missing : {member : Member} {members : List Member} {n : ℕ} → (IsLargeMember member → ⊥) → AreTested (member ∷ members) [] n (WrongJoin n)
    is_wrong : {member : Member} {members : List Member} {join : Join} {joins : List Join} {n : ℕ} → (IsLargeMember member → ⊥) → (IsRightJoin m facts axioms member join → ⊥) → AreTested (member ∷ members) (join ∷ joins) n (WrongJoin n)
    is_right : {member : Member} {members : List Member} {join : Join} {joins : List Join} {n : ℕ} {answer : Certified} → (IsLargeMember member → ⊥) → IsRightJoin m facts axioms member join → AreTested members joins (n + 1) answer → AreTested (member ∷ members) (join ∷ joins) n answer

module _ (m : Meaning) (clauses : List Sourced) (encoded : Encoded) (certificate : Certificate) where
  abbrev pub facts_of : List Equation
  facts_of = certificate.text.system.facts

  -- the symbol lines name exactly the symbols of the encoded problem
  abbrev pub NamesSymbols : Type 0
  NamesSymbols = AreSameSymbols (precedence_of certificate.text.spec) encoded.signature.symbols

  -- The answer, by the first of the tests that fails: the symbol lines; the lines of the derivation; the lines that are named for
  -- the facts; and the joins.
  pub data IsCertified : Certified → Type 0 where
    other_symbols : (NamesSymbols → ⊥) → IsCertified Symbols
    wrong_line : {k : ℕ} {cause : Cause} → NamesSymbols → FirstFailure clauses encoded.fresh certificate.lines.lines (Some (k, cause)) → IsCertified (WrongLine k cause)
    wrong_fact : {k : ℕ} → NamesSymbols → FirstFailure clauses encoded.fresh certificate.lines.lines None → IsFirstUnderived certificate.facts certificate.lines.lines facts_of k → IsCertified (WrongFact k)
    by_joins : {members : List Member} {answer : Certified} → NamesSymbols → FirstFailure clauses encoded.fresh certificate.lines.lines None → AreDerivedBefore certificate.facts certificate.lines.lines facts_of (length facts_of) → AreExpected m.greater facts_of encoded.axioms members → AreTested m facts_of encoded.axioms members certificate.joins 0 answer → IsCertified answer
