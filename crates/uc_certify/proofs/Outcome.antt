-- The answer of the check, from what its parts answer.
use Rattle.std.proofs.Common.{◌≡◌, ℕ, IfOk, Result, Ok, Err, List, length, Option, Some, None, sym, subst}
use Rattle.uc_term.specs.declared.node.Sym.{Sym}
use Rattle.uc_term.specs.declared.fresh.Fresh.{Fresh}
use Rattle.uc_term.specs.declared.equation.Equation.{Equation}
use Rattle.uc_clause.specs.declared.clause.Sourced.{Sourced}
use Rattle.uc_check.specs.declared.proof.Line.{Line}
use Rattle.uc_check.specs.declared.checker.Cause.{Cause}
use Rattle.uc_check.specs.Checks.{FirstFailure}
use Rattle.uc_order.specs.Laws.{Meaning, Laws, HasSym}
use Rattle.uc_fact.specs.Ground.{AreOfSignature}
use Rattle.uc_decide.specs.Deciding.{Decides}
use Rattle.uc_problem.specs.declared.problem.Encoded.{Encoded}
use Rattle.uc_system.specs.Reading.{precedence_of}
use Rattle.uc_certificate.specs.declared.certificate.Certificate.{Certificate}
use Rattle.uc_certificate.specs.declared.certificate.Join.{Join}
use Rattle.uc_certify.specs.declared.certified.Certified.{Certified}
use Rattle.uc_certify.specs.declared.certified.Certified.TheVariants.{Yes, Line as WrongLine, Fact as WrongFact}
use Rattle.uc_certify.specs.Certifying.{AreSameSymbols, AreDerivedBefore, IsFirstUnderived, IsCertified, wrong_line, wrong_fact, by_joins}
use Rattle.uc_certify.specs.Gathering.{AreExpectedTested}
use Rattle.uc_certify.specs.Settings.{IsEncodingOf}
use Rattle.uc_certify.proofs.Decided.{certified_decides}

pub same_lists : (fs gs hs ks : List Sym) → fs ≡ hs → gs ≡ ks → AreSameSymbols fs gs → AreSameSymbols hs ks
same_lists fs gs hs ks e q h = subst (λ (l : List Sym). AreSameSymbols l ks) e (subst (AreSameSymbols fs) q h)

pub other_lists : (fs gs hs ks : List Sym) → fs ≡ hs → gs ≡ ks → (AreSameSymbols fs gs → ⊥) → AreSameSymbols hs ks → ⊥
other_lists fs gs hs ks e q n h = n (subst (λ (l : List Sym). AreSameSymbols l gs) (sym e) (subst (AreSameSymbols hs) (sym q) h))

module _ (m : Meaning) (clauses : List Sourced) (encoded : Encoded) (certificate : Certificate) where
  abbrev Named : Type 0
  Named = AreSameSymbols (precedence_of certificate.text.spec) encoded.signature.symbols

  pub line_fails : (fresh : Option Fresh) → fresh ≡ encoded.fresh → Named → (found : Option (ℕ × Cause)) (k : ℕ) (cause : Cause) → found ≡ Some (k, cause) → FirstFailure clauses fresh certificate.lines.lines found → IsCertified m clauses encoded certificate (WrongLine k cause)
  line_fails fresh e s found k cause q f = wrong_line s (subst (λ (x : Option (ℕ × Cause)). FirstFailure clauses encoded.fresh certificate.lines.lines x) q (subst (λ (x : Option Fresh). FirstFailure clauses x certificate.lines.lines found) e f))

  no_failure : (fresh : Option Fresh) → fresh ≡ encoded.fresh → (found : Option (ℕ × Cause)) → found ≡ None → FirstFailure clauses fresh certificate.lines.lines found → FirstFailure clauses encoded.fresh certificate.lines.lines None
  no_failure fresh e found q f = subst (λ (x : Option (ℕ × Cause)). FirstFailure clauses encoded.fresh certificate.lines.lines x) q (subst (λ (x : Option Fresh). FirstFailure clauses x certificate.lines.lines found) e f)

  module _ (fresh : Option Fresh) (fresh_is : fresh ≡ encoded.fresh) (s : Named) (found : Option (ℕ × Cause)) (none : found ≡ None) (f : FirstFailure clauses fresh certificate.lines.lines found) (numbers : List ℕ) (lines : List Line) (facts : List Equation) (numbers_are : numbers ≡ certificate.facts) (lines_are : lines ≡ certificate.lines.lines) (facts_are : facts ≡ certificate.text.system.facts) where
    pub fact_fails : (k : ℕ) → IsFirstUnderived numbers lines facts k → IsCertified m clauses encoded certificate (WrongFact k)
    fact_fails k u = wrong_fact s (no_failure fresh fresh_is found none f) (subst (λ (es : List Equation). IsFirstUnderived certificate.facts certificate.lines.lines es k) facts_are (subst (λ (ls : List Line). IsFirstUnderived certificate.facts ls facts k) lines_are (subst (λ (ns : List ℕ). IsFirstUnderived ns lines facts k) numbers_are u)))

    pub joins_decide : {E : Type 0} (r : Result Certified E) (axioms : List Equation) (joins : List Join) → axioms ≡ encoded.axioms → joins ≡ certificate.joins → AreDerivedBefore numbers lines facts (length facts) → IfOk r (AreExpectedTested m facts axioms joins) → IfOk r (IsCertified m clauses encoded certificate)
    joins_decide (Ok answer) axioms joins axioms_are joins_are d t =
        let derived : AreDerivedBefore certificate.facts certificate.lines.lines certificate.text.system.facts (length certificate.text.system.facts) = subst (λ (es : List Equation). AreDerivedBefore certificate.facts certificate.lines.lines es (length es)) facts_are (subst (λ (ls : List Line). AreDerivedBefore certificate.facts ls facts (length facts)) lines_are (subst (λ (ns : List ℕ). AreDerivedBefore ns lines facts (length facts)) numbers_are d)) in
        let tested : AreExpectedTested m certificate.text.system.facts encoded.axioms certificate.joins answer = subst (λ (es : List Equation). AreExpectedTested m es encoded.axioms certificate.joins answer) facts_are (subst (λ (js : List Join). AreExpectedTested m facts encoded.axioms js answer) joins_are (subst (λ (es : List Equation). AreExpectedTested m facts es joins answer) axioms_are t)) in
        by_joins s (no_failure fresh fresh_is found none f) derived tested.are_expected tested.tested
    joins_decide (Err e) axioms joins axioms_are joins_are d t = tt

  pub then_decides : {E : Type 0} (laws : Laws m) (r : Result Certified E) → AreSameSymbols m.symbols (precedence_of certificate.text.spec) → IfOk r (IsCertified m clauses encoded certificate) → IfOk r (λ answer. answer ≡ Yes → AreOfSignature (HasSym m) m.arity certificate.text.system.facts → IsEncodingOf m clauses encoded → Decides m certificate.text.system.facts encoded.axioms)
  then_decides laws (Ok answer) order h = λ q over e. certified_decides m laws clauses encoded certificate answer q h order over e
  then_decides laws (Err e) order h = tt
