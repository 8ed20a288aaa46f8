-- A certificate that passes all tests shows that its facts decide what follows from the encoded axioms.
use Rattle.std.proofs.Common.{◌≡◌, ℕ, List, length, Option, Some, None, refl, sym, ap, ◌∙◌, subst}
use Rattle.std.proofs.lemmas.Option.{slice_get_within}
use Rattle.uc_term.specs.declared.node.Sym.{Sym}
use Rattle.uc_term.specs.declared.fresh.Fresh.{Fresh}
use Rattle.uc_term.specs.declared.equation.Equation.{Equation}
use Rattle.uc_term.specs.Table.{arity_of}
use Rattle.uc_term.specs.Tree.{Tree, var, app, Trees, none, more}
use Rattle.uc_term.specs.Over.{IsOver, AreOver, IsTerm}
use Rattle.uc_term.specs.Conversion.{Conv}
use Rattle.uc_clause.specs.declared.clause.Sourced.{Sourced}
use Rattle.uc_check.specs.declared.proof.Line.{Line}
use Rattle.uc_check.specs.declared.proof.LineSource.{LineSource}
use Rattle.uc_check.specs.declared.proof.LineSource.TheVariants.{File, Chain, Reflexive, EncodeGoal, Refute}
use Rattle.uc_check.specs.Lines.{IsChain}
use Rattle.uc_check.specs.Replacements.{IsRefutation}
use Rattle.uc_check.specs.Checks.{AreRightBefore}
use Rattle.uc_order.specs.Members.{In}
use Rattle.uc_order.specs.Laws.{Meaning, Laws, HasSym}
use Rattle.uc_fact.specs.Ground.{AreOfSignature}
use Rattle.uc_fact.specs.Live.{equations_of, numbered}
use Rattle.uc_rewrite.specs.Scanning.{numbered_rise}
use Rattle.uc_decide.specs.Converging.{FollowFrom, Converge}
use Rattle.uc_decide.specs.Deciding.{Decides}
use Rattle.uc_decide.proofs.Classes.{decides}
use Rattle.uc_problem.specs.declared.problem.Problem.{Problem}
use Rattle.uc_problem.specs.declared.problem.Encoded.{Encoded}
use Rattle.uc_problem.specs.Encodes.{encoding_of}
use Rattle.uc_system.specs.Reading.{precedence_of}
use Rattle.uc_certificate.specs.declared.certificate.Certificate.{Certificate}
use Rattle.uc_certify.specs.declared.certified.Certified.{Certified}
use Rattle.uc_certify.specs.declared.certified.Certified.TheVariants.{Yes}
use Rattle.uc_certify.specs.declared.expected.Member.{Member}
use Rattle.uc_certify.specs.Expecting.{AreExpected}
use Rattle.uc_certify.specs.Certifying.{AreSameSymbols, AreDerivedBefore, AreTested, IsCertified, other_symbols, wrong_line, wrong_fact, by_joins}
use Rattle.uc_certify.specs.Settings.{IsEncodingOf}
use Rattle.uc_certify.proofs.Covered.{both_join}
use Rattle.uc_certify.proofs.Numbered.{equations_numbered}
use Rattle.uc_certify.proofs.Derived.{premises, says_all}

-- a term over a signature is one over another that has its symbols, with the same arities
module _ (has had : Sym → Type 0) (arity other : Sym → ℕ) (into : (f : Sym) → has f → had f × (other f ≡ arity f)) where
  -- with any variables
  module _ (Known : ℕ → Type 0) where
    mutual
      pub over_into : (t : Tree) → IsOver has arity Known t → IsTerm had other t
      over_into (var x) o = tt
      over_into (app f ts) o = let i = into f o.0 in (i.0, o.1 ∙ sym i.1, all_over_into ts o.2)

      all_over_into : (ts : Trees) → AreOver has arity Known ts → AreOver had other (λ _. Unit {0}) ts
      all_over_into none o = tt
      all_over_into (more t ts) o = (over_into t o.0, all_over_into ts o.1)

  term_into : (t : Tree) → IsTerm has arity t → IsTerm had other t
  term_into = over_into (λ _. Unit {0})

no_chain_refutes : (source : LineSource) → IsChain source → IsRefutation source → ⊥
no_chain_refutes (File name) c r = c
no_chain_refutes (Chain start steps parents) c r = r
no_chain_refutes (Reflexive parents) c r = c
no_chain_refutes (EncodeGoal parents) c r = c
no_chain_refutes (Refute parents) c r = c

-- the axioms of an encoding
premises_are : (problem : Problem) (fresh : Option Fresh) → (encoding_of problem fresh).axioms ≡ premises fresh problem.clauses
premises_are problem None = refl
premises_are problem (Some m) = refl

-- each fact that is derived follows
facts_follow : (clauses : List Sourced) (fresh : Option Fresh) (lines : List Line) (numbers : List ℕ) (facts : List Equation) → AreRightBefore clauses fresh lines (length lines) → AreDerivedBefore numbers lines facts (length facts) → FollowFrom (premises fresh clauses) facts
facts_follow clauses fresh lines numbers facts right derived k e at =
    let d = derived k e (slice_get_within facts k e at) at in
    let c = says_all clauses fresh lines right d.number (slice_get_within lines d.number d.line d.line_is) d.line d.line_is d.derived.1 (no_chain_refutes d.line.source d.derived.0) in
    subst (λ (t : Tree). Conv (premises fresh clauses) e.left t) d.right_is (subst (λ (t : Tree). Conv (premises fresh clauses) t d.line.right) d.left_is c)

module _ (m : Meaning) (laws : Laws m) (clauses : List Sourced) (encoded : Encoded) (certificate : Certificate) where
  abbrev facts : List Equation
  facts = certificate.text.system.facts

  by_all : (members : List Member) → AreRightBefore clauses encoded.fresh certificate.lines.lines (length certificate.lines.lines) → AreDerivedBefore certificate.facts certificate.lines.lines facts (length facts) → AreExpected m.greater facts encoded.axioms members → AreTested m facts encoded.axioms members certificate.joins 0 Yes → AreSameSymbols m.symbols encoded.signature.symbols → AreOfSignature (HasSym m) m.arity facts → IsEncodingOf m clauses encoded → Decides m facts encoded.axioms
  by_all members right derived expected tested symbols over e =
      let both = both_join m laws facts encoded.axioms members certificate.joins 0 expected tested in
      let axioms_are : encoded.axioms ≡ premises encoded.fresh clauses = ap (λ (x : Encoded). x.axioms) e.encodes.1 ∙ premises_are e.problem encoded.fresh ∙ ap (premises encoded.fresh) e.clauses_are in
      let follow : FollowFrom encoded.axioms facts = subst (λ (es : List Equation). FollowFrom es facts) (sym axioms_are) (facts_follow clauses encoded.fresh certificate.lines.lines certificate.facts facts right derived) in
      let same : equations_of (numbered facts) ≡ facts = equations_numbered 0 facts in
      let converge : Converge m (numbered facts) encoded.axioms = record { rising = numbered_rise facts; overlaps = both.0; axioms_join = both.1; facts_follow = subst (FollowFrom encoded.axioms) (sym same) follow } in
      let into : (f : Sym) → In encoded.signature.symbols f → HasSym m f × (m.arity f ≡ arity_of e.table f) = λ f i. let h = (symbols f).1 i in (h, e.arities f h) in
      let axioms_over : AreOfSignature (HasSym m) m.arity encoded.axioms = λ k x at. let p = e.axioms_over k x at in (term_into (In encoded.signature.symbols) (HasSym m) (arity_of e.table) m.arity into x.left p.0, term_into (In encoded.signature.symbols) (HasSym m) (arity_of e.table) m.arity into x.right p.1) in
      subst (λ (es : List Equation). Decides m es encoded.axioms) same (decides m laws (numbered facts) encoded.axioms converge (subst (AreOfSignature (HasSym m) m.arity) (sym same) over) axioms_over)

  pub certified_decides : (answer : Certified) → answer ≡ Yes → IsCertified m clauses encoded certificate answer → AreSameSymbols m.symbols (precedence_of certificate.text.spec) → AreOfSignature (HasSym m) m.arity facts → IsEncodingOf m clauses encoded → Decides m facts encoded.axioms
  certified_decides _ q (other_symbols n) order over e = absurd cc
  certified_decides _ q (wrong_line s f) order over e = absurd cc
  certified_decides _ q (wrong_fact s f u) order over e = absurd cc
  certified_decides answer q (by_joins {members = members} s f d x t) order over e =
      let t' = subst (AreTested m facts encoded.axioms members certificate.joins 0) q t in
      by_all members f d x t' (λ g. ((λ i. (s g).0 ((order g).0 i)), (λ i. (order g).1 ((s g).1 i)))) over e
