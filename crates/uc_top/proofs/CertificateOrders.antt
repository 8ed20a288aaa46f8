-- The order of a certificate's own symbols: its symbols, their arities in terms over the table, and what a certificate that passes all
-- tests decides.
use Rattle.std.proofs.Common.{ℕ, zero, suc, ◌≡◌, ◌↔◌, List, [], ◌∷◌, ◌++◌, Option, Some, None, Ok, slice_get, refl, sym, ◌∙◌, subst}
use Rattle.uc_term.specs.declared.node.Sym.{Sym}
use Rattle.uc_term.specs.declared.fresh.Fresh.{Fresh}
use Rattle.uc_term.specs.declared.equation.Equation.{Equation}
use Rattle.uc_term.specs.declared.signature.Signature.{Signature}
use Rattle.uc_term.specs.Conversion.{Conv}
use Rattle.uc_term.specs.Tree.{Tree, var, app, Trees, none, more}
use Rattle.uc_term.specs.Over.{AreOver, IsTerm}
use Rattle.uc_term.specs.Table.{Table, Grows, Has, IsOf, arity_of}
use Rattle.uc_clause.specs.declared.clause.Sourced.{Sourced}
use Rattle.uc_problem.specs.declared.problem.Problem.{Problem}
use Rattle.uc_problem.specs.declared.problem.Encoded.{Encoded}
use Rattle.uc_problem.specs.Encodes.{Encodes}
use Rattle.uc_problem.specs.Holds.{Agrees}
use Rattle.uc_problem.specs.Marks.{Marks}
use Rattle.uc_problem.proofs.FreshMarks.{signature_has, marks_later}
use Rattle.uc_problem.proofs.Growth.{agrees_later}
use Rattle.uc_order.specs.Members.{In, in_front, in_rest, Each}
use Rattle.uc_order.specs.Laws.{Meaning, HasSym, IsGroundOf}
use Rattle.uc_order.specs.declared.spec.OrderSpec.{OrderSpec}
use Rattle.uc_fact.specs.Ground.{AreOfSignature}
use Rattle.uc_decide.specs.Deciding.{Decides}
use Rattle.uc_decide.specs.NormalForms.{HasNormalForm, HasOneNormalForm}
use Rattle.uc_check.specs.Clauses.{axioms_of}
use Rattle.uc_ordering.specs.Choice.{all_symbols}
use Rattle.uc_ordering.specs.Fits.{Fits}
use Rattle.uc_ordering.specs.Meaning.{meaning_of}
use Rattle.uc_system.specs.Facts.{IsFact}
use Rattle.uc_system.specs.Reading.{precedence_of, IsSystem}
use Rattle.uc_certificate.specs.declared.certificate.Certificate.{Certificate}
use Rattle.uc_certificate.specs.declared.certificate.Case.{Case}
use Rattle.uc_certificate.specs.declared.certificate.End.{End}
use Rattle.uc_certificate.specs.declared.certificate.End.TheVariants.{Same, Instance, Orders, Ac}
use Rattle.uc_certificate.specs.declared.certificate.Join.{Join}
use Rattle.uc_certificate.specs.declared.certificate.Move.{Move}
use Rattle.uc_certificate.specs.Arities.{KeepsArities, AllKeepArities, MovesKeepArities, CaseKeepsArities, EndKeepsArities, JoinKeepsArities, JoinsKeepArities}
use Rattle.uc_certificate.specs.Having.{MovesHave, CaseHas, EndHas, JoinHas, JoinsHave}
use Rattle.uc_certify.specs.declared.certified.Certified.{Certified}
use Rattle.uc_certify.specs.declared.certified.Certified.TheVariants.{Yes}
use Rattle.uc_certify.specs.Certifying.{AreSameSymbols, IsCertified, other_symbols, wrong_line, wrong_fact, by_joins}
use Rattle.uc_certify.specs.Settings.{IsEncodingOf}
use Rattle.uc_certify.proofs.Decided.{certified_decides}
use Rattle.uc_answer.proofs.OrderLaws.{spec_laws}
use Rattle.uc_answer.proofs.OverSignature.{encoded_problem_over}
use Rattle.uc_answer.proofs.PrintableSymbols.{encoded_symbols}
use Rattle.uc_answer.specs.Promises.{IsOwnGround}
use Rattle.uc_answer.proofs.OwnTerms.{own_equal}
use Rattle.uc_answer.proofs.SpecSymbols.{known_symbol, symbol_known, order_term, over_from}

pub each_mapped : {A : Type 0} (P Q : A → Type 0) → ((x : A) → P x → Q x) → (xs : List A) → Each P xs → Each Q xs
each_mapped P Q k [] h = tt
each_mapped P Q k (x ∷ xs) h = (k x h.0, each_mapped P Q k xs h.1)

each_at : {A : Type 0} (P : A → Type 0) (xs : List A) → Each P xs → (n : ℕ) (x : A) → slice_get xs n ≡ Some x → P x
each_at P [] h n x e = absurd cc
each_at P (y ∷ ys) h zero x e = let same : y ≡ x = cc in subst P same h.0
each_at P (y ∷ ys) h (suc n) x e = each_at P ys h.1 n x e

module _ (table : Table) (spec : OrderSpec) (fits : Fits table (precedence_of spec) spec) where
  abbrev m : Meaning
  m = meaning_of table spec

  -- the order's symbols are those of its lines
  pub own_symbols : AreSameSymbols m.symbols (precedence_of spec)
  own_symbols f = ((λ i. (known_symbol table (precedence_of spec) spec fits f i).0), (λ i. (symbol_known table (precedence_of spec) spec fits f i).0))

  -- a term over the table has for each of them as many arguments as its arity
  mutual
    keeps : (t : Tree) → IsOf table t → KeepsArities m t
    keeps (var x) h = tt
    keeps (app f ts) h = ((λ i. h.1 ∙ sym (known_symbol table (precedence_of spec) spec fits f i).1), all_keep ts h.2)

    all_keep : (ts : Trees) → AreOver (Has table) (arity_of table) (λ _. Unit {0}) ts → AllKeepArities m ts
    all_keep none h = tt
    all_keep (more t ts) h = (keeps t h.0, all_keep ts h.1)

  moves_keep : (moves : List Move) → MovesHave (IsOf table) moves → MovesKeepArities m moves
  moves_keep moves h = each_mapped (λ (move : Move). IsOf table move.to) (λ (move : Move). KeepsArities m move.to) (λ move. keeps move.to) moves h

  case_keeps : (case : Case) → CaseHas (IsOf table) case → CaseKeepsArities m case
  case_keeps case h = (moves_keep case.left h.0, moves_keep case.right h.1)

  end_keeps : (end : End) → EndHas (IsOf table) end → EndKeepsArities m end
  end_keeps Same h = tt
  end_keeps (Instance number) h = tt
  end_keeps (Orders cases) h = each_mapped (CaseHas (IsOf table)) (CaseKeepsArities m) case_keeps cases h
  end_keeps (Ac triples) h = tt

  join_keeps : (join : Join) → JoinHas (IsOf table) join → JoinKeepsArities m join
  join_keeps join h = (moves_keep join.left h.0, moves_keep join.right h.1, end_keeps join.end h.2)

  pub joins_keep : (joins : List Join) → JoinsHave (IsOf table) joins → JoinsKeepArities m joins
  joins_keep joins h = each_mapped (JoinHas (IsOf table)) (JoinKeepsArities m) join_keeps joins h

  pub facts_over : (facts : List Equation) → Each (IsFact table (precedence_of spec)) facts → AreOfSignature (HasSym m) m.arity facts
  facts_over facts h n e at =
      let fact = each_at (IsFact table (precedence_of spec)) facts h n e at in
      (order_term table (precedence_of spec) spec fits e.left fact.left.over, order_term table (precedence_of spec) spec fits e.right fact.right.over)

encodes_later : (old new : Table) (problem : Problem) (encoded : Encoded) → Grows old new → Agrees old problem → Encodes old problem (Ok encoded) → Encodes new problem (Ok encoded)
encodes_later old new problem encoded g agrees e = (go encoded.fresh e.0, e.1)
  where
    go : (fresh : Option Fresh) → Marks old problem (Ok fresh) → Marks new problem (Ok fresh)
    go None h = h
    go (Some marks) h = (h.0, h.1, marks_later old new problem marks g (signature_has old problem agrees) h.2)

-- the symbols of the problem itself are among those of its encoding
in_left : (fs gs : List Sym) (f : Sym) → In fs f → In (fs ++ gs) f
in_left _ gs _ in_front = in_front
in_left (g ∷ fs) gs f (in_rest i) = in_rest (in_left fs gs f i)

among_all : (signature : Signature) (fresh : Option Fresh) (f : Sym) → In signature.symbols f → In (all_symbols signature fresh) f
among_all signature None f i = i
among_all signature (Some marks) f i = in_left signature.symbols (marks.yes ∷ marks.no ∷ marks.eq ∷ []) f i

names_symbols : (o : Meaning) (clauses : List Sourced) (encoded : Encoded) (certificate : Certificate) (answer : Certified) → answer ≡ Yes → IsCertified o clauses encoded certificate answer → AreSameSymbols (precedence_of certificate.text.spec) encoded.signature.symbols
names_symbols o clauses encoded certificate _ e (other_symbols n) = absurd cc
names_symbols o clauses encoded certificate _ e (wrong_line s f) = absurd cc
names_symbols o clauses encoded certificate _ e (wrong_fact s f u) = absurd cc
names_symbols o clauses encoded certificate answer e (by_joins s f d x t) = s

-- A certificate for the encoding of a problem, in a table that begins with that of the encoding.
module _ (table read : Table) (grows : Grows table read) (problem : Problem) (agrees : Agrees table problem) (encoded : Encoded) (encodes : Encodes table problem (Ok encoded)) (certificate : Certificate) (system : IsSystem read certificate.text) where
  abbrev spec : OrderSpec
  spec = certificate.text.spec

  read_agrees : Agrees read problem
  read_agrees = agrees_later table read grows problem agrees

  read_encodes : Encodes read problem (Ok encoded)
  read_encodes = encodes_later table read problem encoded grows agrees encodes

  is_encoding : IsEncodingOf (meaning_of read spec) problem.clauses encoded
  is_encoding =
      let symbols = encoded_symbols read problem encoded read_encodes in
      let over = (encoded_problem_over read problem read_agrees encoded read_encodes).0 in
      let over_all : AreOfSignature (In (all_symbols problem.signature encoded.fresh)) (arity_of read) encoded.axioms = λ n e at. each_at (λ (x : Equation). IsTerm (In (all_symbols problem.signature encoded.fresh)) (arity_of read) x.left × IsTerm (In (all_symbols problem.signature encoded.fresh)) (arity_of read) x.right) encoded.axioms over n e at in
      record {
        table = read;
        problem = problem;
        clauses_are = refl;
        encodes = read_encodes;
        axioms_over = subst (λ (fs : List Sym). AreOfSignature (In fs) (arity_of read) encoded.axioms) (sym symbols) over_all;
        arities = λ f i. (known_symbol read (precedence_of spec) spec system.fits f i).1;
      }

  module _ (passes : IsCertified (meaning_of read spec) problem.clauses encoded certificate Yes) where
    pub decides : Decides (meaning_of read spec) certificate.text.system.facts encoded.axioms
    decides = certified_decides (meaning_of read spec) (spec_laws read (precedence_of spec) spec system.fits) problem.clauses encoded certificate Yes refl passes (own_symbols read spec system.fits) (facts_over read spec system.fits certificate.text.system.facts system.facts) is_encoding

    -- the problem's own symbols are the order's, with their arities
    pub own_known : (f : Sym) → In problem.signature.symbols f → HasSym (meaning_of read spec) f × (arity_of read f ≡ (meaning_of read spec).arity f)
    own_known f i =
        let encoded_has : In encoded.signature.symbols f = subst (λ (fs : List Sym). In fs f) (sym (encoded_symbols read problem encoded read_encodes)) (among_all problem.signature encoded.fresh f i) in
        symbol_known read (precedence_of spec) spec system.fits f ((names_symbols (meaning_of read spec) problem.clauses encoded certificate Yes refl passes f).1 encoded_has)

    pub own_ground : (u : Tree) → IsOwnGround read problem u → IsGroundOf (meaning_of read spec) u
    own_ground u h = over_from (In problem.signature.symbols) (HasSym (meaning_of read spec)) (arity_of read) (meaning_of read spec).arity own_known (λ _. ⊥) (λ _. ⊥) (λ x k. k) u h

    -- of such terms the encoded axioms make those equal that the problem's own do
    pub own_same : (u v : Tree) → IsOwnGround read problem u → IsOwnGround read problem v → Conv encoded.axioms u v ↔ Conv (axioms_of problem.clauses) u v
    own_same u v hu hv = own_equal read problem read_agrees encoded read_encodes u v hu hv

    pub own_form : (u : Tree) → IsOwnGround read problem u → HasOneNormalForm (meaning_of read spec) certificate.text.system.facts u
    own_form u h = decides.one_normal_form u (own_ground u h)

    pub own : (u v n k : Tree) → IsOwnGround read problem u → IsOwnGround read problem v → HasNormalForm (meaning_of read spec) certificate.text.system.facts u n → HasNormalForm (meaning_of read spec) certificate.text.system.facts v k → (n ≡ k) ↔ Conv (axioms_of problem.clauses) u v
    own u v n k hu hv to_n to_k =
        let shared = decides.shared u v n k (own_ground u hu) (own_ground v hv) to_n to_k in
        let same = own_same u v hu hv in
        ((λ e. same.0 (shared.0 e)), (λ c. shared.1 (same.1 c)))
