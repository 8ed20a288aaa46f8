-- From an ended search to the text of a system, and to what it decides.
use Rattle.std.proofs.Common.{ℕ, suc, ◌≡◌, ◌↔◌, List, [], ◌∷◌, slice_get, Some, Result, Ok, Err, refl, sym, subst}
use Rattle.std.specs.Result.{IfOk}
use Rattle.std.specs.declared.alloc.AllocError.{AllocError}
use Rattle.uc_term.specs.declared.node.Sym.{Sym}
use Rattle.uc_term.specs.declared.equation.Equation.{Equation}
use Rattle.uc_term.specs.Tree.{Tree}
use Rattle.uc_term.specs.Over.{IsTerm}
use Rattle.uc_term.specs.Table.{Table, Has, IsOf, arity_of}
use Rattle.uc_term.specs.Conversion.{Conv}
use Rattle.uc_clause.specs.Printable.{IsPrintableSymbol}
use Rattle.uc_order.specs.Members.{In, in_front, in_rest, Each}
use Rattle.uc_order.specs.Laws.{HasSym, IsGroundOf}
use Rattle.uc_order.specs.declared.spec.OrderSpec.{OrderSpec}
use Rattle.uc_order.specs.declared.spec.OrderSpec.TheVariants.{Kbo, Lpo}
use Rattle.uc_kbo.proofs.Tables.{each_in, symbols-weighed}
use Rattle.uc_fact.specs.Ground.{AreOfSignature}
use Rattle.uc_fact.specs.Live.{equations_of}
use Rattle.uc_shelf.specs.Entries.{live}
use Rattle.uc_check.specs.Clauses.{axioms_of}
use Rattle.uc_problem.specs.declared.problem.Problem.{Problem}
use Rattle.uc_problem.specs.declared.problem.Encoded.{Encoded}
use Rattle.uc_machine.specs.declared.event.Verdict.TheVariants.{Saturated}
use Rattle.uc_machine.specs.State.{State}
use Rattle.uc_runs.specs.Written.{AreNumbered, AreSmall}
use Rattle.uc_runs.specs.Signatures.{AreGroundEquations}
use Rattle.uc_runs.proofs.GoalsApart.{goals_apart}
use Rattle.uc_runs.proofs.WrittenFacts.{facts_numbered, facts_small}
use Rattle.uc_decide.specs.NormalForms.{HasNormalForm}
use Rattle.uc_decide.specs.Deciding.{Decides, AreAllApart}
use Rattle.uc_decide.proofs.Verdicts.{no_goal}
use Rattle.uc_system.specs.Facts.{IsFact}
use Rattle.uc_system.specs.Reading.{ReadsSystem, precedence_of}
use Rattle.uc_system.specs.Printing.{IsSpecOf, IsEquationOf}
use Rattle.uc_system.specs.Printable.{IsPrintableSystem}
use Rattle.uc_words.specs.declared.command.Command.{Command}
use Rattle.uc_ordering.specs.Fits.{Fits}
use Rattle.uc_ordering.specs.Meaning.{meaning_of}
use Rattle.uc_answer.specs.PrintableProblems.{ArePrintableSourced, CanBePrinted}
use Rattle.uc_answer.specs.VerdictLines.{HasEnded}
use Rattle.uc_answer.specs.Promises.{Settles, IsOwnGround}
use Rattle.uc_answer.proofs.SpecSymbols.{term_from, known_symbol, table_term}
use Rattle.uc_answer.proofs.SearchEnds.{o, laws, reaches, verdict_is, opens, each_printable}
use Rattle.uc_answer.proofs.OwnTerms.{own_ground, own_equal}
use Rattle.uc_answer.proofs.NoGoalFollows.{goals_closed, ground_term, encoded_follows}
use Rattle.uc_answer.proofs.Saturation.{facts_over as system_over, decided as system_decides}
use Rattle.uc_answer.proofs.PrintableSymbols.{encoded_symbols}
use Rattle.uc_answer.proofs.SmallAxioms.{encoded_small}

-- LISTS

each_of_all : {A : Type 0} (P : A → Type 0) (xs : List A) → ((n : ℕ) (x : A) → slice_get xs n ≡ Some x → P x) → Each P xs
each_of_all P [] h = tt
each_of_all P (x ∷ xs) h = (h 0 x refl, each_of_all P xs (λ n y e. h (suc n) y e))

each_in_itself : (fs gs : List Sym) → ((f : Sym) → In fs f → In gs f) → Each (In gs) fs
each_in_itself [] gs k = tt
each_in_itself (f ∷ fs) gs k = (k f in_front, each_in_itself fs gs (λ g i. k g (in_rest i)))

each_from : (P : Sym → Type 0) (xs ys : List Sym) → Each P xs → Each (In xs) ys → Each P ys
each_from P xs [] h k = tt
each_from P xs (y ∷ ys) h k = (each_in P xs y h k.0, each_from P xs ys h k.1)

-- THE ORDER'S OWN SYMBOLS

module _ (table : Table) (signature : List Sym) where
  precedence_known : (spec : OrderSpec) → Fits table signature spec → Each (In signature) (precedence_of spec)
  precedence_known (Kbo w0 ws fs) fits = fits.total.0.0
  precedence_known (Lpo fs) fits = fits.total.0

  pub spec_of_table : (spec : OrderSpec) → Fits table signature spec → IsSpecOf table spec
  spec_of_table (Kbo w0 ws fs) fits = (each_from (Has table) signature fs fits.of_table fits.total.0.0, fits.total.1.as_many)
  spec_of_table (Lpo fs) fits = each_from (Has table) signature fs fits.of_table fits.total.0

  -- it fits its own symbols
  fits_itself : (spec : OrderSpec) → Fits table signature spec → Fits table (precedence_of spec) spec
  fits_itself (Kbo w0 ws fs) fits = record {
    of_table = each_from (Has table) signature fs fits.of_table fits.total.0.0;
    constant = (fits.constant.0, (each_in (In fs) signature fits.constant.0 fits.total.0.2 fits.constant.1.0, fits.constant.1.1));
    total = ((each_in_itself fs fs (λ f i. i), fits.total.0.1, each_in_itself fs fs (λ f i. i)), fits.total.1);
  }
  fits_itself (Lpo fs) fits = record {
    of_table = each_from (Has table) signature fs fits.of_table fits.total.0;
    constant = (fits.constant.0, (each_in (In fs) signature fits.constant.0 fits.total.2 fits.constant.1.0, fits.constant.1.1));
    total = (each_in_itself fs fs (λ f i. i), fits.total.1, each_in_itself fs fs (λ f i. i));
  }

  own_symbol : (spec : OrderSpec) → Fits table signature spec → (f : Sym) → HasSym (meaning_of table spec) f → In (precedence_of spec) f
  own_symbol (Kbo w0 ws fs) fits f i = subst (λ (gs : List Sym). In gs f) (symbols-weighed table fs ws fits.total.1.as_many) i
  own_symbol (Lpo fs) fits f i = i

  own_term : (spec : OrderSpec) → Fits table signature spec → (t : Tree) → IsTerm (HasSym (meaning_of table spec)) (meaning_of table spec).arity t → IsTerm (In (precedence_of spec)) (arity_of table) t
  own_term spec fits t h = term_from (HasSym (meaning_of table spec)) (In (precedence_of spec)) (meaning_of table spec).arity (arity_of table) (λ f i. (own_symbol spec fits f i, (known_symbol table signature spec fits f i).1)) t h

-- A SEARCH THAT ENDED SATURATED

module _ (table : Table) (command : Command) (problem : Problem) (encoded : Encoded) (spec : OrderSpec) (s : State) (h : HasEnded table command problem encoded spec Saturated s) where
  abbrev facts : List Equation
  facts = equations_of (live s.entries)

  pub facts_over : AreOfSignature (HasSym (meaning_of table spec)) (meaning_of table spec).arity facts
  facts_over = system_over (meaning_of table spec) (laws table command problem encoded spec Saturated s h) (o table command problem encoded spec Saturated s h) (opens table command problem encoded spec Saturated s h) s h.searched

  pub facts_of_table : (es : List Equation) → es ≡ facts → Each (IsEquationOf table) es
  facts_of_table es e =
      let side : (t : Tree) → IsTerm (HasSym (meaning_of table spec)) (meaning_of table spec).arity t → IsOf table t = table_term table encoded.signature.symbols spec h.fits (Has table) h.fits.of_table in
      subst (Each (IsEquationOf table)) (sym e) (each_of_all (IsEquationOf table) facts (λ n x at. (let p = facts_over n x at in (side x.left p.0, side x.right p.1))))

  decided : Decides (meaning_of table spec) facts encoded.axioms
  decided = system_decides (meaning_of table spec) (laws table command problem encoded spec Saturated s h) (o table command problem encoded spec Saturated s h) (opens table command problem encoded spec Saturated s h) s h.searched

  own : (u v n k : Tree) → IsOwnGround table problem u → IsOwnGround table problem v → HasNormalForm (meaning_of table spec) facts u n → HasNormalForm (meaning_of table spec) facts v k → (n ≡ k) ↔ Conv (axioms_of problem.clauses) u v
  own u v n k hu hv to_n to_k =
      let ground : (t : Tree) → IsOwnGround table problem t → IsGroundOf (meaning_of table spec) t = own_ground table problem h.agrees encoded h.encodes spec h.fits in
      let shared = decided.shared u v n k (ground u hu) (ground v hv) to_n to_k in
      let same = own_equal table problem h.agrees encoded h.encodes u v hu hv in
      ((λ e. same.0 (shared.0 e)), (λ c. shared.1 (same.1 c)))

  apart : AreAllApart (meaning_of table spec) facts encoded.axioms encoded.goals
  apart =
      let m_is = meaning_of table spec in
      let over = opens table command problem encoded spec Saturated s h in
      let ground : AreGroundEquations m_is encoded.goals = λ n e at. (let closed = goals_closed table problem h.agrees encoded h.encodes n e at in let p = over.goals n e at in (ground_term (HasSym m_is) m_is.arity e.left p.0 closed.0, ground_term (HasSym m_is) m_is.arity e.right p.1 closed.1)) in
      goals_apart m_is (laws table command problem encoded spec Saturated s h) (o table command problem encoded spec Saturated s h) over ground s (reaches table command problem encoded spec Saturated s h) (verdict_is table command problem encoded spec Saturated s h)

  -- the system can be printed where the problem can
  module _ (printable : ArePrintableSourced table problem.clauses) where
    small : AreSmall facts
    small = facts_small (meaning_of table spec) (o table command problem encoded spec Saturated s h) (encoded_small table problem encoded h.encodes printable) s (reaches table command problem encoded spec Saturated s h)

    numbered : AreNumbered facts
    numbered = facts_numbered (meaning_of table spec) (o table command problem encoded spec Saturated s h) s (reaches table command problem encoded spec Saturated s h)

    fact_printable : (n : ℕ) (e : Equation) → slice_get facts n ≡ Some e → IsFact table (precedence_of spec) e
    fact_printable n e at =
        let over = facts_over n e at in
        let few = small n e at in
        let order = numbered n e at in
        record {
          left = record { over = own_term table encoded.signature.symbols spec h.fits e.left over.0; small = few.0 };
          right = record { over = own_term table encoded.signature.symbols spec h.fits e.right over.1; small = few.1 };
          in_order = record { left = order.left; right = order.right };
        }

    pub system_printable : IsPrintableSystem table spec facts
    system_printable = record {
      fits = fits_itself table encoded.signature.symbols spec h.fits;
      symbols = each_from (IsPrintableSymbol table) encoded.signature.symbols (precedence_of spec) (each_printable table command problem encoded spec Saturated s h printable) (precedence_known table encoded.signature.symbols spec h.fits);
      facts = each_of_all (IsFact table (precedence_of spec)) facts fact_printable;
    }

  settles : (es : List Equation) (name text : List ℕ) → es ≡ facts → (IsPrintableSystem table spec es → ReadsSystem table text (Ok (record { spec = spec; system = record { facts = es } }))) → CanBePrinted table name problem → (settled : Settles table problem spec text) × (settled.system.facts ≡ facts)
  settles es name text e reads can =
      let printed = subst (λ x. IsPrintableSystem table spec x → ReadsSystem table text (Ok (record { spec = spec; system = record { facts = x } }))) e reads in (
        record {
          encoded = encoded;
          encodes = h.encodes;
          fits = subst (λ (fs : List Sym). Fits table fs spec) (encoded_symbols table problem encoded h.encodes) h.fits;
          system = record { facts = facts };
          reads = printed (system_printable can.clauses);
          decides = decided;
          own_form = λ u over. decided.one_normal_form u (own_ground table problem h.agrees encoded h.encodes spec h.fits u over);
          own = own;
          none_follows = λ f. no_goal (meaning_of table spec) (laws table command problem encoded spec Saturated s h) facts encoded.axioms decided encoded.goals apart (encoded_follows table problem h.agrees encoded h.encodes f);
        },
        refl,
      )

  -- the text that is printed
  pub system_told : (es : List Equation) (name : List ℕ) (r : Result (List ℕ) AllocError) → es ≡ facts → (IsPrintableSystem table spec es → IfOk r (λ text. ReadsSystem table text (Ok (record { spec = spec; system = record { facts = es } })))) → IfOk r (λ text. CanBePrinted table name problem → (settled : Settles table problem spec text) × (settled.system.facts ≡ facts))
  system_told es name (Ok text) e reads = settles es name text e reads
  system_told es name (Err fault) e reads = tt
