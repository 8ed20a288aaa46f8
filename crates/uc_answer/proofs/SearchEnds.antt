-- What holds where a search has ended.
use Rattle.std.proofs.Common.{ℕ, zero, suc, ◌≡◌, List, [], ◌∷◌, map, slice_get, Some, refl, sym, ap, ◌∙◌, subst}
use Rattle.std.specs.List.{AllByRecursion}
use Rattle.uc_term.specs.declared.node.Sym.{Sym}
use Rattle.uc_term.specs.declared.equation.Equation.{Equation}
use Rattle.uc_term.specs.Tree.{Tree}
use Rattle.uc_term.specs.Over.{IsTerm}
use Rattle.uc_term.specs.Table.{Table, Has, IsOf, arity_of}
use Rattle.uc_clause.specs.declared.clause.Sourced.{Sourced}
use Rattle.uc_clause.specs.Printable.{IsPrintableSymbol}
use Rattle.uc_order.specs.Members.{In, Each}
use Rattle.uc_order.specs.Laws.{Meaning, Laws, HasSym}
use Rattle.uc_order.specs.declared.spec.OrderSpec.{OrderSpec}
use Rattle.uc_fact.specs.declared.chain.Step.{Step}
use Rattle.uc_fact.specs.declared.chain.Chain.{Chain}
use Rattle.uc_fact.specs.declared.fact.Fact.{Fact}
use Rattle.uc_fact.specs.Live.{equation_of}
use Rattle.uc_fact.specs.Ground.{AreOfSignature}
use Rattle.uc_shelf.specs.Entries.{born}
use Rattle.uc_problem.specs.declared.problem.Problem.{Problem}
use Rattle.uc_problem.specs.declared.problem.Encoded.{Encoded}
use Rattle.uc_problem.specs.Holds.{terms_of}
use Rattle.uc_machine.specs.declared.event.Verdict.{Verdict}
use Rattle.uc_machine.specs.declared.event.Verdict.TheVariants.{Proved}
use Rattle.uc_machine.specs.Lists.{Each as EachIn}
use Rattle.uc_machine.specs.State.{Opening, State, Target}
use Rattle.uc_machine.specs.Promises.{ChainsReplay}
use Rattle.uc_machine.specs.Runs.{Reaches}
use Rattle.uc_runs.specs.Signatures.{OpensOver, IsChainOver, IsTargetOver, IsOver}
use Rattle.uc_runs.specs.Proved.{IsProved}
use Rattle.uc_runs.proofs.Replaying.{chains_replay}
use Rattle.uc_runs.proofs.OverRuns.{stays_over}
use Rattle.uc_runs.proofs.ProvedGoals.{proved}
use Rattle.uc_proof.specs.Chains.{conclusion_of, ProvesGoal}
use Rattle.uc_proof.specs.Extracted.{IsEncodingOf}
use Rattle.uc_proof.specs.Printable.{IsPrintableChain, ArePrintableParts}
use Rattle.uc_words.specs.declared.command.Command.{Command}
use Rattle.uc_ordering.specs.Fits.{Fits}
use Rattle.uc_ordering.specs.Meaning.{meaning_of}
use Rattle.uc_answer.specs.PrintableProblems.{ArePrintableSourced}
use Rattle.uc_answer.specs.VerdictLines.{HasEnded, opening_for}
use Rattle.uc_answer.proofs.OrderLaws.{spec_laws}
use Rattle.uc_answer.proofs.SpecSymbols.{table_term, order_term}
use Rattle.uc_answer.proofs.Saturation.{searched_reaches, searched_verdict}
use Rattle.uc_answer.proofs.OverSignature.{IsEquationOver, encoded_problem_over}
use Rattle.uc_answer.proofs.PrintableFiles.{printable_at}
use Rattle.uc_answer.proofs.PrintableSymbols.{symbols_printable, encoded_symbols}
use Rattle.uc_proof.proofs.Printing.{conclusion_printable}
use Rattle.uc_proof.proofs.TableLines.{ArePartsOf, IsChainOf, conclusion_of_table}

pub each_at : {A : Type 0} (P : A → Type 0) (xs : List A) → Each P xs → (n : ℕ) (x : A) → slice_get xs n ≡ Some x → P x
each_at P [] h n x e = absurd cc
each_at P (y ∷ ys) h zero x e = let same : y ≡ x = cc in subst P same h.0
each_at P (y ∷ ys) h (suc n) x e = each_at P ys h.1 n x e

each_in_at : {A : Type 0} (P : A → Type 0) (xs : List A) → EachIn P xs → (n : ℕ) (x : A) → slice_get xs n ≡ Some x → P x
each_in_at P [] h n x e = absurd cc
each_in_at P (y ∷ ys) h zero x e = let same : y ≡ x = cc in subst P same h.0
each_in_at P (y ∷ ys) h (suc n) x e = each_in_at P ys h.1 n x e

all_steps : (P Q : Tree → Type 0) → ((t : Tree) → P t → Q t) → (steps : List Step) → EachIn (λ (x : Step). P x.to) steps → AllByRecursion (λ (x : Step). Q x.to) steps
all_steps P Q k [] h = tt
all_steps P Q k (x ∷ xs) h = (k x.to h.0, all_steps P Q k xs h.1)

-- the sides of facts stand as their equations do
mapped_at : (fs : List Fact) (n : ℕ) (f : Fact) → slice_get fs n ≡ Some f → slice_get (map equation_of fs) n ≡ Some (equation_of f)
mapped_at [] n f e = absurd cc
mapped_at (g ∷ gs) zero f e = let same : g ≡ f = cc in ap (λ (h : Fact). Some (equation_of h)) same
mapped_at (g ∷ gs) (suc n) f e = mapped_at gs n f e

pub clause_sides : (P : Tree → Type 0) (ss : List Sourced) → ((j : ℕ) (t : Tree) → slice_get (terms_of ss) j ≡ Some t → P t) → (c : ℕ) (s : Sourced) → slice_get ss c ≡ Some s → P s.clause.left × P s.clause.right
clause_sides P [] h c s e = absurd cc
clause_sides P (x ∷ xs) h zero s e = let same : x ≡ s = cc in subst (λ (y : Sourced). P y.clause.left × P y.clause.right) same (h 0 x.clause.left refl, h 1 x.clause.right refl)
clause_sides P (x ∷ xs) h (suc c) s e = clause_sides P xs (λ j t at. h (suc (suc j)) t at) c s e

-- equations over a signature are over that of an order that fits it
pub equations_over : (table : Table) (known : List Sym) (spec : OrderSpec) → Fits table known spec → (es : List Equation) → Each (IsEquationOver table (In known)) es → AreOfSignature (HasSym (meaning_of table spec)) (meaning_of table spec).arity es
equations_over table known spec fits es each n e at = let p = each_at (IsEquationOver table (In known)) es each n e at in (order_term table known spec fits e.left p.0, order_term table known spec fits e.right p.1)

module _ (table : Table) (command : Command) (problem : Problem) (encoded : Encoded) (spec : OrderSpec) (v : Verdict) (s : State) (h : HasEnded table command problem encoded spec v s) where
  abbrev pub m : Meaning
  m = meaning_of table spec

  abbrev pub o : Opening
  o = opening_for command encoded

  abbrev known : List Sym
  known = encoded.signature.symbols

  pub laws : Laws m
  laws = spec_laws table known spec h.fits

  pub reaches : Reaches m o s
  reaches = searched_reaches m o v s h.searched

  pub verdict_is : s.verdict ≡ Some v
  verdict_is = searched_verdict m o v s h.searched

  pub replay : ChainsReplay o s
  replay = chains_replay m o s reaches

  pub opens : OpensOver m o
  opens =
      let p = encoded_problem_over table problem h.agrees encoded h.encodes in
      let symbols = encoded_symbols table problem encoded h.encodes in
      record {
        axioms = equations_over table known spec h.fits encoded.axioms (subst (λ (fs : List Sym). Each (IsEquationOver table (In fs)) encoded.axioms) (sym symbols) p.0);
        goals = equations_over table known spec h.fits encoded.goals (subst (λ (fs : List Sym). Each (IsEquationOver table (In fs)) encoded.goals) (sym symbols) p.1);
      }

  pub over : IsOver m s
  over = stays_over m laws o opens s reaches

  -- THE TERMS OF THE TABLE

  -- by a predicate on symbols that those of the signature have
  module _ (P : Sym → Type 0) (each : Each P known) where
    abbrev IsP : Tree → Type 0
    IsP = IsTerm P (arity_of table)

    term_is : (t : Tree) → IsTerm (HasSym m) m.arity t → IsP t
    term_is t k = table_term table known spec h.fits P each t k

    equations_are : (es : List Equation) → AreOfSignature (HasSym m) m.arity es → (n : ℕ) (e : Equation) → slice_get es n ≡ Some e → IsP e.left × IsP e.right
    equations_are es k n e at = let p = k n e at in (term_is e.left p.0, term_is e.right p.1)

    chain_is : (c : Chain) → IsChainOver m c → IsP c.start × AllByRecursion (λ (x : Step). IsP x.to) c.steps
    chain_is c k = (term_is c.start k.start, all_steps (IsTerm (HasSym m) m.arity) IsP term_is c.steps k.steps)

    fact_sides_are : (n : ℕ) (f : Fact) → slice_get (born s.entries) n ≡ Some f → IsP f.left × IsP f.right
    fact_sides_are n f at = equations_are (map equation_of (born s.entries)) over.facts n (equation_of f) (mapped_at (born s.entries) n f at)

    fact_chain_is : (n : ℕ) (f : Fact) → slice_get (born s.entries) n ≡ Some f → IsP f.chain.start × AllByRecursion (λ (x : Step). IsP x.to) f.chain.steps
    fact_chain_is n f at = chain_is f.chain (each_in_at (λ (g : Fact). IsChainOver m g.chain) (born s.entries) over.chains n f at)

    target_is_over : (n : ℕ) (g : Target) → slice_get s.goals n ≡ Some g → IsTargetOver m g
    target_is_over n g at = each_in_at (IsTargetOver m) s.goals over.goals n g at

  -- what lines are made of is of the table
  pub parts_of : ArePartsOf table problem encoded (born s.entries)
  parts_of =
      let P : Sym → Type 0 = Has table in
      let each = h.fits.of_table in
      record {
        clauses = clause_sides (IsOf table) problem.clauses h.agrees.over;
        axioms = equations_are P each encoded.axioms opens.axioms;
        goals = equations_are P each encoded.goals opens.goals;
        fact_sides = fact_sides_are P each;
        fact_chains = fact_chain_is P each;
      }

  -- so is the chain of a goal
  pub chain_of : (n : ℕ) (g : Target) → slice_get s.goals n ≡ Some g → IsChainOf table (conclusion_of g.left g.right)
  chain_of n g at =
      let P : Sym → Type 0 = Has table in
      let target = target_is_over P h.fits.of_table n g at in
      conclusion_of_table table g.left g.right (chain_is P h.fits.of_table g.left target.left) (chain_is P h.fits.of_table g.right target.right)

  -- and where the problem can be printed, so can they
  module _ (printable : ArePrintableSourced table problem.clauses) where
    pub each_printable : Each (IsPrintableSymbol table) known
    each_printable = subst (Each (IsPrintableSymbol table)) (sym (encoded_symbols table problem encoded h.encodes)) (symbols_printable table problem h.agrees printable encoded h.encodes)

    pub parts_printable : ArePrintableParts table problem encoded (born s.entries)
    parts_printable =
        let P : Sym → Type 0 = IsPrintableSymbol table in
        record {
          clauses = λ c x e. (let p = printable_at table problem.clauses c x printable e in (p.0, p.1));
          axioms = equations_are P each_printable encoded.axioms opens.axioms;
          goals = equations_are P each_printable encoded.goals opens.goals;
          fact_sides = fact_sides_are P each_printable;
          fact_chains = fact_chain_is P each_printable;
        }

    pub chain_printable : (n : ℕ) (g : Target) → slice_get s.goals n ≡ Some g → IsPrintableChain table (conclusion_of g.left g.right)
    chain_printable n g at =
        let P : Sym → Type 0 = IsPrintableSymbol table in
        let target = target_is_over P each_printable n g at in
        conclusion_printable table g.left g.right (chain_is P each_printable g.left target.left) (chain_is P each_printable g.right target.right)

  pub encoding : IsEncodingOf problem encoded
  encoding = record { table = table; agrees = h.agrees; encodes = h.encodes }

  -- A GOAL THAT IS PROVED

  module _ (goal : ℕ) (is : v ≡ Proved goal) where
    pub proved_goal : IsProved o s goal
    proved_goal = proved m o goal s reaches (verdict_is ∙ ap Some is)

    pub proves_goal : ProvesGoal encoded (born s.entries) goal proved_goal.target.left proved_goal.target.right
    proves_goal = record {
      equation = proved_goal.equation;
      equation_is = proved_goal.equation_is;
      meeting = proved_goal.meeting;
      left_leads = proved_goal.left_leads;
      right_leads = proved_goal.right_leads;
    }
