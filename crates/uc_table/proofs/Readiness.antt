-- The terms of a problem are ready for a table of its signature.
use Rattle.std.proofs.Common.{◌≡◌, ℕ, zero, suc, ◌+◌, ◌<◌, ◌≤◌, ◌^◌, Bool, true, false, List, [], ◌∷◌, ◌++◌, length, get_or, slice_get, Some, if◌then◌else◌, refl, sym, ap, ◌∙◌, subst, arith, add-one}
use Rattle.std.proofs.lemmas.Bool.{eqb-true, eq-eqb, false≢true}
use Rattle.uc_term.specs.declared.node.Sym.{Sym}
use Rattle.uc_term.specs.declared.signature.Signature.{Signature}
use Rattle.uc_term.specs.Tree.{Tree, var, app, Trees, none, more, count}
use Rattle.uc_term.specs.Flat.{flat, flat_all}
use Rattle.uc_term.specs.Over.{AreOver}
use Rattle.uc_term.specs.Table.{Table as SymbolTable, Has, IsOf, arity_of}
use Rattle.uc_term.specs.Gathering.{AreOf}
use Rattle.uc_term.specs.Signatures.{Occurrence, occurrences_in, occurrences_from, occurrences_of, same_symbol, Completes, has_constant, gets_constant, IsSignatureOf}
use Rattle.uc_term.proofs.Gathered.{occurrences_in-append}
use Rattle.uc_term.proofs.Gets.{get-append_left}
use Rattle.uc_clause.specs.declared.clause.Sourced.{Sourced}
use Rattle.uc_check.specs.Clauses.{equation_of}
use Rattle.uc_problem.specs.declared.problem.Problem.{Problem}
use Rattle.uc_problem.specs.Holds.{Agrees, terms_of}
use Rattle.uc_problem.proofs.FreshMarks.{In, AllIn, all_gathered}
use Rattle.uc_table.specs.declared.table.Table.{Table}
use Rattle.uc_table.specs.Algebras.{cells_among, cells_of}
use Rattle.uc_table.specs.Tables.{IsRow, AreRows, IsTableOf}
use Rattle.uc_table.specs.Checks.{variables_in, variables_in_all, variable_count}
use Rattle.uc_table.specs.Evaluating.{number_of, AreNumbers, IsNumbered, IsReady, AreReady}
use Rattle.uc_table.specs.Against.{AreReadyClauses}

parts_in : (fs : List Sym) (xs ys : List Occurrence) → AllIn fs (xs ++ ys) → AllIn fs xs × AllIn fs ys
parts_in fs [] ys a = (tt, a)
parts_in fs (x ∷ xs) ys a = let r = parts_in fs xs ys a.1 in ((a.0, r.0), r.1)

-- the symbol is of the signature, at this arity
pub record IsSymbol (symbols : SymbolTable) (signature : List Sym) (f : Sym) (n : ℕ) : Type 0 where
  pub place : In f signature
  pub has : Has symbols f
  pub arity : n ≡ arity_of symbols f

module _ (symbols : SymbolTable) (signature : List Sym) where
  -- the term's symbols are of the signature
  abbrev mutual
    pub IsKnown : Tree → Type 0
    IsKnown (var x) = Unit {0}
    IsKnown (app f ts) = IsSymbol symbols signature f (count ts) × AreKnown ts

    pub AreKnown : Trees → Type 0
    AreKnown none = Unit {0}
    AreKnown (more t ts) = IsKnown t × AreKnown ts

  -- so are those of the sides of each clause
  abbrev pub AreKnownClauses : List Sourced → Type 0
  AreKnownClauses ss = (k : ℕ) (s : Sourced) → slice_get ss k ≡ Some s → IsKnown s.clause.left × IsKnown s.clause.right

  mutual
    tree_known : (t : Tree) (term from : ℕ) → IsOf symbols t → AllIn signature (occurrences_in term from (flat t)) → IsKnown t
    tree_known (var x) term from o a = tt
    tree_known (app f ts) term from o a = (record { place = a.0; has = o.0; arity = o.1 }, trees_known ts term (from + 1) o.2 a.1)

    trees_known : (ts : Trees) (term from : ℕ) → AreOver (Has symbols) (arity_of symbols) (λ _. Unit {0}) ts → AllIn signature (occurrences_in term from (flat_all ts)) → AreKnown ts
    trees_known none term from o a = tt
    trees_known (more t ts) term from o a =
        let r = parts_in signature (occurrences_in term from (flat t)) (occurrences_in term (from + length (flat t)) (flat_all ts)) (subst (AllIn signature) (occurrences_in-append term from (flat t) (flat_all ts)) a) in
        (tree_known t term from o.0 r.0, trees_known ts term (from + length (flat t)) o.1 r.1)

  clauses_known : (ss : List Sourced) (n : ℕ) → AreOf symbols (terms_of ss) → AllIn signature (occurrences_from n (terms_of ss)) → AreKnownClauses ss
  clauses_known [] n o a k s e = absurd cc
  clauses_known (x ∷ xs) n o a k s e =
      let l = parts_in signature (occurrences_in n 0 (flat x.clause.left)) (occurrences_from (n + 1) (x.clause.right ∷ terms_of xs)) a in
      let r = parts_in signature (occurrences_in (n + 1) 0 (flat x.clause.right)) (occurrences_from (n + 1 + 1) (terms_of xs)) l.1 in
      go k e (tree_known x.clause.left n 0 (o 0 x.clause.left refl) l.0, tree_known x.clause.right (n + 1) 0 (o 1 x.clause.right refl) r.0) (clauses_known xs (n + 1 + 1) (λ i. o (suc (suc i))) r.1)
    where
      go : (k : ℕ) → slice_get (x ∷ xs) k ≡ Some s → IsKnown x.clause.left × IsKnown x.clause.right → AreKnownClauses xs → IsKnown s.clause.left × IsKnown s.clause.right
      go zero e h later = let same : x ≡ s = cc in subst (λ (y : Sourced). IsKnown y.clause.left × IsKnown y.clause.right) same h
      go (suc k) e h later = later k s e

-- these cells stand at this number, and are a row of the symbol
record IsPlacedAt (symbols : SymbolTable) (size : ℕ) (f : Sym) (rows : List (List ℕ)) (n : ℕ) (cells : List ℕ) : Type 0 where
  within : n < length rows
  is : get_or rows n [] ≡ cells
  row : IsRow size (size ^ arity_of symbols f) cells

same_sym : (f g : Sym) → f.0 ≡ g.0 → f ≡ g
same_sym f g e = ap (λ (n : ℕ). record { 0 = n }) e

module _ (symbols : SymbolTable) (size : ℕ) where
  placed : (fs : List Sym) (rows : List (List ℕ)) (f : Sym) (i : ℕ) → AreRows symbols size fs rows → slice_get fs i ≡ Some f → IsPlacedAt symbols size f rows (number_of fs f) (cells_among fs rows f)
  placed [] rows f i h e = absurd cc
  placed (g ∷ gs) [] f i h e = absurd h
  placed (g ∷ gs) (row ∷ rows) f i h e = go (same_symbol g f) refl i e (λ i. placed gs rows f i h.1)
    where
      go : (b : Bool) → same_symbol g f ≡ b → (i : ℕ) → slice_get (g ∷ gs) i ≡ Some f → ((i : ℕ) → slice_get gs i ≡ Some f → IsPlacedAt symbols size f rows (number_of gs f) (cells_among gs rows f)) → IsPlacedAt symbols size f (row ∷ rows) (if b then 0 else number_of gs f + 1) (if b then row else cells_among gs rows f)
      go true b i e later = record { within = omega arith; is = refl; row = subst (λ x. IsRow size (size ^ arity_of symbols x) row) (same_sym g f (eqb-true g.0 f.0 b)) h.0 }
      go false b zero e later =
          let same : g ≡ f = cc in
          let yes : same_symbol f f ≡ true = eq-eqb f.0 f.0 refl in
          absurd (false≢true (sym (subst (λ x. same_symbol x f ≡ false) same b) ∙ yes))
      go false b (suc i) e later =
          let p = later i e in
          record { within = omega (arith, p.within); is = rw add-one p.is; row = p.row }

module _ (symbols : SymbolTable) (signature : List Sym) (table : Table) (is : IsTableOf symbols signature table) (numbers : List ℕ) (are : AreNumbers signature numbers) (long : length numbers ≡ length symbols) where
  numbered : (f : Sym) (arity : ℕ) → In f signature → Has symbols f → arity ≡ arity_of symbols f → IsNumbered table numbers f arity
  numbered f arity i has n =
      let p : IsPlacedAt symbols table.size f table.cells (number_of signature f) (cells_among signature table.cells f) = placed symbols table.size signature table.cells f i.0 is.rows i.1 in
      let k : get_or numbers f.0 0 ≡ number_of signature f = are i.0 f i.1 in
      let own : cells_among signature table.cells f ≡ cells_of table f = ap (λ fs. cells_among fs table.cells f) (sym is.symbols_are) in
      record {
        known = omega (arith, has, long);
        within = subst (λ j. j < length table.cells) (sym k) p.within;
        is = ap (λ j. get_or table.cells j []) k ∙ p.is ∙ own;
        row = subst (λ cells. IsRow table.size (table.size ^ arity) cells) own (subst (λ j. IsRow table.size (table.size ^ j) (cells_among signature table.cells f)) (sym n) p.row);
      }

  module _ (variables : ℕ) where
    mutual
      tree_ready : (t : Tree) → IsKnown symbols signature t → variables_in t ≤ variables → IsReady table numbers variables t
      tree_ready (var x) k h = omega arith
      tree_ready (app f ts) k h = (numbered f (count ts) k.0.place k.0.has k.0.arity, trees_ready ts k.1 h)

      trees_ready : (ts : Trees) → AreKnown symbols signature ts → variables_in_all ts ≤ variables → AreReady table numbers variables ts
      trees_ready none k h = tt
      trees_ready (more t ts) k h = (tree_ready t k.0 (omega arith), trees_ready ts k.1 (omega arith))

  pub clauses_ready : (ss : List Sourced) → AreKnownClauses symbols signature ss → AreReadyClauses table numbers ss
  clauses_ready ss known k s e =
      let c = known k s e in
      let most : ℕ = variable_count (equation_of s.clause) in
      (tree_ready (variable_count (equation_of s.clause)) s.clause.left c.0 (omega arith), tree_ready (variable_count (equation_of s.clause)) s.clause.right c.1 (omega arith))

all_in_more : (fs gs : List Sym) (os : List Occurrence) → AllIn fs os → AllIn (fs ++ gs) os
all_in_more fs gs [] a = tt
all_in_more fs gs (o ∷ os) a = ((a.0.0, get-append_left fs gs a.0.0 o.symbol a.0.1), all_in_more fs gs os a.1)

completed : (symbols : SymbolTable) (fs : List Sym) (signature : Signature) (os : List Occurrence) → Completes symbols fs signature → AllIn fs os → AllIn signature.symbols os
completed symbols fs signature os (has_constant e) a = a
completed symbols fs signature os (gets_constant {c = c} e f) a = all_in_more fs (c ∷ []) os a

pub problem_known : (symbols : SymbolTable) (problem : Problem) → Agrees symbols problem → AreKnownClauses symbols problem.signature.symbols problem.clauses
problem_known symbols problem agrees =
    let s : IsSignatureOf symbols (terms_of problem.clauses) problem.signature = agrees.signature in
    let all : AllIn problem.signature.symbols (occurrences_of (terms_of problem.clauses)) = completed symbols s.symbols problem.signature (occurrences_of (terms_of problem.clauses)) s.completes (all_gathered s.gathers s.symbols refl) in
    clauses_known symbols problem.signature.symbols problem.clauses 0 agrees.over all

pub problem_ready : (symbols : SymbolTable) (problem : Problem) (table : Table) (numbers : List ℕ) → Agrees symbols problem → IsTableOf symbols problem.signature.symbols table → AreNumbers table.symbols numbers → length numbers ≡ length symbols → AreReadyClauses table numbers problem.clauses
problem_ready symbols problem table numbers agrees is are long =
    clauses_ready symbols problem.signature.symbols table is numbers (subst (λ fs. AreNumbers fs numbers) is.symbols_are are) long problem.clauses (problem_known symbols problem agrees)
