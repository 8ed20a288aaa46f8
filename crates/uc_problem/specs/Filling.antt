-- The table of symbols that loading and encoding a problem leave. Files are read in the order in which their includes stand, each
-- whole before the files that it includes, and what a selection leaves out counts too. So the table is one function of the files
-- and of the table before.
use Rattle.std.specs.Prelude.{ℕ, ◌≡◌, Bool, List, [], ◌∷◌, Option, Some, None, Ok}
use Rattle.uc_term.specs.declared.node.Sym.{Sym}
use Rattle.uc_term.specs.declared.fresh.Fresh.{Fresh}
use Rattle.uc_term.specs.Table.{Table, Has, AddsAtMost}
use Rattle.uc_term.specs.Gathering.{AreOf}
use Rattle.uc_edge.specs.Files.{Files}
use Rattle.uc_clause.specs.declared.token.Place.{Place}
use Rattle.uc_clause.specs.declared.clause.Clause.{Clause}
use Rattle.uc_clause.specs.declared.clause.Sourced.{Sourced}
use Rattle.uc_clause.specs.declared.clause.Include.{Include}
use Rattle.uc_clause.specs.declared.clause.Item.TheVariants as item
use Rattle.uc_fof.specs.declared.item.FofItem.{FofItem}
use Rattle.uc_fof.specs.declared.item.FofItem.TheVariants.{Item, Formula}
use Rattle.uc_fof.specs.Reading.{ReadsFile}
use Rattle.uc_fof.specs.Interning.{InternsFile}
use Rattle.uc_problem.specs.declared.counts.Counts.{Counts}
use Rattle.uc_problem.specs.declared.problem.Problem.{Problem}
use Rattle.uc_problem.specs.Candidates.{candidates, folder_of}
use Rattle.uc_problem.specs.Loading.{held, first_held}
use Rattle.uc_problem.specs.declared.flat.FlatClause.{FlatClause}
use Rattle.uc_problem.specs.Conjecture.{flat_terms, AreClosed}
use Rattle.uc_problem.specs.Holds.{Flattens, Agrees}

-- this holds of the library's files, where it tells them
abbrev pub WhereTold : Option Files → (Files → Type 0) → Type 0
WhereTold None P = Unit {0}
WhereTold (Some files) P = P files

module _ (files : Files) (folder : List ℕ) (root : Option (List ℕ)) where
  mutual
    -- a file of this content, with the files that it includes, makes the new table of the old
    pub data FillsFile : List ℕ → Table → Table → Type 0 where
      fills_file : {bytes : List ℕ} {old read new : Table} {items : List FofItem} → InternsFile bytes old read → ReadsFile bytes read items → FillsItems items read new → FillsFile bytes old new

    -- so do the files that these items include, one after the other
    pub data FillsItems : List FofItem → Table → Table → Type 0 where
      no_item_fills : {table : Table} → FillsItems [] table table
      clause_fills : {clause : Clause} {items : List FofItem} {old new : Table} → FillsItems items old new → FillsItems (Item (item.Clause clause) ∷ items) old new
      formula_fills : {clause : Clause} {conjecture : Bool} {place : Place} {items : List FofItem} {old new : Table} → FillsItems items old new → FillsItems (Formula clause conjecture place ∷ items) old new
      include_fills : {include : Include} {items : List FofItem} {old middle new : Table} {found content : List ℕ} → first_held files (candidates folder root include.file) ≡ Some (found, content) → FillsFile content old middle → FillsItems items middle new → FillsItems (Item (item.Include include) ∷ items) old new

  -- the file that is included makes the new table of the old
  pub record FillsInclude (include : Include) (old new : Table) : Type 0 where
    pub found : List ℕ
    pub content : List ℕ
    pub is_held : first_held files (candidates folder root include.file) ≡ Some (found, content)
    pub fills : FillsFile content old new

  -- so does an item; a clause leaves the table as it is, since it was read with its file
  abbrev pub FillsItem : FofItem → Table → Table → Type 0
  FillsItem (Item (item.Clause clause)) old new = new ≡ old
  FillsItem (Item (item.Include include)) old new = FillsInclude include old new
  FillsItem (Formula clause conjecture place) old new = new ≡ old

-- the problem file of this name, with the files that it includes, makes the new table of the old
pub record FillsProblem (files : Files) (root : Option (List ℕ)) (name : List ℕ) (old new : Table) : Type 0 where
  pub bytes : List ℕ
  pub is_held : held files name ≡ Some bytes
  pub fills : FillsFile files (folder_of name) root bytes old new

-- the symbol is of the new table, which is the old one or has it at its end
pub record AddsOne (old new : Table) (f : Sym) : Type 0 where
  pub has : Has new f
  pub adds : AddsAtMost old new f

-- these symbols, one after the other, make the new table of the old
pub data AddsAll : Table → Table → List Sym → Type 0 where
  adds_none : {table : Table} → AddsAll table table []
  adds_first : {old middle new : Table} {f : Sym} {fs : List Sym} → AddsOne old middle f → AddsAll middle new fs → AddsAll old new (f ∷ fs)

-- The files make a table of the old one, in which clauses stand, and the constants of a conjecture among them make the new one of
-- that; with these constants they are the problem's clauses.
pub record FillsClosed (files : Files) (root : Option (List ℕ)) (name : List ℕ) (old new : Table) (clauses : List Sourced) (conjecture : Option ℕ) : Type 0 where
  pub flat : Table
  pub fills : FillsProblem files root name old flat
  pub flats : List FlatClause
  pub counts : Counts
  pub reads : Flattens flat files root name (Ok (flats, counts))
  pub over : AreOf flat (flat_terms flats)
  pub closed : AreClosed new flats clauses conjecture
  pub adds : AddsAll flat new closed.constants

-- The files and the constants of a conjecture make a table of the old one, and the least constant of the signature makes the new one
-- of that.
pub record IsFilled (files : Files) (root : Option (List ℕ)) (name : List ℕ) (old new : Table) (problem : Problem) : Type 0 where
  pub closed : Table
  pub fills : FillsClosed files root name old closed problem.clauses problem.conjecture
  pub least : AddsOne closed new problem.signature.least
  pub agrees : Agrees new problem

-- the encoding's symbols, where there are any, make the new table of the old
abbrev pub AddsMarks : Table → Table → Option Fresh → Type 0
AddsMarks old new None = new ≡ old
AddsMarks old new (Some marks) = (first : Table) × (second : Table) × AddsOne old first marks.eq × AddsOne first second marks.yes × AddsOne second new marks.no
