-- Lines that can be printed and read again, with the bounds that their terms have.
use Rattle.std.proofs.Common.{◌≡◌, ◌≤◌, ℕ, true, List, [], ◌∷◌}
use Rattle.std.specs.List.{AllByRecursion}
use Rattle.uc_term.specs.Tree.{Tree, var, nodes}
use Rattle.uc_term.specs.Table.{Table}
use Rattle.uc_term.specs.Variables.{variables}
use Rattle.uc_clause.specs.Names.{IsSpellable, IsSpellableName}
use Rattle.uc_clause.specs.Printable.{IsPrintable, AreNumbered}
use Rattle.uc_check.specs.declared.proof.Line.{Line}
use Rattle.uc_check.specs.declared.proof.LineStep.{LineStep}
use Rattle.uc_check.specs.declared.proof.LineSource.{LineSource}
use Rattle.uc_check.specs.declared.proof.LineSource.TheVariants.{File, Chain, Reflexive, EncodeGoal, Refute}
use Rattle.uc_tstp.specs.declared.scope.Scope.{Scope}
use Rattle.uc_tstp.specs.Printing.{names_in}
use Rattle.uc_tstp.specs.Bounds.{IsBounded, AreBoundedSteps, IsBoundedSource, AreBounded}
use Rattle.uc_tstp.specs.Printable.{IsProofName, AreLineNames, AreOf, IsPath}
use Rattle.uc_tstp.specs.Printable as printable

module _ (table : Table) where
  -- a term within a reader's limits, whose symbols can be spelled with the arguments that they have
  pub record IsPrintableTerm (t : Tree) : Type 0 where
    pub printable : IsPrintable table t
    pub small : nodes t ≤ 4096
    pub numbered : AreNumbered (variables t)

  pub record IsPrintableStep (s : LineStep) : Type 0 where
    pub path : IsPath s.path
    pub to : IsPrintableTerm s.to

  -- a clause's file and its name can be spelled
  abbrev pub IsPrintableSource : List ℕ → LineSource → Type 0
  IsPrintableSource file (File name) = IsSpellable file × IsSpellableName name
  IsPrintableSource file (Chain start steps parents) = IsPrintableTerm start × AllByRecursion IsPrintableStep steps
  IsPrintableSource file other = Unit {0}

  -- what a line of this source says: a clause of the problem an equation or its denial, a refutation nothing, with the variable
  -- 0 on both sides, and all else an equation
  abbrev pub IsPrintableBody : LineSource → Line → Type 0
  IsPrintableBody (File name) line = IsPrintableTerm line.left × IsPrintableTerm line.right
  IsPrintableBody (Refute parents) line = (line.positive ≡ true) × (line.left ≡ var 0) × (line.right ≡ var 0)
  IsPrintableBody other line = (line.positive ≡ true) × IsPrintableTerm line.left × IsPrintableTerm line.right

  pub record IsPrintableLine (file : List ℕ) (line : Line) : Type 0 where
    pub body : IsPrintableBody line.source line
    pub source : IsPrintableSource file line.source

  -- lines, each with its file
  abbrev pub ArePrintableLines : List (List ℕ) → List Line → Type 0
  ArePrintableLines [] [] = Unit {0}
  ArePrintableLines (file ∷ files) (line ∷ lines) = IsPrintableLine file line × ArePrintableLines files lines
  ArePrintableLines files lines = ⊥

  -- lines that belong together, with a file for each
  pub record ArePrintable (which : Scope) (files : List (List ℕ)) (proof_lines : List Line) : Type 0 where
    pub names : AreLineNames [] (names_in proof_lines)
    pub lines : ArePrintableLines files proof_lines
    pub belong : AreOf which proof_lines

  -- a proof of this name, with a file for each line
  pub record IsPrintableProof (proof_name : List ℕ) (files : List (List ℕ)) (proof_lines : List Line) : Type 0 where
    pub name : IsProofName proof_name
    pub names : AreLineNames [] (names_in proof_lines)
    pub lines : ArePrintableLines files proof_lines

  -- what can be printed is so
  term_bounded : (t : Tree) → IsPrintable table t → IsBounded t → IsPrintableTerm t
  term_bounded t p b = record { printable = p; small = b.0; numbered = b.1 }

  steps_bounded : (ss : List LineStep) → AllByRecursion (printable.IsPrintableStep table) ss → AreBoundedSteps ss → AllByRecursion IsPrintableStep ss
  steps_bounded [] p b = tt
  steps_bounded (s ∷ ss) p b = (record { path = p.0.path; to = term_bounded s.to p.0.to b.0 }, steps_bounded ss p.1 b.1)

  source_bounded : (file : List ℕ) (s : LineSource) → printable.IsPrintableSource table file s → IsBoundedSource s → IsPrintableSource file s
  source_bounded file (File name) p b = p
  source_bounded file (Chain start steps parents) p b = (term_bounded start p.0 b.0, steps_bounded steps p.1 b.1)
  source_bounded file (Reflexive parents) p b = tt
  source_bounded file (EncodeGoal parents) p b = tt
  source_bounded file (Refute parents) p b = tt

  body_bounded : (s : LineSource) (line : Line) → printable.IsPrintableBody table s line → IsBounded line.left → IsBounded line.right → IsPrintableBody s line
  body_bounded (File name) line p l r = (term_bounded line.left p.0 l, term_bounded line.right p.1 r)
  body_bounded (Chain start steps parents) line p l r = (p.0, term_bounded line.left p.1 l, term_bounded line.right p.2 r)
  body_bounded (Reflexive parents) line p l r = (p.0, term_bounded line.left p.1 l, term_bounded line.right p.2 r)
  body_bounded (EncodeGoal parents) line p l r = (p.0, term_bounded line.left p.1 l, term_bounded line.right p.2 r)
  body_bounded (Refute parents) line p l r = p

  lines_bounded : (files : List (List ℕ)) (lines : List Line) → printable.ArePrintableLines table files lines → AreBounded lines → ArePrintableLines files lines
  lines_bounded [] [] p b = tt
  lines_bounded [] (line ∷ lines) p b = elim p [ ]
  lines_bounded (file ∷ files) [] p b = elim p [ ]
  lines_bounded (file ∷ files) (line ∷ lines) p b =
      (record { body = body_bounded line.source line p.0.body b.0.0 b.0.1; source = source_bounded file line.source p.0.source b.0.2 }, lines_bounded files lines p.1 b.1)

  pub all_bounded : (which : Scope) (files : List (List ℕ)) (lines : List Line) → printable.ArePrintable table which files lines → AreBounded lines → ArePrintable which files lines
  all_bounded which files lines p b = record { names = p.names; lines = lines_bounded files lines p.lines b; belong = p.belong }

  pub proof_bounded : (name : List ℕ) (files : List (List ℕ)) (lines : List Line) → printable.IsPrintableProof table name files lines → AreBounded lines → IsPrintableProof name files lines
  proof_bounded name files lines p b = record { name = p.name; names = p.names; lines = lines_bounded files lines p.lines b }
