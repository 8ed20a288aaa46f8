-- What is read again as it was printed, and as which proof.
use Rattle.std.specs.Prelude.{ℕ, ◌≡◌, ◌<◌, ◌≤◌, ◌+◌, not, Bool, true, false, List, [], ◌∷◌, ◌++◌, length, map, bytes_eq}
use Rattle.std.specs.List.{flat_map, list_any, list_all, AllByRecursion}
use Rattle.uc_term.specs.Tree.{var}
use Rattle.uc_term.specs.Table.{Table}
use Rattle.uc_term.specs.Variables.{variables, firsts, renumbered_by}
use Rattle.uc_clause.specs.Bytes.{in_line, is_name}
use Rattle.uc_clause.specs.Names.{IsSpellable, IsSpellableName}
use Rattle.uc_clause.specs.Printable.{IsPrintable}
use Rattle.uc_check.specs.declared.proof.Proof.{Proof}
use Rattle.uc_check.specs.declared.proof.Line.{Line}
use Rattle.uc_check.specs.declared.proof.LineStep.{LineStep}
use Rattle.uc_check.specs.declared.proof.LineSource.{LineSource}
use Rattle.uc_check.specs.declared.proof.LineSource.TheVariants.{File, Chain, Refute}
use Rattle.uc_tstp.specs.declared.scope.Scope.{Scope}
use Rattle.uc_tstp.specs.declared.scope.Scope.TheVariants as scope
use Rattle.uc_tstp.specs.Printing.{names_in, is_refutation}

-- a name of a proof: one or more bytes in one line
abbrev pub IsProofName : List ℕ → Type 0
IsProofName name = (0 < length name) × (list_all in_line name ≡ true)

-- behind lines of these names, names of lines: lower-case words, each none that an earlier line has
abbrev pub AreLineNames : List (List ℕ) → List (List ℕ) → Type 0
AreLineNames earlier [] = Unit {0}
AreLineNames earlier (name ∷ names) = (is_name name ≡ true) × (list_any (bytes_eq name) earlier ≡ false) × AreLineNames (name ∷ earlier) names

-- a path of a term with at most 255 arguments behind each functor
abbrev pub IsPath : List ℕ → Type 0
IsPath path = AllByRecursion (λ number. (1 ≤ number) × (number ≤ 255)) path

-- the sources of which lines may be: of a proof all, of a derivation all but a refutation
abbrev pub belongs_line : Scope → LineSource → Bool
belongs_line scope.Proof source = true
belongs_line scope.Derivation source = not (is_refutation source)

abbrev pub AreOf : Scope → List Line → Type 0
AreOf which lines = AllByRecursion (λ line. belongs_line which line.source ≡ true) lines

module _ (table : Table) where
  pub record IsPrintableStep (s : LineStep) : Type 0 where
    pub path : IsPath s.path
    pub to : IsPrintable table s.to

  -- a clause's file and its name can be spelled
  abbrev pub IsPrintableSource : List ℕ → LineSource → Type 0
  IsPrintableSource file (File name) = IsSpellable file × IsSpellableName name
  IsPrintableSource file (Chain start steps parents) = IsPrintable table start × AllByRecursion IsPrintableStep steps
  IsPrintableSource file other = Unit {0}

  -- what a line of this source says: a clause of the problem an equation or its denial, a refutation nothing, with the variable
  -- 0 on both sides, and all else an equation
  abbrev pub IsPrintableBody : LineSource → Line → Type 0
  IsPrintableBody (File name) line = IsPrintable table line.left × IsPrintable table line.right
  IsPrintableBody (Refute parents) line = (line.positive ≡ true) × (line.left ≡ var 0) × (line.right ≡ var 0)
  IsPrintableBody other line = (line.positive ≡ true) × IsPrintable table line.left × IsPrintable table line.right

  pub record IsPrintableLine (file : List ℕ) (line : Line) : Type 0 where
    pub body : IsPrintableBody line.source line
    pub source : IsPrintableSource file line.source

  -- lines, each with its file
  abbrev pub ArePrintableLines : List (List ℕ) → List Line → Type 0
  ArePrintableLines [] [] = Unit {0}
  ArePrintableLines (file ∷ files) (line ∷ lines) = IsPrintableLine file line × ArePrintableLines files lines
  ArePrintableLines files lines = ⊥

  -- lines that belong together, with a file for each
  pub record ArePrintable (which : Scope) (files : List (List ℕ)) (proof_lines : List Line) : Type 0 where
    pub names : AreLineNames [] (names_in proof_lines)
    pub lines : ArePrintableLines files proof_lines
    pub belong : AreOf which proof_lines

  -- a proof of this name, with a file for each line
  pub record IsPrintableProof (proof_name : List ℕ) (files : List (List ℕ)) (proof_lines : List Line) : Type 0 where
    pub name : IsProofName proof_name
    pub names : AreLineNames [] (names_in proof_lines)
    pub lines : ArePrintableLines files proof_lines

-- the variables of a source, from left to right, each as often as it occurs
abbrev pub source_variables : LineSource → List ℕ
source_variables (Chain start steps parents) = variables start ++ flat_map (λ (s : LineStep). variables s.to) steps
source_variables other = []

-- the variables of a line, each once, by first occurrence over its sides, then its chain
abbrev pub line_variables : Line → List ℕ
line_variables line = firsts (variables line.left ++ variables line.right ++ source_variables line.source)

-- with variables numbered by their places in the list
abbrev pub renumbered_step : List ℕ → LineStep → LineStep
renumbered_step xs s = record s { to = renumbered_by xs s.to }

abbrev pub renumbered_source : List ℕ → LineSource → LineSource
renumbered_source xs (Chain start steps parents) = Chain (renumbered_by xs start) (map (renumbered_step xs) steps) parents
renumbered_source xs other = other

-- the line with its variables numbered by first occurrence
abbrev pub renumbered_line : Line → Line
renumbered_line line = record line { left = renumbered_by (line_variables line) line.left; right = renumbered_by (line_variables line) line.right; source = renumbered_source (line_variables line) line.source }

-- the same proof, with the variables of each line numbered by first occurrence
abbrev pub renumbered_proof : Proof → Proof
renumbered_proof proof = record { lines = map renumbered_line proof.lines }

-- n, n + 1 and so on
abbrev pub CountUp : ℕ → List ℕ → Type 0
CountUp n [] = Unit {0}
CountUp n (x ∷ xs) = (x ≡ n) × CountUp (n + 1) xs

-- the variables of each line are numbered by first occurrence already
abbrev pub AreInOrder : List Line → Type 0
AreInOrder lines = AllByRecursion (λ line. CountUp 0 (line_variables line)) lines
