-- What the program answers: its status and its text, for the words of the command line and the files of a library.
use Rattle.std.specs.Prelude.{ℕ, ◌≡◌, List, [], ◌∷◌, codes, slice_get, Option, Some, None, Ok, Err}
use Rattle.uc_term.specs.declared.fresh.Fresh.{Fresh}
use Rattle.uc_term.specs.Table.{Table, IsDistinct}
use Rattle.uc_edge.specs.Files.{Files}
use Rattle.uc_edge.specs.Faults.{Rose}
use Rattle.uc_clause.specs.declared.clause.Sourced.{Sourced}
use Rattle.uc_problem.specs.declared.fault.LoadFault.{LoadFault}
use Rattle.uc_problem.specs.declared.fault.LoadFault.TheVariants as load
use Rattle.uc_problem.specs.declared.fault.EncodeFault.TheVariants.{GoalTooLarge}
use Rattle.uc_problem.specs.declared.problem.Problem.{Problem}
use Rattle.uc_problem.specs.Refusing.{Stops, IsRefused}
use Rattle.uc_problem.specs.Marks.{Marks}
use Rattle.uc_problem.specs.Filling.{WhereTold, AddsMarks}
use Rattle.uc_tstp.specs.declared.fault.ProofFault.{ProofFault}
use Rattle.uc_tstp.specs.declared.fault.ProofFault.TheVariants.{NoMemory}
use Rattle.uc_tstp.specs.Reading.{IsReading}
use Rattle.uc_tstp.specs.Interning.{InternsProof}
use Rattle.uc_check.specs.declared.checker.Checked.{Checked}
use Rattle.uc_check.specs.declared.checker.Checked.TheVariants.{Accepted, Rejected}
use Rattle.uc_check.specs.declared.proof.Proof.{Proof}
use Rattle.uc_check.specs.Checks.{IsChecked}
use Rattle.uc_words.specs.declared.command.Command.{Command}
use Rattle.uc_words.specs.declared.command.OrderWords.{OrderWords}
use Rattle.uc_words.specs.declared.command.Verb.{Verb}
use Rattle.uc_words.specs.declared.command.Verb.TheVariants as verb
use Rattle.uc_words.specs.Reads.{Reads}
use Rattle.uc_answer.specs.Lines.{about_file, load_line, proof_line, checked_line, shown_lines, usage_line}
use Rattle.uc_answer.specs.Refusals.{load_status, large_line}
use Rattle.uc_top.specs.Loaded.{IsLoaded}
use Rattle.uc_top.specs.FileAnswers.{FileAnswers}
use Rattle.uc_top.specs.TableAnswers.{TableTextAnswers}
use Rattle.uc_top.specs.ModelAnswers.{IsModelled}
use Rattle.uc_top.specs.CertificateAnswers.{CertificateAnswers}
use Rattle.uc_top.specs.CertifyAnswers.{IsCertifiedAnswer}
use Rattle.uc_top.specs.SystemAnswers.{IsAskedCertificate}
use Rattle.uc_top.specs.GenAnswers.{GenAnswers}
use Rattle.uc_top.specs.declared.listing.Listing.{Listing}
use Rattle.uc_top.specs.declared.listing.Listing.TheVariants.{Directions, CriticalPairs}
use Rattle.uc_top.specs.ListAnswers.{IsListed}
use Rattle.uc_top.specs.RewriteAnswers.{IsRewritten}
use Rattle.uc_top.specs.ProveAnswers.{ProveAnswers}
use Rattle.uc_top.specs.DecideAnswers.{IsDecided}

abbrev pub checked_status : Checked → ℕ
checked_status Accepted = 0
checked_status (Rejected line cause) = 1

-- the commands that search, by as many workers as the words ask for; `decide` is none where it is given a certificate
abbrev pub IsSearching : Verb → Option (List ℕ) → Type 0
IsSearching verb.Prove system = Unit {0}
IsSearching verb.Decide None = Unit {0}
IsSearching verb.Decide (Some file) = ⊥
IsSearching verb.Gen system = Unit {0}
IsSearching other system = ⊥

-- where the words name a command that searches, they ask for one worker
abbrev pub SearchesAlone : List (List ℕ) → Type 0
SearchesAlone words = (command : Command) → Reads words command → IsSearching command.verb command.system → command.workers ≡ 1

-- Symbols are those of this table.
module _ (table : Table) where
  -- The answer to `check` for the clauses and the encoding's symbols of a problem and for the text of a proof file of this name. A
  -- proof is read in the table that its text makes of this one; why a text is none doesn't depend on the table.
  module _ (clauses : List Sourced) (marks : Option Fresh) (name text : List ℕ) where
    pub data TextAnswers : ℕ → List ℕ → Type 0 where
      is_not_read : (read : Table) {why : ProofFault} → IsReading read text (Err why) → (why ≡ NoMemory → ⊥) → TextAnswers 3 (proof_line name why)
      is_checked : {read : Table} {proof : Proof} {answer : Checked} → InternsProof text table read → IsReading read text (Ok proof) → IsChecked clauses marks proof.lines answer → TextAnswers (checked_status answer) (checked_line proof.lines answer)

  -- the answer to `show` for a problem: all its clauses, each on a line
  abbrev pub IsShown : Problem → ℕ → List ℕ → Type 0
  IsShown problem status answer = (status ≡ 0) × (answer ≡ shown_lines table problem.clauses)

  -- the answer for the proof file of this name
  abbrev pub ProofAnswers : Option Files → ℕ → ℕ → List Sourced → Option Fresh → List ℕ → ℕ → List ℕ → Type 0
  ProofAnswers holds before now clauses marks name = FileAnswers holds before now (TextAnswers clauses marks name) name

-- The library's files are these, where it tells them, and its count of faults was and is this.
module _ (holds : Option Files) (before now : ℕ) where
  -- The answer to `check` for a proof file of this name and a problem, whose symbols are those of the table that loading it leaves.
  -- The encoding's symbols make a table of that.
  module _ (proof : List ℕ) (loaded : Table) (problem : Problem) where
    pub data ProblemAnswers : ℕ → List ℕ → Type 0 where
      has_large_goal : {number : ℕ} {goal : Sourced} → Marks loaded problem (Err (GoalTooLarge number)) → slice_get problem.clauses number ≡ Some goal → ProblemAnswers 3 (large_line goal)
      is_marked : {table : Table} {marks : Option Fresh} {status : ℕ} {answer : List ℕ} → IsDistinct table → AddsMarks loaded table marks → Marks table problem (Ok marks) → ProofAnswers table holds before now problem.clauses marks proof status answer → ProblemAnswers status answer

  -- The answer to a command that loads the problem file of this name, with this root, and answers so for the problem, whose symbols
  -- are those of the table that loading it leaves.
  module _ (AnswersFor : Table → Problem → ℕ → List ℕ → Type 0) (root : Option (List ℕ)) (name : List ℕ) where
    pub data LoadAnswers : ℕ → List ℕ → Type 0 where
      fetch_fails : (file : List ℕ) → Rose before now → WhereTold holds (λ files. Stops files (Some file) root name (load.ReadFault file)) → LoadAnswers 5 (about_file file (codes "ReadFault"))
      is_refused : (why : LoadFault) → WhereTold holds (λ files. IsRefused files root name [] why) → load_status why ≡ 3 → LoadAnswers 3 (load_line why)
      is_loaded : {table : Table} {problem : Problem} {status : ℕ} {answer : List ℕ} → IsDistinct table → WhereTold holds (λ files. IsLoaded files root name table problem) → AnswersFor table problem status answer → LoadAnswers status answer

  -- the answer to `check` for the problem file and the proof file of these names, with this root
  abbrev pub CheckAnswers : Option (List ℕ) → List ℕ → List ℕ → ℕ → List ℕ → Type 0
  CheckAnswers root name proof = LoadAnswers (ProblemAnswers proof) root name

  -- the answer to `show` for the problem file of this name, with this root
  abbrev pub ShowAnswers : Option (List ℕ) → List ℕ → ℕ → List ℕ → Type 0
  ShowAnswers root name = LoadAnswers IsShown root name

  -- the answer to `order` or to `pairs` for the problem file of this name, by the order that these words name, with this root
  abbrev pub ListAnswers : Listing → OrderWords → Option (List ℕ) → List ℕ → ℕ → List ℕ → Type 0
  ListAnswers listing order root name = LoadAnswers (λ table. IsListed listing table order) root name

  -- the answer to `rewrite` for the problem file of this name and this word, by the order that these words name and with this
  -- limit on the steps, with this root
  abbrev pub RewriteAnswers : OrderWords → ℕ → List ℕ → Option (List ℕ) → List ℕ → ℕ → List ℕ → Type 0
  RewriteAnswers order limit word root name = LoadAnswers (λ table. IsRewritten table order limit word) root name

  -- the answer to `decide` for the problem file of this name and these questions, by a search
  abbrev pub DecideAnswers : Command → List ℕ → List (List ℕ) → ℕ → List ℕ → Type 0
  DecideAnswers command name questions = LoadAnswers (λ table. IsDecided table command name questions) command.root name

  -- the answer to `table` for the problem file and the table file of these names, with this root
  abbrev pub TableAnswers : Option (List ℕ) → List ℕ → List ℕ → ℕ → List ℕ → Type 0
  TableAnswers root name file = LoadAnswers (λ symbols problem. FileAnswers holds before now (TableTextAnswers symbols problem file) file) root name

  -- the answer to `model` for the problem file of this name
  abbrev pub ModelAnswers : Command → List ℕ → ℕ → List ℕ → Type 0
  ModelAnswers command name = LoadAnswers (λ symbols. IsModelled symbols command name) command.root name

  -- the answer to `certify` for the problem file and the certificate file of these names, with this root
  abbrev pub CertifyAnswers : Option (List ℕ) → List ℕ → List ℕ → ℕ → List ℕ → Type 0
  CertifyAnswers root name file = LoadAnswers (CertificateAnswers IsCertifiedAnswer holds before now file) root name

  -- the answer to `decide` for the problem file of this name and these questions, by the certificate file of this name, with this limit
  -- on the steps and with this root
  abbrev pub SystemAnswers : ℕ → List (List ℕ) → List ℕ → Option (List ℕ) → List ℕ → ℕ → List ℕ → Type 0
  SystemAnswers steps questions file root name = LoadAnswers (λ loaded problem. CertificateAnswers (IsAskedCertificate steps questions problem) holds before now file loaded problem) root name

  -- the answer to the words of a command line; each command has a case, `decide` one by a search and one by a certificate
  module _ (words : List (List ℕ)) where
    pub data Answers : ℕ → List ℕ → Type 0 where
      has_no_reading : ((command : Command) → Reads words command → ⊥) → Answers 4 usage_line
      checks : {command : Command} {name proof : List ℕ} {status : ℕ} {answer : List ℕ} → Reads words command → command.verb ≡ verb.Check → command.positionals ≡ name ∷ proof ∷ [] → CheckAnswers command.root name proof status answer → Answers status answer
      shows : {command : Command} {name : List ℕ} {status : ℕ} {answer : List ℕ} → Reads words command → command.verb ≡ verb.Show → command.positionals ≡ name ∷ [] → ShowAnswers command.root name status answer → Answers status answer
      orders : {command : Command} {name : List ℕ} {status : ℕ} {answer : List ℕ} → Reads words command → command.verb ≡ verb.Order → command.positionals ≡ name ∷ [] → ListAnswers Directions command.order command.root name status answer → Answers status answer
      rewrites : {command : Command} {name word : List ℕ} {status : ℕ} {answer : List ℕ} → Reads words command → command.verb ≡ verb.Rewrite → command.positionals ≡ name ∷ word ∷ [] → RewriteAnswers command.order command.limit word command.root name status answer → Answers status answer
      pairs_up : {command : Command} {name : List ℕ} {status : ℕ} {answer : List ℕ} → Reads words command → command.verb ≡ verb.Pairs → command.positionals ≡ name ∷ [] → ListAnswers CriticalPairs command.order command.root name status answer → Answers status answer
      proves : {command : Command} {name : List ℕ} {status : ℕ} {answer : List ℕ} → Reads words command → command.verb ≡ verb.Prove → command.positionals ≡ name ∷ [] → ProveAnswers command name holds before now status answer → Answers status answer
      decides : {command : Command} {name : List ℕ} {questions : List (List ℕ)} {status : ℕ} {answer : List ℕ} → Reads words command → command.verb ≡ verb.Decide → command.system ≡ None → command.positionals ≡ name ∷ questions → DecideAnswers command name questions status answer → Answers status answer
      decides_by_certificate : {command : Command} {name file : List ℕ} {questions : List (List ℕ)} {status : ℕ} {answer : List ℕ} → Reads words command → command.verb ≡ verb.Decide → command.system ≡ Some file → command.positionals ≡ name ∷ questions → SystemAnswers command.steps questions file command.root name status answer → Answers status answer
      tables : {command : Command} {name file : List ℕ} {status : ℕ} {answer : List ℕ} → Reads words command → command.verb ≡ verb.Table → command.positionals ≡ name ∷ file ∷ [] → TableAnswers command.root name file status answer → Answers status answer
      models : {command : Command} {name : List ℕ} {status : ℕ} {answer : List ℕ} → Reads words command → command.verb ≡ verb.Model → command.positionals ≡ name ∷ [] → ModelAnswers command name status answer → Answers status answer
      certifies : {command : Command} {name file : List ℕ} {status : ℕ} {answer : List ℕ} → Reads words command → command.verb ≡ verb.Certify → command.positionals ≡ name ∷ file ∷ [] → CertifyAnswers command.root name file status answer → Answers status answer
      generates : {command : Command} {status : ℕ} {answer : List ℕ} → Reads words command → command.verb ≡ verb.Gen → GenAnswers command status answer → Answers status answer
