-- What a run of the program does.
use Rattle.std.specs.Prelude.{ℕ, ◌≡◌, false, List, [], ◌∷◌, length, slice_get, codes, Option, Some, None, Ok, Err}
use Rattle.std.specs.List.{list_any}
use Rattle.std.specs.Io.KnownBytes.{Appends}
use Rattle.uc_term.specs.declared.fresh.Fresh.{Fresh}
use Rattle.uc_term.specs.Table.{Table, IsDistinct}
use Rattle.uc_term.specs.Conversion.{SomeFollows}
use Rattle.uc_edge.specs.Files.{Files}
use Rattle.uc_clause.specs.declared.clause.Sourced.{Sourced}
use Rattle.uc_problem.specs.declared.problem.Problem.{Problem}
use Rattle.uc_problem.specs.declared.fault.EncodeFault.TheVariants.{GoalTooLarge}
use Rattle.uc_problem.specs.Loading.{held}
use Rattle.uc_problem.specs.Marks.{Marks, is_too_large}
use Rattle.uc_problem.specs.Filling.{AddsMarks}
use Rattle.uc_tstp.specs.declared.fault.ProofFault.{ProofFault}
use Rattle.uc_tstp.specs.declared.fault.ProofFault.TheVariants.{NoMemory}
use Rattle.uc_tstp.specs.Reading.{ReadsProof, IsReading}
use Rattle.uc_tstp.specs.Interning.{InternsProof}
use Rattle.uc_check.specs.declared.proof.Proof.{Proof}
use Rattle.uc_check.specs.declared.proof.Line.{Line}
use Rattle.uc_check.specs.declared.checker.Checked.{Checked}
use Rattle.uc_check.specs.Checks.{AreRightBefore, EndsInRefutation, IsChecked}
use Rattle.uc_check.specs.Clauses.{axioms_of, goals_of}
use Rattle.uc_words.specs.declared.command.Command.{Command}
use Rattle.uc_words.specs.declared.command.Verb.TheVariants.{Check, Show}
use Rattle.uc_words.specs.Reads.{Reads}
use Rattle.uc_answer.specs.Lines.{about_file, proof_line, checked_line, memory_line, shown_lines}
use Rattle.uc_answer.specs.Refusals.{large_line}
use Rattle.uc_top.specs.Told.{IsTold}
use Rattle.uc_top.specs.Loaded.{IsLoaded}
use Rattle.uc_top.specs.Answers.{Answers, checked_status}

-- An answer to these words, or want of memory, which is free. The library's files are these, where it tells them, and its count of
-- faults was and is this.
pub data MayAnswer (holds : Option Files) (before now : ℕ) (words : List (List ℕ)) : ℕ → List ℕ → Type 0 where
  is_answer : {status : ℕ} {text : List ℕ} → Answers holds before now words status text → MayAnswer holds before now words status text
  wants_memory : MayAnswer holds before now words 7 memory_line

-- The sink is told such an answer, whole or up to a write that failed. It had and has this, where it tells that, and its count of
-- faults was and is this.
pub record IsRun (holds : Option Files) (fetch_before fetch_now : ℕ) (words : List (List ℕ)) (old new : Option (List ℕ)) (write_before write_now : ℕ) (result : ℕ) : Type 0 where
  pub status : ℕ
  pub text : List ℕ
  pub answer : MayAnswer holds fetch_before fetch_now words status text
  pub told : IsTold old new write_before write_now text status result

-- a status that neither a failure of the library or the sink nor want of memory brings
abbrev pub IsSettledStatus : ℕ → Type 0
IsSettledStatus status = (status ≡ 5 → ⊥) × (status ≡ 6 → ⊥) × (status ≡ 7 → ⊥)

-- These files have a problem under this name, and under the other a proof of it: each line is right, and the last one refutes a
-- goal. So one of the problem's goals follows from its axioms. Loading leaves a table of symbols, of which the encoding's symbols
-- make another and the proof a third.
pub record HasProof (files : Files) (root : Option (List ℕ)) (name proof_name : List ℕ) : Type 0 where
  pub loaded : Table
  pub loaded_distinct : IsDistinct loaded
  pub problem : Problem
  pub is_loaded : IsLoaded files root name loaded problem
  pub table : Table
  pub distinct : IsDistinct table
  pub marks : Option Fresh
  pub adds : AddsMarks loaded table marks
  pub marked : Marks table problem (Ok marks)
  pub text : List ℕ
  pub has_text : held files proof_name ≡ Some text
  pub read : Table
  pub interns : InternsProof text table read
  pub proof : Proof
  pub reads : ReadsProof read text (Ok proof)
  pub are_right : AreRightBefore problem.clauses marks proof.lines (length proof.lines)
  pub refutes : EndsInRefutation proof.lines
  pub follows : SomeFollows (axioms_of problem.clauses) (goals_of problem.clauses)

-- the command checks a problem file and a proof file that these files have, with a proof in it
pub record IsCertified (files : Files) (command : Command) : Type 0 where
  pub name : List ℕ
  pub proof_name : List ℕ
  pub names : command.positionals ≡ name ∷ proof_name ∷ []
  pub has_proof : HasProof files command.root name proof_name

-- How `show` ends for a problem: with all its clauses, each on a line, and status 0; or for want of memory, which is free.
pub data ShowEnds (table : Table) (problem : Problem) (old new : Option (List ℕ)) : ℕ → Type 0 where
  shows_all : Appends old new (shown_lines table problem.clauses) → ShowEnds table problem old new 0
  lacks_memory : Appends old new memory_line → ShowEnds table problem old new 7

-- Where the words show a problem that the files hold, `show` ends so, with the problem's symbols in the table that loading it leaves.
abbrev pub Completes : Files → List (List ℕ) → Option (List ℕ) → Option (List ℕ) → ℕ → Type 0
Completes files words old new result = (command : Command) (name : List ℕ) (table : Table) (problem : Problem) → Reads words command → command.verb ≡ Show → command.positionals ≡ name ∷ [] → IsDistinct table → IsLoaded files command.root name table problem → ShowEnds table problem old new result

-- How a run ends that has this to answer: all of it is told, and the status is its own; or for want of memory, which is free.
pub data EndsWith (status : ℕ) (text : List ℕ) (old new : Option (List ℕ)) : ℕ → Type 0 where
  tells_all : Appends old new text → EndsWith status text old new status
  tells_want : Appends old new memory_line → EndsWith status text old new 7

-- How `check` ends for a problem of these clauses and a proof of these lines: with the checker's answer, which is that it is
-- accepted, with status 0, where all lines are right and the last one refutes a goal, and else the first line and test that
-- fails, with status 1; or for want of memory.
pub data CheckEnds (clauses : List Sourced) (marks : Option Fresh) (lines : List Line) (old new : Option (List ℕ)) : ℕ → Type 0 where
  tells_checked : {answer : Checked} → IsChecked clauses marks lines answer → Appends old new (checked_line lines answer) → CheckEnds clauses marks lines old new (checked_status answer)
  checks_in_want : Appends old new memory_line → CheckEnds clauses marks lines old new 7

-- How `check` ends for a problem, with its symbols in the table that loading it leaves, and for the proof file of this name.
pub record CheckCompletes (loaded : Table) (files : Files) (problem : Problem) (proof_name : List ℕ) (old new : Option (List ℕ)) (result : ℕ) : Type 0 where
  -- a goal is too large to be encoded
  pub large : (number : ℕ) (goal : Sourced) → Marks loaded problem (Err (GoalTooLarge number)) → slice_get problem.clauses number ≡ Some goal → EndsWith 3 (large_line goal) old new result
  -- none is, and there is no proof file
  pub absent : list_any is_too_large problem.clauses ≡ false → held files proof_name ≡ None → EndsWith 3 (about_file proof_name (codes "Absent")) old new result
  -- none is, and the proof file's text isn't read as a proof
  pub unread : list_any is_too_large problem.clauses ≡ false → (read : Table) (text : List ℕ) (why : ProofFault) → held files proof_name ≡ Some text → IsReading read text (Err why) → (why ≡ NoMemory → ⊥) → EndsWith 3 (proof_line proof_name why) old new result
  -- it is read as a proof, in the table that the encoding's symbols and the proof make
  pub read : (table read : Table) (marks : Option Fresh) → IsDistinct table → AddsMarks loaded table marks → Marks table problem (Ok marks) → (text : List ℕ) (proof : Proof) → held files proof_name ≡ Some text → InternsProof text table read → IsReading read text (Ok proof) → CheckEnds problem.clauses marks proof.lines old new result

-- Where the words check a problem that the files hold, `check` ends so, with the problem's symbols in the table that loading it leaves.
abbrev pub CompletesCheck : Files → List (List ℕ) → Option (List ℕ) → Option (List ℕ) → ℕ → Type 0
CompletesCheck files words old new result = (command : Command) (name proof_name : List ℕ) (loaded : Table) (problem : Problem) → Reads words command → command.verb ≡ Check → command.positionals ≡ name ∷ proof_name ∷ [] → IsDistinct loaded → IsLoaded files command.root name loaded problem → CheckCompletes loaded files problem proof_name old new result
