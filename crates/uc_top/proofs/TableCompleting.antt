-- How `table` ends, and what it shows.
use Rattle.std.proofs.Common.{ℕ, ◌≡◌, List, [], ◌∷◌, codes, Option, Some, None, refl, sym, ◌∙◌, subst, arith}
use Rattle.std.specs.Io.KnownBytes.{Appends}
use Rattle.uc_term.specs.Table.{Table as SymbolTable, IsDistinct}
use Rattle.uc_edge.specs.Files.{Files}
use Rattle.uc_edge.specs.Faults.{Rose}
use Rattle.uc_problem.specs.declared.problem.Problem.{Problem}
use Rattle.uc_problem.specs.Loading.{held}
use Rattle.uc_problem.proofs.Outcomes.{some_once, some_or_none}
use Rattle.uc_table.specs.declared.table.Table.{Table}
use Rattle.uc_table.specs.declared.answers.Tabled.{Tabled}
use Rattle.uc_table.specs.declared.answers.Tabled.TheVariants.{Model, AxiomFails, GoalMeets, Assignments}
use Rattle.uc_table.specs.Models.{IsModel}
use Rattle.uc_table.proofs.Canonical.{is_canonical}
use Rattle.uc_table.specs.Checks.{Checks, is_model}
use Rattle.uc_words.specs.declared.command.Command.{Command}
use Rattle.uc_words.specs.declared.command.Verb.TheVariants as verb
use Rattle.uc_words.specs.Reads.{Reads}
use Rattle.uc_answer.specs.Lines.{about_file, memory_line}
use Rattle.uc_answer.specs.TableLines.{tabled_status}
use Rattle.uc_top.specs.FileAnswers.{FileAnswers, is_absent, isnt_fetched, is_found}
use Rattle.uc_top.specs.TableAnswers.{TableTextAnswers, isnt_table, is_table}
use Rattle.uc_top.specs.Loaded.{IsLoaded}
use Rattle.uc_top.specs.Answers.{TableAnswers, fetch_fails, is_refused, is_loaded, Answers}
use Rattle.uc_top.specs.Runs.{MayAnswer, is_answer, wants_memory, IsRun, EndsWith, tells_all, tells_want}
use Rattle.uc_top.specs.TableRuns.{HasModel, KeepsTableWord, TableCompletes, CompletesTable}
use Rattle.uc_top.proofs.Positionals.{first_name, second_name}
use Rattle.uc_top.proofs.ByVerb.{of_verb}
use Rattle.uc_top.proofs.Completing.{told_whole, own_status}
use Rattle.uc_top.proofs.LoadedOnce.{answers_for}
use Rattle.uc_top.proofs.ModelsRefute.{none_follows}
use Rattle.uc_top.proofs.TabledOnce.{fault_told, table_told}

-- the answer of words that are those of `table`
module _ (holds : Option Files) (before now : ℕ) (words : List (List ℕ)) (command : Command) (name file : List ℕ) (reads : Reads words command) (is_table_word : command.verb ≡ verb.Table) (names : command.positionals ≡ name ∷ file ∷ []) where
  answered : {status : ℕ} {text : List ℕ} → Answers holds before now words status text → TableAnswers holds before now command.root name file status text
  answered {status} {text} a =
      let p = of_verb holds before now words verb.Table is_table_word reads a in
      let same : p.0 ∷ p.1 ∷ [] ≡ name ∷ file ∷ [] = sym p.2 ∙ names in
      subst (λ n. TableAnswers holds before now command.root n file status text) (first_name same) (subst (λ n. TableAnswers holds before now command.root p.0 n status text) (second_name same) p.3)

ends_so : {old new : Option (List ℕ)} {status own result : ℕ} {text told : List ℕ} → (own ≡ status) × (text ≡ told) → Appends old new text → result ≡ own → EndsWith status told old new result
ends_so {old} {new} {status} {own} {result} {text} {told} p written e = subst (EndsWith status told old new) (sym (e ∙ p.0)) (tells_all (subst (Appends old new) p.1 written))

-- COMPLETENESS

module _ (files : Files) (before now : ℕ) (well : Rose before now → ⊥) (symbols : SymbolTable) (problem : Problem) (file : List ℕ) (old new : Option (List ℕ)) where
  abbrev Told : ℕ → List ℕ → Type 0
  Told = FileAnswers (Some files) before now (TableTextAnswers symbols problem file) file

  absent_ends : {own result : ℕ} {text : List ℕ} → held files file ≡ None → Told own text → Appends old new text → result ≡ own → EndsWith 3 (about_file file (codes "Absent")) old new result
  absent_ends h (is_absent a) written e = ends_so (refl, refl) written e
  absent_ends h (isnt_fetched r) written e = absurd (well r)
  absent_ends h (is_found a x) written e = absurd (some_or_none a h)

  -- the answer for the text that the file has
  text_of : {own : ℕ} {text : List ℕ} (bytes : List ℕ) → held files file ≡ Some bytes → Told own text → TableTextAnswers symbols problem file bytes own text
  text_of bytes h (is_absent a) = absurd (some_or_none h a)
  text_of bytes h (isnt_fetched r) = absurd (well r)
  text_of {own} {text} bytes h (is_found a x) = subst (λ (t : List ℕ). TableTextAnswers symbols problem file t own text) (some_once a h) x

  completes_so : {own result : ℕ} {text : List ℕ} → Told own text → Appends old new text → result ≡ own → TableCompletes files symbols problem file old new result
  completes_so a written e = record {
    absent = λ h. absent_ends h a written e;
    unread = λ bytes why h r. ends_so (fault_told symbols problem file bytes why r (text_of bytes h a)) written e;
    read = λ bytes table answer h r c. ends_so (table_told symbols problem file bytes table answer r c (text_of bytes h a)) written e;
  }

  want_ends : Appends old new memory_line → TableCompletes files symbols problem file old new 7
  want_ends written = record {
    absent = λ h. tells_want written;
    unread = λ bytes why h r. tells_want written;
    read = λ bytes table answer h r c. tells_want written;
  }

module _ (files : Files) (before now : ℕ) (well : Rose before now → ⊥) (words : List (List ℕ)) (old new : Option (List ℕ)) where
  whole : {status result : ℕ} {text : List ℕ} → MayAnswer (Some files) before now words status text → Appends old new text → result ≡ status → CompletesTable files words old new result
  whole wants_memory written e command name file symbols problem reads is_table_word names distinct is_held = rw e (want_ends files before now well symbols problem file old new written)
  whole {status} {result} {text} (is_answer a) written e command name file symbols problem reads is_table_word names distinct is_held =
      let answer = answers_for files command.root name symbols distinct problem is_held (λ s p. FileAnswers (Some files) before now (TableTextAnswers s p file) file) before now (λ five rose. well rose) (answered (Some files) before now words command name file reads is_table_word names a) in
      completes_so files before now well symbols problem file old new answer written e

pub table_completes : (holds : Option Files) (before now : ℕ) (words : List (List ℕ)) (old new : Option (List ℕ)) (write_before write_now result : ℕ) → IsRun holds before now words old new write_before write_now result → (files : Files) → holds ≡ Some files → (Rose before now → ⊥) → (Rose write_before write_now → ⊥) → CompletesTable files words old new result
table_completes holds before now words old new write_before write_now result run files tells well told_well =
    let told = subst (λ (o : Option Files). IsRun o before now words old new write_before write_now result) tells run in
    let t = told_whole told_well told.told in
    whole files before now well words old new told.answer t.0 t.1

-- STATUS 0

model_told : (table : Table) (problem : Problem) (answer : Tabled) → tabled_status answer ≡ 0 → Checks table problem.clauses answer → IsModel table problem.clauses
model_told table problem Model e (is_model few m) = m
model_told table problem (AxiomFails k vs) e c = absurd (omega (arith, e))
model_told table problem (GoalMeets k vs) e c = absurd (omega (arith, e))
model_told table problem (Assignments k) e c = absurd (omega (arith, e))

module _ (files : Files) (before now : ℕ) (root : Option (List ℕ)) (name file : List ℕ) where
  module _ (symbols : SymbolTable) (distinct : IsDistinct symbols) (problem : Problem) (is_held : IsLoaded files root name symbols problem) where
    text_shows : (text : List ℕ) → held files file ≡ Some text → {status : ℕ} {answer : List ℕ} → status ≡ 0 → TableTextAnswers symbols problem file text status answer → HasModel files root name file
    text_shows text h e (isnt_table r) = absurd (omega (arith, e))
    text_shows text h e (is_table {table = table} {answer = answer} r c) =
        let m = model_told table problem answer e c in
        record {
          symbols = symbols;
          distinct = distinct;
          problem = problem;
          is_loaded = is_held;
          text = text;
          has_text = h;
          table = table;
          reads = r;
          is_model = m;
          none_follows = none_follows symbols problem.signature.symbols table problem.clauses (is_canonical symbols problem.signature.symbols table text r).0 m;
        }

    file_shows : {status : ℕ} {answer : List ℕ} → status ≡ 0 → FileAnswers (Some files) before now (TableTextAnswers symbols problem file) file status answer → HasModel files root name file
    file_shows e (is_absent a) = absurd (omega (arith, e))
    file_shows e (isnt_fetched r) = absurd (omega (arith, e))
    file_shows e (is_found {text = text} h x) = text_shows text h e x

  shows : {status : ℕ} {answer : List ℕ} → status ≡ 0 → TableAnswers (Some files) before now root name file status answer → HasModel files root name file
  shows e (fetch_fails other rose stops) = absurd (omega (arith, e))
  shows e (is_refused why r refused) = absurd (omega (arith, e, refused))
  shows e (is_loaded {table = symbols} {problem = problem} d l a) = file_shows symbols d problem l e a

may_show : (files : Files) (before now : ℕ) (words : List (List ℕ)) {status : ℕ} {text : List ℕ} → status ≡ 0 → MayAnswer (Some files) before now words status text → (command : Command) (name file : List ℕ) → Reads words command → command.verb ≡ verb.Table → command.positionals ≡ name ∷ file ∷ [] → HasModel files command.root name file
may_show files before now words e wants_memory command name file reads is_table_word names = absurd (omega (arith, e))
may_show files before now words e (is_answer a) command name file reads is_table_word names = shows files before now command.root name file e (answered (Some files) before now words command name file reads is_table_word names a)

pub keeps_table_word : (holds : Option Files) (before now : ℕ) (words : List (List ℕ)) (old new : Option (List ℕ)) (write_before write_now result : ℕ) → IsRun holds before now words old new write_before write_now result → (files : Files) → holds ≡ Some files → KeepsTableWord files words result
keeps_table_word holds before now words old new write_before write_now result run files tells command name file reads is_table_word names done =
    let told = subst (λ (o : Option Files). IsRun o before now words old new write_before write_now result) tells run in
    may_show files before now words (own_status told.told done) told.answer command name file reads is_table_word names
