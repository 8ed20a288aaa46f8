-- How `model` ends, and what it shows.
use Rattle.std.proofs.Common.{ℕ, ◌≡◌, ◌≤◌, List, [], ◌∷◌, Option, Some, refl, sym, ◌∙◌, subst, arith}
use Rattle.std.specs.Io.KnownBytes.{Appends}
use Rattle.uc_term.specs.Table.{Table as SymbolTable, IsDistinct}
use Rattle.uc_edge.specs.Files.{Files}
use Rattle.uc_edge.specs.Faults.{Rose}
use Rattle.uc_problem.specs.declared.problem.Problem.{Problem}
use Rattle.uc_table.specs.declared.answers.Searched.{Searched}
use Rattle.uc_table.specs.declared.answers.Searched.TheVariants.{Found, Absent, Spent, Cells, Assignments}
use Rattle.uc_table.specs.Least.{Shows}
use Rattle.uc_table.specs.Searching.{Searches}
use Rattle.uc_table.proofs.Readiness.{problem_known}
use Rattle.uc_table.proofs.SearchShows.{searches_show}
use Rattle.uc_words.specs.declared.command.Command.{Command}
use Rattle.uc_words.specs.declared.command.Verb.TheVariants as verb
use Rattle.uc_words.specs.Reads.{Reads}
use Rattle.uc_answer.specs.ModelLines.{searched_status, searched_lines}
use Rattle.uc_top.specs.Loaded.{IsLoaded}
use Rattle.uc_top.specs.Answers.{ModelAnswers, fetch_fails, is_refused, is_loaded, Answers}
use Rattle.uc_top.specs.ModelAnswers.{IsModelled, is_searched}
use Rattle.uc_top.specs.Runs.{MayAnswer, is_answer, wants_memory, IsRun}
use Rattle.uc_top.specs.ModelRuns.{FindsModel, LacksModel, KeepsModel, KeepsModelWord, ModelEnds, tells_searched, lacks_memory, CompletesModel}
use Rattle.uc_top.specs.Told.{IsTold, told, cut_short}
use Rattle.uc_top.proofs.Positionals.{only_name}
use Rattle.uc_top.proofs.ByVerb.{of_verb}
use Rattle.uc_top.proofs.Completing.{told_whole}
use Rattle.uc_top.proofs.LoadedOnce.{answers_for}
use Rattle.uc_top.proofs.ModelsRefute.{none_follows}
use Rattle.uc_top.proofs.WithinLimits.{size_within}

-- the answer of words that are those of `model`
module _ (holds : Option Files) (before now : ℕ) (words : List (List ℕ)) (command : Command) (name : List ℕ) (reads : Reads words command) (is_model : command.verb ≡ verb.Model) (names : command.positionals ≡ name ∷ []) where
  answered : {status : ℕ} {text : List ℕ} → Answers holds before now words status text → ModelAnswers holds before now command name status text
  answered {status} {text} a =
      let p = of_verb holds before now words verb.Model is_model reads a in
      subst (λ n. ModelAnswers holds before now command n status text) (only_name (sym p.1 ∙ names)) p.2

-- COMPLETENESS

module _ (files : Files) (before now : ℕ) (well : Rose before now → ⊥) (words : List (List ℕ)) (old new : Option (List ℕ)) where
  ends : {symbols : SymbolTable} {command : Command} {name : List ℕ} {problem : Problem} {status result : ℕ} {text : List ℕ} → IsModelled symbols command name problem status text → Appends old new text → result ≡ status → ModelEnds symbols command name problem old new result
  ends (is_searched x) written e = rw e (tells_searched x written)

  whole : {status result : ℕ} {text : List ℕ} → MayAnswer (Some files) before now words status text → Appends old new text → result ≡ status → CompletesModel files words old new result
  whole wants_memory written e command name symbols problem reads is_model names distinct held = rw e (lacks_memory written)
  whole {status} {result} {text} (is_answer a) written e command name symbols problem reads is_model names distinct held =
      ends (answers_for files command.root name symbols distinct problem held (λ s. IsModelled s command name) before now (λ five rose. well rose) (answered (Some files) before now words command name reads is_model names a)) written e

pub model_completes : (holds : Option Files) (before now : ℕ) (words : List (List ℕ)) (old new : Option (List ℕ)) (write_before write_now result : ℕ) → IsRun holds before now words old new write_before write_now result → (files : Files) → holds ≡ Some files → (Rose before now → ⊥) → (Rose write_before write_now → ⊥) → CompletesModel files words old new result
model_completes holds before now words old new write_before write_now result run files tells well told_well =
    let told = subst (λ (o : Option Files). IsRun o before now words old new write_before write_now result) tells run in
    let t = told_whole told_well told.told in
    whole files before now well words old new told.answer t.0 t.1

-- STATUSES 0 AND 1

module _ (files : Files) (before now : ℕ) (command : Command) (name : List ℕ) (most : command.size ≤ 8) where
  module _ (symbols : SymbolTable) (distinct : IsDistinct symbols) (problem : Problem) (held : IsLoaded files command.root name symbols problem) where
    shown : (answer : Searched) → Searches symbols problem.signature.symbols problem.clauses command.budget command.size answer → Shows symbols problem.signature.symbols problem.clauses command.size answer
    shown answer x = searches_show symbols problem.signature.symbols problem.clauses command.budget (problem_known symbols problem held.holds.agrees) command.size answer most x

    finds : (answer : Searched) → searched_status answer ≡ 0 → Shows symbols problem.signature.symbols problem.clauses command.size answer → FindsModel files command.root name command.size (searched_lines symbols problem name command.size command.budget answer)
    finds (Found table) e least = record {
      symbols = symbols;
      distinct = distinct;
      problem = problem;
      is_loaded = held;
      table = table;
      is_least = least;
      none_follows = none_follows symbols problem.signature.symbols table problem.clauses least.is_table least.is_model;
      text_is = refl;
    }
    finds Absent e least = absurd (omega (arith, e))
    finds (Spent visited) e least = absurd (omega (arith, e))
    finds (Cells m) e least = absurd (omega (arith, e))
    finds (Assignments m) e least = absurd (omega (arith, e))

    lacks : (answer : Searched) → searched_status answer ≡ 1 → Shows symbols problem.signature.symbols problem.clauses command.size answer → LacksModel files command.root name command.size
    lacks (Found table) e none = absurd (omega (arith, e))
    lacks Absent e none = record { symbols = symbols; distinct = distinct; problem = problem; is_loaded = held; has_none = none }
    lacks (Spent visited) e none = absurd (omega (arith, e))
    lacks (Cells m) e none = absurd (omega (arith, e))
    lacks (Assignments m) e none = absurd (omega (arith, e))

    modelled_finds : {status : ℕ} {text : List ℕ} → status ≡ 0 → IsModelled symbols command name problem status text → FindsModel files command.root name command.size text
    modelled_finds e (is_searched {answer = answer} x) = finds answer e (shown answer x)

    modelled_lacks : {status : ℕ} {text : List ℕ} → status ≡ 1 → IsModelled symbols command name problem status text → LacksModel files command.root name command.size
    modelled_lacks e (is_searched {answer = answer} x) = lacks answer e (shown answer x)

  shows_found : {status : ℕ} {text : List ℕ} → status ≡ 0 → ModelAnswers (Some files) before now command name status text → FindsModel files command.root name command.size text
  shows_found e (fetch_fails other rose stops) = absurd (omega (arith, e))
  shows_found e (is_refused why r refused) = absurd (omega (arith, e, refused))
  shows_found e (is_loaded {table = symbols} {problem = problem} d l a) = modelled_finds symbols d problem l e a

  shows_none : {status : ℕ} {text : List ℕ} → status ≡ 1 → ModelAnswers (Some files) before now command name status text → LacksModel files command.root name command.size
  shows_none e (fetch_fails other rose stops) = absurd (omega (arith, e))
  shows_none e (is_refused why r refused) = absurd (omega (arith, e, refused))
  shows_none e (is_loaded {table = symbols} {problem = problem} d l a) = modelled_lacks symbols d problem l e a

-- an answer that ends with such a status is told whole
whole_told : {old new : Option (List ℕ)} {before now : ℕ} {text : List ℕ} {status result : ℕ} → IsTold old new before now text status result → result ≤ 1 → Appends old new text × (status ≡ result)
whole_told (told whole) few = (whole, refl)
whole_told (cut_short short part rose) few = absurd (omega (arith, few))

module _ (files : Files) (before now : ℕ) (words : List (List ℕ)) (old new : Option (List ℕ)) (write_before write_now : ℕ) (command : Command) (name : List ℕ) (reads : Reads words command) (is_model : command.verb ≡ verb.Model) (names : command.positionals ≡ name ∷ []) where
  may_keep : {status result : ℕ} {text : List ℕ} → MayAnswer (Some files) before now words status text → IsTold old new write_before write_now text status result → KeepsModel files command name old new result
  may_keep wants_memory t = record {
    found = λ e. (let p = whole_told t (omega (arith, e)) in absurd (omega (arith, e, p.1)));
    none = λ e. (let p = whole_told t (omega (arith, e)) in absurd (omega (arith, e, p.1)));
  }
  may_keep {text = text} (is_answer a) t =
      let own = answered (Some files) before now words command name reads is_model names a in
      let most = (size_within words command reads).1 in
      record {
        found = λ e. (let p = whole_told t (omega (arith, e)) in (text, shows_found files before now command name most (p.1 ∙ e) own, p.0));
        none = λ e. (let p = whole_told t (omega (arith, e)) in shows_none files before now command name most (p.1 ∙ e) own);
      }

pub keeps_model_word : (holds : Option Files) (before now : ℕ) (words : List (List ℕ)) (old new : Option (List ℕ)) (write_before write_now result : ℕ) → IsRun holds before now words old new write_before write_now result → (files : Files) → holds ≡ Some files → KeepsModelWord files words old new result
keeps_model_word holds before now words old new write_before write_now result run files tells command name reads is_model names =
    let own = subst (λ (o : Option Files). IsRun o before now words old new write_before write_now result) tells run in
    may_keep files before now words old new write_before write_now command name reads is_model names own.answer own.told
