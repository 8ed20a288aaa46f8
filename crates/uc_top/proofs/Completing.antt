-- How `show` ends.
use Rattle.std.proofs.Common.{ℕ, ◌≡◌, List, [], ◌∷◌, Option, Some, refl, sym, ◌∙◌, subst, arith}
use Rattle.std.specs.Io.KnownBytes.{Appends}
use Rattle.uc_term.specs.Table.{Table, IsDistinct}
use Rattle.uc_edge.specs.Files.{Files}
use Rattle.uc_edge.specs.Faults.{Rose}
use Rattle.uc_problem.specs.declared.problem.Problem.{Problem}
use Rattle.uc_words.specs.declared.command.Command.{Command}
use Rattle.uc_words.specs.declared.command.Verb.TheVariants as verb
use Rattle.uc_words.specs.Reads.{Reads}
use Rattle.uc_top.specs.Told.{IsTold, told, cut_short}
use Rattle.uc_top.specs.Loaded.{IsLoaded}
use Rattle.uc_top.specs.Answers.{IsShown, ShowAnswers, Answers}
use Rattle.uc_top.specs.Runs.{MayAnswer, is_answer, wants_memory, IsRun, ShowEnds, shows_all, lacks_memory, Completes}
use Rattle.uc_top.proofs.Positionals.{only_name}
use Rattle.uc_top.proofs.ByVerb.{of_verb}
use Rattle.uc_top.proofs.LoadedOnce.{answers_for}

-- where no write failed the whole text was told
pub told_whole : {old new : Option (List ℕ)} {before now : ℕ} {text : List ℕ} {status result : ℕ} → (Rose before now → ⊥) → IsTold old new before now text status result → Appends old new text × (result ≡ status)
told_whole well (told whole) = (whole, refl)
told_whole well (cut_short short part rose) = absurd (well rose)

-- a status 0 is the answer's own
pub own_status : {old new : Option (List ℕ)} {before now : ℕ} {text : List ℕ} {status result : ℕ} → IsTold old new before now text status result → result ≡ 0 → status ≡ 0
own_status (told whole) e = e
own_status (cut_short short part rose) e = absurd (omega (arith, e))

module _ (files : Files) (before now : ℕ) (well : Rose before now → ⊥) where
  module _ (words : List (List ℕ)) (command : Command) (name : List ℕ) (reads : Reads words command) (is_show : command.verb ≡ verb.Show) (names : command.positionals ≡ name ∷ []) where
    answered : {status : ℕ} {text : List ℕ} → Answers (Some files) before now words status text → ShowAnswers (Some files) before now command.root name status text
    answered {status} {text} a =
        let p = of_verb (Some files) before now words verb.Show is_show reads a in
        subst (λ n. ShowAnswers (Some files) before now command.root n status text) (only_name (sym p.1 ∙ names)) p.2

    module _ (table : Table) (distinct : IsDistinct table) (problem : Problem) (held : IsLoaded files command.root name table problem) (old new : Option (List ℕ)) where
      whole : {status result : ℕ} {text : List ℕ} → MayAnswer (Some files) before now words status text → Appends old new text → result ≡ status → ShowEnds table problem old new result
      whole wants_memory written e = rw e (lacks_memory written)
      whole (is_answer a) written e =
          let p = answers_for files command.root name table distinct problem held IsShown before now (λ five rose. well rose) (answered a) in
          rw (e ∙ p.0) (shows_all (rw p.1 at written))

pub show_ends : (files : Files) (before now : ℕ) (words : List (List ℕ)) (old new : Option (List ℕ)) (write_before write_now result : ℕ) → (Rose before now → ⊥) → (Rose write_before write_now → ⊥) → IsRun (Some files) before now words old new write_before write_now result → Completes files words old new result
show_ends files before now words old new write_before write_now result well told_well run command name table problem reads is_show names distinct held =
    let t = told_whole told_well run.told in
    whole files before now well words command name reads is_show names table distinct problem held old new run.answer t.0 t.1

-- the same where the library is said to tell these files
pub completes : (holds : Option Files) (before now : ℕ) (words : List (List ℕ)) (old new : Option (List ℕ)) (write_before write_now result : ℕ) → IsRun holds before now words old new write_before write_now result → (files : Files) → holds ≡ Some files → (Rose before now → ⊥) → (Rose write_before write_now → ⊥) → Completes files words old new result
completes holds before now words old new write_before write_now result run files tells well told_well = show_ends files before now words old new write_before write_now result well told_well (subst (λ (o : Option Files). IsRun o before now words old new write_before write_now result) tells run)
