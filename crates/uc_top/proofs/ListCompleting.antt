-- How `order` and `pairs` end.
use Rattle.std.proofs.Common.{ℕ, ◌≡◌, List, [], ◌∷◌, Option, Some, None, refl, sym, ◌∙◌, subst}
use Rattle.std.specs.Io.KnownBytes.{Appends}
use Rattle.uc_term.specs.Table.{Table}
use Rattle.uc_edge.specs.Files.{Files}
use Rattle.uc_edge.specs.Faults.{Rose}
use Rattle.uc_check.specs.Clauses.{axioms_of}
use Rattle.uc_problem.specs.declared.problem.Problem.{Problem}
use Rattle.uc_order.specs.declared.spec.OrderSpec.{OrderSpec}
use Rattle.uc_words.specs.declared.command.Command.{Command}
use Rattle.uc_words.specs.declared.command.OrderWords.{OrderWords}
use Rattle.uc_ordering.specs.Choice.{IsChosen}
use Rattle.uc_ordering.specs.Meaning.{meaning_of}
use Rattle.uc_ordering.proofs.Once.{order_once, chosen_or_refused}
use Rattle.uc_top.specs.declared.listing.Listing.{Listing}
use Rattle.uc_top.specs.declared.listing.Listing.TheVariants.{Directions, CriticalPairs}
use Rattle.uc_top.specs.ListAnswers.{AreListed, IsListed, is_unordered, is_listed}
use Rattle.uc_top.specs.Answers.{ListAnswers}
use Rattle.uc_top.specs.Runs.{MayAnswer, is_answer, wants_memory, IsRun}
use Rattle.uc_top.specs.ListRuns.{verb_of, lists_all, lacks_memory, CompletesList}
use Rattle.uc_top.proofs.Positionals.{only_name}
use Rattle.uc_top.proofs.ByVerb.{Of, of_verb}
use Rattle.uc_top.proofs.Completing.{told_whole}
use Rattle.uc_top.proofs.LoadedOnce.{answers_for}

module _ (listing : Listing) (table : Table) (words : OrderWords) (problem : Problem) (spec : OrderSpec) (chosen : IsChosen table problem.signature words None spec) where
  -- what is answered for the words of an order
  list_ends : {status : ℕ} {text : List ℕ} → IsListed listing table words problem status text → (status ≡ 0) × AreListed listing table (meaning_of table spec) (axioms_of problem.clauses) text
  list_ends (is_unordered {why = why} x n) = absurd (chosen_or_refused table problem.signature words None spec why n chosen x)
  list_ends {text = text} (is_listed other x d) = (refl, subst (λ (o : OrderSpec). AreListed listing table (meaning_of table o) (axioms_of problem.clauses) text) (order_once table problem.signature words None other spec x chosen) d)

module _ (files : Files) (before now : ℕ) where
  -- the answer by the command that lists so
  list_answered : (listing : Listing) (k : Command) {status : ℕ} {text : List ℕ} → Of (Some files) before now (verb_of listing) k status text → (name : List ℕ) × (k.positionals ≡ name ∷ []) × ListAnswers (Some files) before now listing k.order k.root name status text
  list_answered Directions k a = a
  list_answered CriticalPairs k a = a

  module _ (listing : Listing) (well : Rose before now → ⊥) (words : List (List ℕ)) (old new : Option (List ℕ)) where
    whole : {status result : ℕ} {text : List ℕ} → MayAnswer (Some files) before now words status text → Appends old new text → result ≡ status → CompletesList listing files words old new result
    whole wants_memory written e command name table problem spec reads is_list names distinct held chosen = rw e (lacks_memory written)
    whole {status} {result} {text} (is_answer a) written e command name table problem spec reads is_list names distinct held chosen =
        let p = list_answered listing command (of_verb (Some files) before now words (verb_of listing) is_list reads a) in
        let answer : ListAnswers (Some files) before now listing command.order command.root name status text = subst (λ n. ListAnswers (Some files) before now listing command.order command.root n status text) (only_name (sym p.1 ∙ names)) p.2 in
        let q = list_ends listing table command.order problem spec chosen (answers_for files command.root name table distinct problem held (λ t. IsListed listing t command.order) before now (λ five rose. well rose) answer) in
        rw (e ∙ q.0) (lists_all text q.1 written)

pub list_completes : (listing : Listing) (holds : Option Files) (before now : ℕ) (words : List (List ℕ)) (old new : Option (List ℕ)) (write_before write_now result : ℕ) → IsRun holds before now words old new write_before write_now result → (files : Files) → holds ≡ Some files → (Rose before now → ⊥) → (Rose write_before write_now → ⊥) → CompletesList listing files words old new result
list_completes listing holds before now words old new write_before write_now result run files tells well told_well =
    let told = subst (λ (o : Option Files). IsRun o before now words old new write_before write_now result) tells run in
    let t = told_whole told_well told.told in
    whole files before now listing well words old new told.answer t.0 t.1
