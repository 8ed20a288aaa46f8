-- How `rewrite` ends.
use Rattle.std.proofs.Common.{ℕ, ◌≡◌, List, [], ◌∷◌, Option, Some, None, sym, ◌∙◌, subst}
use Rattle.std.specs.Io.KnownBytes.{Appends}
use Rattle.uc_term.specs.Tree.{Tree}
use Rattle.uc_term.specs.Table.{Table, IsDistinct}
use Rattle.uc_term.specs.Gathering.{HasAll}
use Rattle.uc_edge.specs.Files.{Files}
use Rattle.uc_edge.specs.Faults.{Rose}
use Rattle.uc_problem.specs.declared.problem.Problem.{Problem}
use Rattle.uc_problem.proofs.FreshMarks.{signature_has}
use Rattle.uc_order.specs.declared.spec.OrderSpec.{OrderSpec}
use Rattle.uc_words.specs.declared.command.OrderWords.{OrderWords}
use Rattle.uc_words.specs.declared.command.Verb.TheVariants as verb
use Rattle.uc_ordering.specs.Choice.{IsChosen}
use Rattle.uc_ordering.proofs.Once.{order_once, chosen_or_refused}
use Rattle.uc_answer.specs.declared.term_word.WordFault.{WordFault}
use Rattle.uc_answer.specs.declared.term_word.WordFault.TheVariants.{NoMemory}
use Rattle.uc_answer.specs.TermWords.{IsTermWord, IsWordFault}
use Rattle.uc_answer.specs.WordLines.{word_line}
use Rattle.uc_answer.proofs.OneTermWord.{term_once}
use Rattle.uc_top.specs.RewriteAnswers.{IsNormalFor, IsRewritten, is_unordered, is_no_term, is_normalised}
use Rattle.uc_top.specs.Answers.{RewriteAnswers}
use Rattle.uc_top.specs.Runs.{MayAnswer, is_answer, wants_memory, IsRun, EndsWith, tells_all, tells_want}
use Rattle.uc_top.specs.RewriteRuns.{NormalEnds, tells_chain, lacks_memory, RewriteEnds, CompletesRewrite}
use Rattle.uc_top.proofs.Positionals.{first_name, second_name}
use Rattle.uc_top.proofs.ByVerb.{of_verb}
use Rattle.uc_top.proofs.Completing.{told_whole}
use Rattle.uc_top.proofs.LoadedOnce.{answers_for}
use Rattle.uc_top.proofs.RewriteOnce.{no_term_once, isnt_both}

module _ (table : Table) (distinct : IsDistinct table) (words : OrderWords) (limit : ℕ) (word : List ℕ) (problem : Problem) (has : HasAll table problem.signature.symbols) (spec : OrderSpec) (chosen : IsChosen table problem.signature words None spec) where
  term_ends : {status result : ℕ} {text : List ℕ} {old new : Option (List ℕ)} (t : Tree) → IsTermWord table problem.signature.symbols word t → IsRewritten table words limit word problem status text → Appends old new text → result ≡ status → NormalEnds table spec limit problem t old new result
  term_ends t is_term (is_unordered {why = why} x n) written e = absurd (chosen_or_refused table problem.signature words None spec why n chosen x)
  term_ends t is_term (is_no_term {why = why} o x k n) written e = absurd (isnt_both table distinct words limit word problem has why t n is_term k)
  term_ends t is_term (is_normalised {t = read} o normal x k n l) written e =
      let specs : o ≡ spec = order_once table problem.signature words None o spec x chosen in
      let terms : read ≡ t = term_once word table distinct problem.signature.symbols t read is_term k in
      let same = subst (λ u. IsNormalFor table spec limit problem u normal) terms (subst (λ (s : OrderSpec). IsNormalFor table s limit problem read normal) specs n) in
      rw e (tells_chain normal same l written)

  fault_ends : {status result : ℕ} {text : List ℕ} {old new : Option (List ℕ)} (why : WordFault) → IsWordFault table problem.signature.symbols word why → (why ≡ NoMemory → ⊥) → IsRewritten table words limit word problem status text → Appends old new text → result ≡ status → EndsWith 3 (word_line 0 why) old new result
  fault_ends why is_fault some (is_unordered {why = fault} x n) written e = absurd (chosen_or_refused table problem.signature words None spec fault n chosen x)
  fault_ends {old = old} {new = new} why is_fault some (is_no_term {why = other} o x k n) written e =
      let faults : other ≡ why = no_term_once table distinct words limit word problem has other why n some k is_fault in
      rw e (subst (λ (f : WordFault). EndsWith 3 (word_line 0 f) old new 3) faults (tells_all written))
  fault_ends why is_fault some (is_normalised {t = read} o normal x k n l) written e = absurd (isnt_both table distinct words limit word problem has why read some k is_fault)

module _ (files : Files) (before now : ℕ) (well : Rose before now → ⊥) (words : List (List ℕ)) (old new : Option (List ℕ)) where
  whole : {status result : ℕ} {text : List ℕ} → MayAnswer (Some files) before now words status text → Appends old new text → result ≡ status → CompletesRewrite files words old new result
  whole wants_memory written e command name word table problem spec reads is_rewrite names distinct held chosen = subst (RewriteEnds table spec command.limit problem word old new) (sym e) (record { term = λ t is_term. lacks_memory written; no_term = λ why is_fault some. tells_want written })
  whole {status} {result} {text} (is_answer a) written e command name word table problem spec reads is_rewrite names distinct held chosen =
      let p = of_verb (Some files) before now words verb.Rewrite is_rewrite reads a in
      let names_are : p.0 ∷ p.1 ∷ [] ≡ name ∷ word ∷ [] = sym p.2 ∙ names in
      let answer : RewriteAnswers (Some files) before now command.order command.limit word command.root name status text = subst (λ n. RewriteAnswers (Some files) before now command.order command.limit word command.root n status text) (first_name names_are) (subst (λ w. RewriteAnswers (Some files) before now command.order command.limit w command.root p.0 status text) (second_name names_are) p.3) in
      let rewritten = answers_for files command.root name table distinct problem held (λ t. IsRewritten t command.order command.limit word) before now (λ five rose. well rose) answer in
      let has = signature_has table problem held.holds.agrees in
      record {
        term = λ t is_term. term_ends table distinct command.order command.limit word problem has spec chosen t is_term rewritten written e;
        no_term = λ why is_fault some. fault_ends table distinct command.order command.limit word problem has spec chosen why is_fault some rewritten written e;
      }

pub rewrite_completes : (holds : Option Files) (before now : ℕ) (words : List (List ℕ)) (old new : Option (List ℕ)) (write_before write_now result : ℕ) → IsRun holds before now words old new write_before write_now result → (files : Files) → holds ≡ Some files → (Rose before now → ⊥) → (Rose write_before write_now → ⊥) → CompletesRewrite files words old new result
rewrite_completes holds before now words old new write_before write_now result run files tells well told_well =
    let told = subst (λ (o : Option Files). IsRun o before now words old new write_before write_now result) tells run in
    let t = told_whole told_well told.told in
    whole files before now well words old new told.answer t.0 t.1
