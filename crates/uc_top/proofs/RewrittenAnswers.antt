-- From what reading a term and normalising it promise to the answer.
use Rattle.std.proofs.Common.{ℕ, ◌≡◌, List, None, Result, Ok, Err, sym, subst}
use Rattle.std.specs.Result.{IfOk}
use Rattle.std.specs.declared.alloc.AllocError.{AllocError}
use Rattle.uc_term.specs.Tree.{Tree}
use Rattle.uc_term.specs.Table.{Table, IsOf}
use Rattle.uc_check.specs.Clauses.{axioms_of}
use Rattle.uc_problem.specs.declared.problem.Problem.{Problem}
use Rattle.uc_problem.specs.Holds.{Agrees}
use Rattle.uc_order.specs.declared.spec.OrderSpec.{OrderSpec}
use Rattle.uc_order.specs.Laws.{Meaning}
use Rattle.uc_fact.specs.Live.{numbered}
use Rattle.uc_words.specs.declared.command.OrderWords.{OrderWords}
use Rattle.uc_ordering.specs.declared.chosen.Chosen.{Chosen}
use Rattle.uc_ordering.specs.declared.fault.ChoiceFault.{ChoiceFault}
use Rattle.uc_ordering.specs.declared.fault.ChoiceFault.TheVariants as choice
use Rattle.uc_ordering.specs.Choice.{IsChosen, IsChoiceFault}
use Rattle.uc_ordering.specs.Chosen.{chosen_meaning, IsOrderOf, meaning_is}
use Rattle.uc_ordering.specs.Fits.{Fits}
use Rattle.uc_ordering.specs.Meaning.{meaning_of}
use Rattle.uc_rewrite.specs.declared.normal.Normal.{Normal}
use Rattle.uc_rewrite.specs.Normalising.{IsNormalOf}
use Rattle.uc_answer.specs.declared.answer.Answer.{Answer}
use Rattle.uc_answer.specs.declared.term_word.WordFault.{WordFault}
use Rattle.uc_answer.specs.declared.term_word.WordFault.TheVariants.{NoMemory}
use Rattle.uc_answer.specs.Lines.{joined}
use Rattle.uc_answer.specs.ChoiceLines.{choice_line}
use Rattle.uc_answer.specs.TermWords.{IsTermWord, IsWordFault}
use Rattle.uc_answer.specs.WordLines.{word_line}
use Rattle.uc_answer.specs.ChainLines.{stop_status, ArePrintable, AreNormalLines}
use Rattle.uc_answer.proofs.LeastConstants.{least_of}
use Rattle.uc_answer.proofs.PrintableSteps.{rules_over, printable}
use Rattle.uc_top.specs.RewriteAnswers.{IsNormalFor, IsRewritten, is_unordered, is_no_term, is_normalised}
use Rattle.uc_top.proofs.Answering.{one_line}
use Rattle.uc_top.proofs.OwnSignatures.{axioms_over}

module _ (table : Table) (spec : OrderSpec) (order : Chosen) (h : IsOrderOf table spec order) where
  pub normal_for : (limit : ℕ) (problem : Problem) (t : Tree) (normal : Normal) → IsNormalOf (chosen_meaning order).greater (chosen_meaning order).least (numbered (axioms_of problem.clauses)) limit t normal → IsNormalFor table spec limit problem t normal
  normal_for limit problem t normal n = subst (λ (m : Meaning). IsNormalOf m.greater m.least (numbered (axioms_of problem.clauses)) limit t normal) (meaning_is table spec order h) n

module _ (table : Table) (spec : OrderSpec) where
  pub printable_steps : (limit : ℕ) (problem : Problem) (t : Tree) (normal : Normal) → Agrees table problem → Fits table problem.signature.symbols spec → IsOf table t → IsNormalFor table spec limit problem t normal → IsOf table normal.chain.start × ArePrintable table normal.chain.start normal.chain.steps
  printable_steps limit problem t normal agrees fits is_of n =
      let m = meaning_of table spec in
      let steps = printable table m.greater m.least (least_of table problem.signature.symbols spec fits) (numbered (axioms_of problem.clauses)) (rules_over table (axioms_of problem.clauses) (axioms_over table problem.clauses agrees.over)) limit t normal.chain.steps normal.term normal.stop is_of n.normalises in
      subst (λ (u : Tree). IsOf table u × ArePrintable table u normal.chain.steps) (sym n.start) (is_of, steps)

module _ (table : Table) (words : OrderWords) (limit : ℕ) (word : List ℕ) (problem : Problem) where
  -- the table in which the word is read is still the one before
  pub rewritten : (read : Table) → read ≡ table → (spec : OrderSpec) (t : Tree) (r : Result Answer AllocError) → IsChosen table problem.signature words None spec → IsTermWord read problem.signature.symbols word t → IfOk r (λ answer. (normal : Normal) × IsNormalFor read spec limit problem t normal × (answer.status ≡ stop_status normal.stop) × AreNormalLines read normal (joined answer.lines)) → IfOk r (λ answer. IsRewritten table words limit word problem answer.status (joined answer.lines))
  rewritten read kept spec t (Ok answer) chosen is_term h =
      let known = subst (λ (u : Table). IsTermWord u problem.signature.symbols word t) kept is_term in
      let k = subst (λ (u : Table). (normal : Normal) × IsNormalFor u spec limit problem t normal × (answer.status ≡ stop_status normal.stop) × AreNormalLines u normal (joined answer.lines)) kept h in
      rw k.2 (is_normalised spec k.0 chosen known k.1 k.3)
  rewritten read kept spec t (Err fault) chosen is_term h = tt

  pub no_term : (spec : OrderSpec) (why : WordFault) (r : Result Answer AllocError) → IsChosen table problem.signature words None spec → IsWordFault table problem.signature.symbols word why → IfOk r (λ answer. (answer.status ≡ 3) × (joined answer.lines ≡ word_line 0 why)) → IfOk r (λ _. why ≡ NoMemory → ⊥) → IfOk r (λ answer. IsRewritten table words limit word problem answer.status (joined answer.lines))
  no_term spec why (Ok answer) chosen fault line n = one_line (Ok answer) (IsRewritten table words limit word problem) 3 (word_line 0 why) line (is_no_term spec chosen fault n)
  no_term spec why (Err e) chosen fault line n = tt

  pub unordered : (why : ChoiceFault) (r : Result Answer AllocError) → IsChoiceFault table problem.signature words why → IfOk r (λ answer. (answer.status ≡ 4) × (joined answer.lines ≡ choice_line why)) → IfOk r (λ _. why ≡ choice.NoMemory → ⊥) → IfOk r (λ answer. IsRewritten table words limit word problem answer.status (joined answer.lines))
  unordered why (Ok answer) h line n = one_line (Ok answer) (IsRewritten table words limit word problem) 4 (choice_line why) line (is_unordered h n)
  unordered why (Err fault) h line n = tt
