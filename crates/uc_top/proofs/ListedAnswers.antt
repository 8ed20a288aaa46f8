-- From what an order's choice and the lines of the axioms promise to the answer.
use Rattle.std.proofs.Common.{ℕ, ◌≡◌, List, None, Result, Ok, Err, subst}
use Rattle.std.specs.Result.{IfOk}
use Rattle.std.specs.declared.alloc.AllocError.{AllocError}
use Rattle.uc_term.specs.declared.equation.Equation.{Equation}
use Rattle.uc_term.specs.Table.{Table}
use Rattle.uc_check.specs.Clauses.{axioms_of}
use Rattle.uc_problem.specs.declared.problem.Problem.{Problem}
use Rattle.uc_order.specs.declared.spec.OrderSpec.{OrderSpec}
use Rattle.uc_order.specs.Laws.{Meaning}
use Rattle.uc_words.specs.declared.command.OrderWords.{OrderWords}
use Rattle.uc_ordering.specs.declared.chosen.Chosen.{Chosen}
use Rattle.uc_ordering.specs.declared.fault.ChoiceFault.{ChoiceFault}
use Rattle.uc_ordering.specs.declared.fault.ChoiceFault.TheVariants.{NoMemory}
use Rattle.uc_ordering.specs.Choice.{IsChosen, IsChoiceFault}
use Rattle.uc_ordering.specs.Chosen.{chosen_meaning, IsOrderOf, meaning_is}
use Rattle.uc_ordering.specs.Meaning.{meaning_of}
use Rattle.uc_answer.specs.declared.answer.Answer.{Answer}
use Rattle.uc_answer.specs.Lines.{joined}
use Rattle.uc_answer.specs.ChoiceLines.{choice_line}
use Rattle.uc_top.specs.declared.listing.Listing.{Listing}
use Rattle.uc_top.specs.ListAnswers.{AreListed, IsListed, is_unordered, is_listed}
use Rattle.uc_top.proofs.Answering.{one_line}

module _ (listing : Listing) (table : Table) where
  pub listed_by : (spec : OrderSpec) (order : Chosen) (es : List Equation) (lines : List ℕ) → IsOrderOf table spec order → AreListed listing table (chosen_meaning order) es lines → AreListed listing table (meaning_of table spec) es lines
  listed_by spec order es lines h d = subst (λ (m : Meaning). AreListed listing table m es lines) (meaning_is table spec order h) d

  module _ (words : OrderWords) (problem : Problem) where
    pub listed : (spec : OrderSpec) (r : Result Answer AllocError) → IsChosen table problem.signature words None spec → IfOk r (λ answer. (answer.status ≡ 0) × AreListed listing table (meaning_of table spec) (axioms_of problem.clauses) (joined answer.lines)) → IfOk r (λ answer. IsListed listing table words problem answer.status (joined answer.lines))
    listed spec (Ok answer) chosen h = rw h.0 (is_listed spec chosen h.1)
    listed spec (Err fault) chosen h = tt

    pub unlisted : (why : ChoiceFault) (r : Result Answer AllocError) → IsChoiceFault table problem.signature words why → IfOk r (λ answer. (answer.status ≡ 4) × (joined answer.lines ≡ choice_line why)) → IfOk r (λ _. why ≡ NoMemory → ⊥) → IfOk r (λ answer. IsListed listing table words problem answer.status (joined answer.lines))
    unlisted why (Ok answer) h line n = one_line (Ok answer) (IsListed listing table words problem) 4 (choice_line why) line (is_unordered h n)
    unlisted why (Err fault) h line n = tt
