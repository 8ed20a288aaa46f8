-- A problem and the words of an order have one answer to `order`, and one to `pairs`.
use Rattle.std.proofs.Common.{ℕ, ◌≡◌, List, None, refl, ap, subst}
use Rattle.uc_term.specs.declared.equation.Equation.{Equation}
use Rattle.uc_term.specs.Table.{Table}
use Rattle.uc_check.specs.Clauses.{axioms_of}
use Rattle.uc_problem.specs.declared.problem.Problem.{Problem}
use Rattle.uc_order.specs.declared.spec.OrderSpec.{OrderSpec}
use Rattle.uc_order.specs.Laws.{Meaning}
use Rattle.uc_words.specs.declared.command.OrderWords.{OrderWords}
use Rattle.uc_ordering.specs.Meaning.{meaning_of}
use Rattle.uc_ordering.proofs.Once.{order_once, refusal_once, chosen_or_refused}
use Rattle.uc_answer.specs.ChoiceLines.{choice_line}
use Rattle.uc_answer.proofs.OneDirection.{directed_once}
use Rattle.uc_answer.proofs.OnePairLines.{outer_once}
use Rattle.uc_top.specs.declared.listing.Listing.{Listing}
use Rattle.uc_top.specs.declared.listing.Listing.TheVariants.{Directions, CriticalPairs}
use Rattle.uc_top.specs.ListAnswers.{AreListed, IsListed, is_unordered, is_listed}

lines_once : (listing : Listing) (table : Table) (meaning : Meaning) (es : List Equation) {a b : List ℕ} → AreListed listing table meaning es a → AreListed listing table meaning es b → a ≡ b
lines_once Directions table meaning es x y = directed_once table meaning x y
lines_once CriticalPairs table meaning es x y = outer_once table meaning es x y

module _ (listing : Listing) (table : Table) (words : OrderWords) (problem : Problem) where
  pub listed_once : {s t : ℕ} {a b : List ℕ} → IsListed listing table words problem s a → IsListed listing table words problem t b → (s ≡ t) × (a ≡ b)
  listed_once (is_unordered {why = why} x n) (is_unordered {why = other} y m) = (refl, ap choice_line (refusal_once table problem.signature words why other n m x y))
  listed_once (is_unordered {why = why} x n) (is_listed spec y d) = absurd (chosen_or_refused table problem.signature words None spec why n y x)
  listed_once (is_listed spec x d) (is_unordered {why = why} y m) = absurd (chosen_or_refused table problem.signature words None spec why m x y)
  listed_once {b = b} (is_listed spec x d) (is_listed other y e) =
      let specs : other ≡ spec = order_once table problem.signature words None other spec y x in
      (refl, lines_once listing table (meaning_of table spec) (axioms_of problem.clauses) d (subst (λ (o : OrderSpec). AreListed listing table (meaning_of table o) (axioms_of problem.clauses) b) specs e))
