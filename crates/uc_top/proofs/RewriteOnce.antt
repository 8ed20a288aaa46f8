-- A problem, a term and the words of an order have one answer.
use Rattle.std.proofs.Common.{ℕ, ◌≡◌, List, None, refl, sym, ap, subst}
use Rattle.uc_term.specs.Tree.{Tree}
use Rattle.uc_term.specs.Table.{Table, IsDistinct}
use Rattle.uc_term.specs.Gathering.{HasAll}
use Rattle.uc_check.specs.Clauses.{axioms_of}
use Rattle.uc_problem.specs.declared.problem.Problem.{Problem}
use Rattle.uc_fact.specs.Live.{numbered}
use Rattle.uc_order.specs.declared.spec.OrderSpec.{OrderSpec}
use Rattle.uc_words.specs.declared.command.OrderWords.{OrderWords}
use Rattle.uc_ordering.specs.Meaning.{meaning_of}
use Rattle.uc_ordering.proofs.Once.{order_once, refusal_once, chosen_or_refused}
use Rattle.uc_rewrite.specs.declared.normal.Normal.{Normal}
use Rattle.uc_rewrite.proofs.Unique.{one_normal}
use Rattle.uc_answer.specs.declared.term_word.WordFault.{WordFault}
use Rattle.uc_answer.specs.declared.term_word.WordFault.TheVariants.{NoMemory}
use Rattle.uc_answer.specs.TermWords.{IsTermWord, IsWordFault}
use Rattle.uc_answer.specs.ChoiceLines.{choice_line}
use Rattle.uc_answer.specs.WordLines.{word_line}
use Rattle.uc_answer.specs.ChainLines.{stop_status, AreNormalLines}
use Rattle.uc_answer.proofs.OneTermWord.{term_once, fault_once, term_or_fault}
use Rattle.uc_answer.proofs.OneChain.{lines_once}
use Rattle.uc_top.specs.RewriteAnswers.{IsNormalFor, IsRewritten, is_unordered, is_no_term, is_normalised}

module _ (table : Table) (distinct : IsDistinct table) (words : OrderWords) (limit : ℕ) (word : List ℕ) (problem : Problem) (has : HasAll table problem.signature.symbols) where
  pub no_term_once : (why other : WordFault) → (why ≡ NoMemory → ⊥) → (other ≡ NoMemory → ⊥) → IsWordFault table problem.signature.symbols word why → IsWordFault table problem.signature.symbols word other → why ≡ other
  no_term_once why other n m x y = fault_once word table distinct problem.signature.symbols has why other n m x y

  pub isnt_both : (why : WordFault) (t : Tree) → (why ≡ NoMemory → ⊥) → IsTermWord table problem.signature.symbols word t → IsWordFault table problem.signature.symbols word why → ⊥
  isnt_both why t n k x = term_or_fault word table distinct problem.signature.symbols has why t n k x

  pub rewritten_once : {s t : ℕ} {a b : List ℕ} → IsRewritten table words limit word problem s a → IsRewritten table words limit word problem t b → (s ≡ t) × (a ≡ b)
  rewritten_once (is_unordered {why = why} x n) (is_unordered {why = other} y m) = (refl, ap choice_line (refusal_once table problem.signature words why other n m x y))
  rewritten_once (is_unordered {why = why} x n) (is_no_term spec y k m) = absurd (chosen_or_refused table problem.signature words None spec why n y x)
  rewritten_once (is_unordered {why = why} x n) (is_normalised spec normal y k m l) = absurd (chosen_or_refused table problem.signature words None spec why n y x)
  rewritten_once (is_no_term spec x k m) (is_unordered {why = why} y n) = absurd (chosen_or_refused table problem.signature words None spec why n x y)
  rewritten_once (is_normalised spec normal x k m l) (is_unordered {why = why} y n) = absurd (chosen_or_refused table problem.signature words None spec why n x y)
  rewritten_once (is_no_term {why = why} spec x k m) (is_no_term {why = other} spec' y l n) = (refl, ap (word_line 0) (no_term_once why other m n k l))
  rewritten_once (is_no_term {why = why} spec x k m) (is_normalised {t = t} other normal y l p q) = absurd (isnt_both why t m l k)
  rewritten_once (is_normalised {t = t} spec normal x l p q) (is_no_term {why = why} other y k m) = absurd (isnt_both why t m l k)
  rewritten_once {b = b} (is_normalised {t = t} spec normal x k n l) (is_normalised {t = u} other normal' y k' n' l') =
      let specs : other ≡ spec = order_once table problem.signature words None other spec y x in
      let terms : u ≡ t = term_once word table distinct problem.signature.symbols t u k k' in
      let moved : IsNormalFor table spec limit problem t normal' = subst (λ v. IsNormalFor table spec limit problem v normal') terms (subst (λ (o : OrderSpec). IsNormalFor table o limit problem u normal') specs n') in
      let normals : normal' ≡ normal = one_normal (meaning_of table spec).greater (meaning_of table spec).least (numbered (axioms_of problem.clauses)) limit t normal' normal moved n in
      (ap (λ (m : Normal). stop_status m.stop) (sym normals), lines_once table normal l (subst (λ (m : Normal). AreNormalLines table m b) normals l'))
