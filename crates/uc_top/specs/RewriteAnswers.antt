-- What `rewrite` answers for a problem and a term.
use Rattle.std.specs.Prelude.{ℕ, ◌≡◌, List, None}
use Rattle.uc_term.specs.Tree.{Tree}
use Rattle.uc_term.specs.Table.{Table}
use Rattle.uc_check.specs.Clauses.{axioms_of}
use Rattle.uc_problem.specs.declared.problem.Problem.{Problem}
use Rattle.uc_fact.specs.Live.{numbered}
use Rattle.uc_order.specs.declared.spec.OrderSpec.{OrderSpec}
use Rattle.uc_rewrite.specs.declared.normal.Normal.{Normal}
use Rattle.uc_rewrite.specs.Normalising.{IsNormalOf}
use Rattle.uc_words.specs.declared.command.OrderWords.{OrderWords}
use Rattle.uc_ordering.specs.declared.fault.ChoiceFault.{ChoiceFault}
use Rattle.uc_ordering.specs.declared.fault.ChoiceFault.TheVariants as choice
use Rattle.uc_ordering.specs.Choice.{IsChosen, IsChoiceFault}
use Rattle.uc_ordering.specs.Meaning.{meaning_of}
use Rattle.uc_answer.specs.declared.term_word.WordFault.{WordFault}
use Rattle.uc_answer.specs.declared.term_word.WordFault.TheVariants.{NoMemory}
use Rattle.uc_answer.specs.TermWords.{IsTermWord, IsWordFault}
use Rattle.uc_answer.specs.ChoiceLines.{choice_line}
use Rattle.uc_answer.specs.WordLines.{word_line}
use Rattle.uc_answer.specs.ChainLines.{AreNormalLines, stop_status}

-- what a term is normalised to by the axioms of a problem
abbrev pub IsNormalFor : Table → OrderSpec → ℕ → Problem → Tree → Normal → Type 0
IsNormalFor table spec limit problem t normal = IsNormalOf (meaning_of table spec).greater (meaning_of table spec).least (numbered (axioms_of problem.clauses)) limit t normal

-- The order is chosen first; then the word is read as a term over the signature; then the term is normalised by the axioms. The
-- symbols are those of the table that loading the problem leaves, and a term of known symbols leaves it as it is.
pub data IsRewritten (table : Table) (words : OrderWords) (limit : ℕ) (word : List ℕ) (problem : Problem) : ℕ → List ℕ → Type 0 where
  is_unordered : {why : ChoiceFault} → IsChoiceFault table problem.signature words why → (why ≡ choice.NoMemory → ⊥) → IsRewritten table words limit word problem 4 (choice_line why)
  is_no_term : {why : WordFault} (spec : OrderSpec) → IsChosen table problem.signature words None spec → IsWordFault table problem.signature.symbols word why → (why ≡ NoMemory → ⊥) → IsRewritten table words limit word problem 3 (word_line 0 why)
  is_normalised : {t : Tree} {text : List ℕ} (spec : OrderSpec) (normal : Normal) → IsChosen table problem.signature words None spec → IsTermWord table problem.signature.symbols word t → IsNormalFor table spec limit problem t normal → AreNormalLines table normal text → IsRewritten table words limit word problem (stop_status normal.stop) text
