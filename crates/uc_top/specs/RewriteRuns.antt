-- How a run of `rewrite` ends.
use Rattle.std.specs.Prelude.{ℕ, ◌≡◌, List, [], ◌∷◌, Option, None}
use Rattle.std.specs.Io.KnownBytes.{Appends}
use Rattle.uc_term.specs.Tree.{Tree}
use Rattle.uc_term.specs.Table.{Table, IsDistinct}
use Rattle.uc_edge.specs.Files.{Files}
use Rattle.uc_problem.specs.declared.problem.Problem.{Problem}
use Rattle.uc_order.specs.declared.spec.OrderSpec.{OrderSpec}
use Rattle.uc_rewrite.specs.declared.normal.Normal.{Normal}
use Rattle.uc_words.specs.declared.command.Command.{Command}
use Rattle.uc_words.specs.declared.command.Verb.TheVariants.{Rewrite}
use Rattle.uc_words.specs.Reads.{Reads}
use Rattle.uc_ordering.specs.Choice.{IsChosen}
use Rattle.uc_answer.specs.declared.term_word.WordFault.{WordFault}
use Rattle.uc_answer.specs.declared.term_word.WordFault.TheVariants.{NoMemory}
use Rattle.uc_answer.specs.Lines.{memory_line}
use Rattle.uc_answer.specs.TermWords.{IsTermWord, IsWordFault}
use Rattle.uc_answer.specs.WordLines.{word_line}
use Rattle.uc_answer.specs.ChainLines.{stop_status, AreNormalLines}
use Rattle.uc_top.specs.Loaded.{IsLoaded}
use Rattle.uc_top.specs.RewriteAnswers.{IsNormalFor}
use Rattle.uc_top.specs.Runs.{EndsWith}

-- How `rewrite` ends for a term: it is normalised, and its lines are told, with the status of what ended it; or for want of
-- memory, which is free.
pub data NormalEnds (table : Table) (spec : OrderSpec) (limit : ℕ) (problem : Problem) (t : Tree) (old new : Option (List ℕ)) : ℕ → Type 0 where
  tells_chain : {text : List ℕ} (normal : Normal) → IsNormalFor table spec limit problem t normal → AreNormalLines table normal text → Appends old new text → NormalEnds table spec limit problem t old new (stop_status normal.stop)
  lacks_memory : Appends old new memory_line → NormalEnds table spec limit problem t old new 7

-- How `rewrite` ends for a problem, an order and a word, by what the word is.
pub record RewriteEnds (table : Table) (spec : OrderSpec) (limit : ℕ) (problem : Problem) (word : List ℕ) (old new : Option (List ℕ)) (result : ℕ) : Type 0 where
  -- the word is a term over the problem's signature
  pub term : (t : Tree) → IsTermWord table problem.signature.symbols word t → NormalEnds table spec limit problem t old new result
  -- it is no such term
  pub no_term : (why : WordFault) → IsWordFault table problem.signature.symbols word why → (why ≡ NoMemory → ⊥) → EndsWith 3 (word_line 0 why) old new result

-- Where the words of `rewrite` name an order for a problem that the files hold, `rewrite` ends so, with the problem's symbols in the
-- table that loading it leaves.
abbrev pub CompletesRewrite : Files → List (List ℕ) → Option (List ℕ) → Option (List ℕ) → ℕ → Type 0
CompletesRewrite files words old new result = (command : Command) (name word : List ℕ) (table : Table) (problem : Problem) (spec : OrderSpec) → Reads words command → command.verb ≡ Rewrite → command.positionals ≡ name ∷ word ∷ [] → IsDistinct table → IsLoaded files command.root name table problem → IsChosen table problem.signature command.order None spec → RewriteEnds table spec command.limit problem word old new result
