-- What is told where the search for a generated problem has ended.
use Rattle.std.specs.Prelude.{ℕ, List, ◌++◌, codes, length}
use Rattle.uc_term.specs.declared.node.Sym.{Sym}
use Rattle.uc_order.specs.Laws.{Meaning}
use Rattle.uc_fact.specs.Live.{equations_of}
use Rattle.uc_shelf.specs.Entries.{live}
use Rattle.uc_machine.specs.declared.event.Verdict.{Verdict}
use Rattle.uc_machine.specs.declared.event.Verdict.TheVariants.{Saturated}
use Rattle.uc_machine.specs.State.{Opening, State}
use Rattle.uc_worker.specs.Ends.{IsSearchedBy}
use Rattle.uc_words.specs.declared.command.Command.{Command}
use Rattle.uc_gen.specs.Counting.{constant_terms, HasForms}
use Rattle.uc_answer.specs.StatusLines.{status_line}
use Rattle.uc_answer.specs.LimitLines.{IsLimitLine}
use Rattle.uc_top.specs.GenLines.{gen_lines}
use Rattle.uc_top.specs.GenAnswers.{gen_name}

-- By this order, of a search from as many axioms as there are of these constants.
module _ (m : Meaning) (command : Command) (constants : List Sym) where
  -- What is told for the state and the verdict: of a saturated system how many different normal forms the constants have, else the limit.
  pub data TellsCount (s : State) : Verdict → ℕ → List ℕ → Type 0 where
    tells_count : {forms : ℕ} → HasForms m (equations_of (live s.entries)) (constant_terms constants) forms → TellsCount s Saturated 0 (gen_lines (length constants) (length constants) forms)
    tells_limit : {v : Verdict} {line : List ℕ} → IsLimitLine command s v line → TellsCount s v 2 (status_line (codes "ResourceOut") gen_name ++ line)

  -- the command's workers searched from the opening, and this is told
  pub record IsToldByCount (o : Opening) (status : ℕ) (answer : List ℕ) : Type 0 where
    pub verdict : Verdict
    pub state : State
    pub searched : IsSearchedBy m o command.workers verdict state
    pub told : TellsCount state verdict status answer
