-- What is searched to answer questions, and what is told where the search has ended.
use Rattle.std.specs.Prelude.{ℕ, List, [], ◌++◌, codes, map, None}
use Rattle.uc_term.specs.declared.equation.Equation.{Equation}
use Rattle.uc_term.specs.Tree.{Tree}
use Rattle.uc_term.specs.Table.{Table, IsOf}
use Rattle.uc_check.specs.Clauses.{axioms_of}
use Rattle.uc_problem.specs.declared.problem.Problem.{Problem}
use Rattle.uc_problem.specs.declared.problem.Encoded.{Encoded}
use Rattle.uc_problem.specs.declared.problem.Source.TheVariants.{Clause}
use Rattle.uc_order.specs.Laws.{Meaning, IsGroundOf}
use Rattle.uc_fact.specs.Live.{equations_of}
use Rattle.uc_shelf.specs.Entries.{live}
use Rattle.uc_machine.specs.declared.event.Verdict.{Verdict}
use Rattle.uc_machine.specs.declared.event.Verdict.TheVariants.{Saturated}
use Rattle.uc_machine.specs.State.{Opening, State}
use Rattle.uc_worker.specs.Ends.{IsSearchedBy}
use Rattle.uc_decide.specs.declared.reply.Reply.{Reply}
use Rattle.uc_decide.specs.Deciding.{Decides}
use Rattle.uc_words.specs.declared.command.Command.{Command}
use Rattle.uc_answer.specs.StatusLines.{status_line}
use Rattle.uc_answer.specs.LimitLines.{IsLimitLine}
use Rattle.uc_answer.specs.ReplyLines.{AreReplies, replies_status, reply_lines}
use Rattle.uc_answer.specs.RightReplies.{AreRight}
use Rattle.uc_top.specs.DecideAnswers.{facts_of}

-- the problem as it is, but for its goals
abbrev pub without_goals : Problem → Encoded
without_goals problem = record {
  axioms = axioms_of problem.clauses;
  sources = map Clause problem.axioms;
  goals = [];
  goal_clauses = [];
  fresh = None;
  signature = problem.signature;
}

-- each ground term over the order's signature is one of the table
abbrev pub AreGroundOfTable : Table → Meaning → Type 0
AreGroundOfTable table m = (t : Tree) → IsGroundOf m t → IsOf table t

-- By this order, of a search from these axioms. Symbols are those of this table, and the problem file has this name.
module _ (table : Table) (m : Meaning) (command : Command) (name : List ℕ) (axioms : List Equation) (questions : List (Tree × Tree)) where
  -- What is told for the state and the verdict: of a saturated system, which decides what follows from the axioms, a reply to each
  -- question, and each is right; else the limit.
  pub data TellsEnd (s : State) : Verdict → ℕ → List ℕ → Type 0 where
    tells_replies : {replies : List Reply} → Decides m (equations_of (live s.entries)) axioms → AreReplies m (facts_of s) command.steps questions replies → AreRight m axioms questions replies → TellsEnd s Saturated (replies_status replies) (reply_lines table replies)
    tells_limit : {v : Verdict} {line : List ℕ} → IsLimitLine command s v line → TellsEnd s v 2 (status_line (codes "ResourceOut") name ++ line)

  -- the command's workers searched from the opening, and this is told
  pub record IsToldBySearch (o : Opening) (status : ℕ) (answer : List ℕ) : Type 0 where
    pub verdict : Verdict
    pub state : State
    pub searched : IsSearchedBy m o command.workers verdict state
    pub told : TellsEnd state verdict status answer
