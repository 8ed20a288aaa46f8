-- The lines of a book's history.
use Rattle.std.specs.Prelude.{ℕ, ◌+◌, List, [], ◌∷◌, ◌++◌, codes, decimal}
use Rattle.uc_machine.specs.declared.event.Ending.{Ending}
use Rattle.uc_machine.specs.declared.event.Ending.TheVariants as ending
use Rattle.uc_machine.specs.declared.event.GoalEnd.{GoalEnd}
use Rattle.uc_machine.specs.declared.event.GoalEnd.TheVariants as end
use Rattle.uc_machine.specs.declared.event.Happening.{Happening}
use Rattle.uc_machine.specs.declared.event.Happening.TheVariants as what
use Rattle.uc_machine.specs.declared.event.Event.{Event}
use Rattle.uc_worker.specs.Commits.{shares_of}
use Rattle.uc_answer.specs.Lines.{spaced}

abbrev pub ending_word : Ending → List ℕ
ending_word ending.Proved = codes "proved"
ending_word ending.Saturated = codes "saturated"
ending_word ending.Budget = codes "budget"
ending_word ending.Pairs = codes "pairs"
ending_word ending.Size = codes "size"

abbrev pub end_word : GoalEnd → List ℕ
end_word end.Met = codes "met"
end_word end.Full = codes "full"
end_word end.Steps = codes "steps"
end_word end.Size = codes "size"

-- words with a number behind them
abbrev pub named : List ℕ → ℕ → List ℕ
named words number = words ++ spaced (decimal number)

-- a task that was drawn, over so many entries
abbrev pub draw_text : List ℕ → ℕ → ℕ → List ℕ
draw_text words number front = named words number ++ named (codes " front") front

-- the commit of a goal
abbrev pub goal_text : List ℕ → ℕ → ℕ → GoalEnd → List ℕ
goal_text words goal steps end = named words goal ++ named (codes " steps") steps ++ spaced (end_word end)

-- what happened
abbrev pub event_text : Happening → List ℕ
event_text (what.DrawGoal g n) = draw_text (codes "draw goal") g n
event_text (what.DrawMore g n) = draw_text (codes "draw more") g n
event_text (what.DrawMeet i n) = draw_text (codes "draw meet") i n
event_text (what.DrawJoin p n) = draw_text (codes "draw join") p n
event_text (what.CommitGoal g steps end) = goal_text (codes "commit goal") g steps end
event_text (what.CommitMore g steps end) = goal_text (codes "commit more") g steps end
event_text (what.CommitMeet i pairs kills) = named (codes "commit meet") i ++ named (codes " pairs") pairs ++ named (codes " kills") kills
event_text (what.CommitJoined p) = named (codes "commit join") p ++ codes " joined"
event_text (what.CommitKept p i) = named (codes "commit join") p ++ named (codes " kept") i
event_text (what.CommitLate ticket) = codes "commit late"
event_text (what.Dropped p) = named (codes "drop") p
event_text (what.ReclaimGoal g) = named (codes "reclaim goal") g
event_text (what.ReclaimMore g) = named (codes "reclaim more") g
event_text (what.ReclaimMeet i) = named (codes "reclaim meet") i
event_text (what.ReclaimJoin p) = named (codes "reclaim join") p
event_text (what.AuditKept i) = named (codes "audit kept") i
event_text (what.Close ending) = codes "close " ++ ending_word ending

-- the line of the event of this number
abbrev pub event_line : ℕ → Event → List ℕ
event_line number e = codes "% " ++ decimal number ++ codes " w" ++ decimal e.worker ++ spaced (event_text e.what) ++ codes "\n"

-- the lines of events, of which the first has this number
abbrev pub event_lines : ℕ → List Event → List ℕ
event_lines number [] = []
event_lines number (e ∷ es) = event_line number e ++ event_lines (number + 1) es

-- the line of how many commits a worker made
abbrev pub share_text : ℕ → ℕ → List ℕ
share_text worker commits = codes "% share w" ++ decimal worker ++ spaced (decimal commits) ++ codes "\n"

-- the lines of the shares of workers, of whom the first has this number
abbrev pub share_lines : ℕ → List ℕ → List ℕ
share_lines worker [] = []
share_lines worker (commits ∷ shares) = share_text worker commits ++ share_lines (worker + 1) shares

-- the events, from 1 on, and the shares of the first n workers, from worker 0 on
abbrev pub trace_text : ℕ → List Event → List ℕ
trace_text n history = event_lines 1 history ++ share_lines 0 (shares_of n history)
