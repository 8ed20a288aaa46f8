use Rattle.std.proofs.Common.{drop}
use Rattle.uc_fact.specs.Live.{numbered}
use Rattle.uc_decide.proofs.Shares.{Continues}
use Rattle.uc_decide.proofs.asking_all.ask_alone.Given as goal

abbrev pub invariant-loop-question : goal.invariant-loop-question
invariant-loop-question g l = Continues (g.O.Order.meaning l.order) (numbered l.system.facts) l.steps l.questions (drop l.question-index l.questions) l.replies
