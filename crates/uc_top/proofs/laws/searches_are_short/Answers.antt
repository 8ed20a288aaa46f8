use Rattle.std.proofs.Common.{◌<◌, arith}
use Rattle.uc_ordering.specs.Meaning.{meaning_of}
use Rattle.uc_search.proofs.Bounded.{searched_bounded, few_rounds}
use Rattle.uc_answer.specs.VerdictLines.{opening_for}
use Rattle.uc_top.specs.DecideAnswers.{opening_of_axioms}
use Rattle.uc_top.proofs.laws.searches_are_short.Goals as goal

worker_zero : 0 < 65
worker_zero = omega arith

pub returns : goal.returns
returns c = record {
  prove = λ files command name s a x one. searched_bounded (meaning_of x.table x.spec) (opening_for command x.encoded) 0 worker_zero x.verdict x.state (x.searched.alone one);
  prove_rounds = λ files command name s a x one. few_rounds (meaning_of x.table x.spec) (opening_for command x.encoded) 0 worker_zero x.verdict x.state (x.searched.alone one);
  decide = λ files command name asked s a x one. searched_bounded (meaning_of x.table x.spec) (opening_of_axioms command x.problem) 0 worker_zero x.verdict x.state (x.searched.alone one);
  decide_rounds = λ files command name asked s a x one. few_rounds (meaning_of x.table x.spec) (opening_of_axioms command x.problem) 0 worker_zero x.verdict x.state (x.searched.alone one);
}
