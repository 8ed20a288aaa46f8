use Rattle.std.proofs.Common.{sym}
use Rattle.std.proofs.lemmas.Bool.{false≢true}
use Rattle.uc_book.specs.Parts.{state_of}
use Rattle.uc_book.proofs.Waiting.{goal_found_waits, none_continued, head_found_waits, none_at_head}
use Rattle.uc_book.proofs.parts.Parts.has_waiting.Goals as goal

pub returns-then-is_some-clause-waits : goal.returns-then-is_some-clause-waits
returns-then-is_some-clause-waits c = λ e. goal_found_waits (state_of c.args.self.now) c.first_continued.result c.is_some.result c.first_continued.ensures.found c.is_some.ensures c.if-is_some.true

pub returns-then-is_some-clause-none : goal.returns-then-is_some-clause-none
returns-then-is_some-clause-none c = λ e. absurd (false≢true (sym e))

pub returns-clause-waits : goal.returns-clause-waits
returns-clause-waits c = λ e. head_found_waits c.args.self.now c.head.result c.is_some-2.result c.head.ensures c.is_some-2.ensures e

pub returns-clause-none : goal.returns-clause-none
returns-clause-none c = λ e. record {
  no_goal = none_continued (state_of c.args.self.now) c.first_continued.result c.is_some.result c.first_continued.ensures.found c.is_some.ensures c.if-is_some.false;
  no_pair = none_at_head c.args.self.now c.head.result c.is_some-2.result c.head.ensures c.is_some-2.ensures e;
}
