use Rattle.uc_fact.specs.Live.{numbered}
use Rattle.uc_decide.proofs.Shares.{asked_on, asked_end}
use Rattle.uc_decide.proofs.asking_all.ask_alone.Goals as goal

pub loop-question-preserved : goal.loop-question-preserved
loop-question-preserved g c = asked_on (g.O.Order.meaning c.args.order.now) (numbered c.args.system.now.facts) c.args.steps c.args.questions.now c.args.questions.now c.loop-question.question-index c.question-item.result c.in_ok-ask.field-0 c.loop-question.replies c.push.new.self c.loop-question-test.true c.question-item.is c.in_ok-push.ensures.ok c.in_ok-ask.ensures.reply c.loop-question.invariant

pub returns : goal.returns
returns g c = asked_end (g.O.Order.meaning c.args.order.now) (numbered c.args.system.now.facts) c.args.steps c.args.questions.now c.loop-question.question-index c.loop-question.replies c.loop-question-test.false c.loop-question.invariant
