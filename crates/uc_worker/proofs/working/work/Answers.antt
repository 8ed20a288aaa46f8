use Rattle.std.proofs.Common.{IfSome, sym, subst}
use Rattle.uc_book.specs.Openings.{opening_of}
use Rattle.uc_book.specs.Answers.{reply_of}
use Rattle.uc_search.specs.declared.working.Ended.TheVariants.{Drained, Closed}
use Rattle.uc_worker.specs.Works.{WasAnswered, EndsWork, lacks_memory}
use Rattle.uc_worker.proofs.Answered.{ends_drained, ends_closed}
use Rattle.uc_worker.proofs.working.work.Goals as goal

pub returns-then-is_err-clause-ended : goal.returns-then-is_err-clause-ended
returns-then-is_err-clause-ended g c = lacks_memory

pub returns-in-Ok-Drained-clause-ended : goal.returns-in-Ok-Drained-clause-ended
returns-in-Ok-Drained-clause-ended g c =
    let m = g.O.Order.meaning c.args.order.now in
    let o = opening_of g.K.Naming.opening in
    let w = c.loop.hand.worker in
    let d = c.in-Ok-Drained.field-0 in
    let a = subst (λ x. IfSome x (λ y. WasAnswered (g.O.Order.meaning y) o w (reply_of w d))) (sym c.requires.order) c.in-Ok-Drained.ensures.answered in
    subst (λ v. EndsWork m o v Drained) c.loop.invariant.worker (ends_drained m o w d c.in-Ok-Drained.field-0-is a)

pub returns-in-Ok-Closed-clause-ended : goal.returns-in-Ok-Closed-clause-ended
returns-in-Ok-Closed-clause-ended g c =
    let m = g.O.Order.meaning c.args.order.now in
    let o = opening_of g.K.Naming.opening in
    let w = c.loop.hand.worker in
    let d = c.in-Ok-Closed.field-0 in
    let a = subst (λ x. IfSome x (λ y. WasAnswered (g.O.Order.meaning y) o w (reply_of w d))) (sym c.requires.order) c.in-Ok-Closed.ensures.answered in
    subst (λ v. EndsWork m o v Closed) c.loop.invariant.worker (ends_closed m o w d c.in-Ok-Closed.field-0-0 c.in-Ok-Closed.field-0-is a)

pub returns-in-Err-clause-ended : goal.returns-in-Err-clause-ended
returns-in-Err-clause-ended g c = lacks_memory
