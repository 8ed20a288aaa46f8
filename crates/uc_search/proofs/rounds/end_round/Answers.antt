use Rattle.std.proofs.Common.{sym, ◌∙◌}
use Rattle.std.proofs.lemmas.Result.{IfOk-weaker}
use Rattle.uc_machine.specs.declared.task.Outcome.TheVariants.{Missing as Lacks}
use Rattle.uc_book.specs.Openings.{opening_of}
use Rattle.uc_search.specs.Searching.{AuditsMissing, EndsRound, audits_missing, before_answer}
use Rattle.uc_search.proofs.RoundEnds.{final_moved, has_closed, cut_short, on_err}
use Rattle.uc_search.proofs.rounds.end_round.Goals as goal

pub returns-in-Ok-clause-ends : goal.returns-in-Ok-clause-ends
returns-in-Ok-clause-ends g c =
    let b = c.args.book.now in
    let f = c.in_ok-outcome.ensures.outcome b.state (sym c.front-front.ensures.entries) (sym (c.as_slice.ensures.value ∙ c.in_ok-stages.ensures.stages)) in
    let lacks = final_moved g.O.Order.meaning b.order c.args.order.now b.opening.problem.axioms c.axioms-axioms.result.now b.state c.in_ok-outcome.outcome (Lacks c.in-Ok.all) c.requires.order (sym c.axioms-axioms.ensures.axioms) c.in-Ok.ensures.missing f in
    IfOk-weaker c.audit_all.result (λ v. AuditsMissing (opening_of b.opening) c.in-Ok.all b.state v c.audit_all.new.book.state) (λ v. EndsRound (g.O.Order.meaning b.order) (opening_of b.opening) b.state v c.audit_all.new.book.state) (λ v a. audits_missing lacks a) c.audit_all.ensures.audited

pub returns-clause-ends : goal.returns-clause-ends
returns-clause-ends g c =
    let b = c.args.book.now in
    let f = c.in_ok-outcome.ensures.outcome b.state (sym c.front-front.ensures.entries) (sym (c.as_slice.ensures.value ∙ c.in_ok-stages.ensures.stages)) in
    let final = final_moved g.O.Order.meaning b.order c.args.order.now b.opening.problem.axioms c.axioms-axioms.result.now b.state c.in_ok-outcome.outcome c.in-Err.end c.requires.order (sym c.axioms-axioms.ensures.axioms) c.in-Err.ensures.end.0 f in
    (has_closed (g.O.Order.meaning b.order) (opening_of b.opening) b.state c.in-Err.end c.close.result c.close.new.self.state final c.close.ensures.closed).ends

pub returns-clause-verdict : goal.returns-clause-verdict
returns-clause-verdict g c =
    let b = c.args.book.now in
    let f = c.in_ok-outcome.ensures.outcome b.state (sym c.front-front.ensures.entries) (sym (c.as_slice.ensures.value ∙ c.in_ok-stages.ensures.stages)) in
    let final = final_moved g.O.Order.meaning b.order c.args.order.now b.opening.problem.axioms c.axioms-axioms.result.now b.state c.in_ok-outcome.outcome c.in-Err.end c.requires.order (sym c.axioms-axioms.ensures.axioms) c.in-Err.ensures.end.0 f in
    (has_closed (g.O.Order.meaning b.order) (opening_of b.opening) b.state c.in-Err.end c.close.result c.close.new.self.state final c.close.ensures.closed).verdict

pub returns-clause-out : goal.returns-clause-out
returns-clause-out g c =
    let b = c.args.book.now in
    let f = c.in_ok-outcome.ensures.outcome b.state (sym c.front-front.ensures.entries) (sym (c.as_slice.ensures.value ∙ c.in_ok-stages.ensures.stages)) in
    let final = final_moved g.O.Order.meaning b.order c.args.order.now b.opening.problem.axioms c.axioms-axioms.result.now b.state c.in_ok-outcome.outcome c.in-Err.end c.requires.order (sym c.axioms-axioms.ensures.axioms) c.in-Err.ensures.end.0 f in
    (has_closed (g.O.Order.meaning b.order) (opening_of b.opening) b.state c.in-Err.end c.close.result c.close.new.self.state final c.close.ensures.closed).out

pub returns-clause-commits : goal.returns-clause-commits
returns-clause-commits g c =
    let b = c.args.book.now in
    let f = c.in_ok-outcome.ensures.outcome b.state (sym c.front-front.ensures.entries) (sym (c.as_slice.ensures.value ∙ c.in_ok-stages.ensures.stages)) in
    let final = final_moved g.O.Order.meaning b.order c.args.order.now b.opening.problem.axioms c.axioms-axioms.result.now b.state c.in_ok-outcome.outcome c.in-Err.end c.requires.order (sym c.axioms-axioms.ensures.axioms) c.in-Err.ensures.end.0 f in
    (has_closed (g.O.Order.meaning b.order) (opening_of b.opening) b.state c.in-Err.end c.close.result c.close.new.self.state final c.close.ensures.closed).commits

pub returns-in-Ok-clause-err : goal.returns-in-Ok-clause-err
returns-in-Ok-clause-err g c =
    let b = c.args.book.now in
    let f = c.in_ok-outcome.ensures.outcome b.state (sym c.front-front.ensures.entries) (sym (c.as_slice.ensures.value ∙ c.in_ok-stages.ensures.stages)) in
    let lacks = final_moved g.O.Order.meaning b.order c.args.order.now b.opening.problem.axioms c.axioms-axioms.result.now b.state c.in_ok-outcome.outcome (Lacks c.in-Ok.all) c.requires.order (sym c.axioms-axioms.ensures.axioms) c.in-Ok.ensures.missing f in
    cut_short (g.O.Order.meaning b.order) (opening_of b.opening) c.in-Ok.all b.state c.audit_all.new.book.state c.audit_all.result lacks c.audit_all.ensures.err

pub returns-in_err-stages-clause-err : goal.returns-in_err-stages-clause-err
returns-in_err-stages-clause-err g c = on_err c.from_residual.result before_answer

pub returns-in_err-outcome-clause-err : goal.returns-in_err-outcome-clause-err
returns-in_err-outcome-clause-err g c = on_err c.from_residual-in_err-outcome.result before_answer
