use Rattle.uc_book.specs.Openings.{opening_of}
use Rattle.uc_answer.proofs.LargeLines.{searched_large}
use Rattle.uc_answer.proofs.Saturation.{opens_without, facts_over}
use Rattle.uc_top.proofs.DecidedAnswers.{limit_status}
use Rattle.uc_top.proofs.GenTelling.{count_told, limit_told}
use Rattle.uc_top.proofs.generating.closed_answer.Goals as goal

pub count_forms-requires-clause-over : goal.count_forms-requires-clause-over
count_forms-requires-clause-over g c =
    let m = g.O.Order.meaning c.args.order.now in
    let o = opening_of c.args.book.now.opening in
    rw (c.in_ok-system-in-Saturated.ensures, c.front.ensures.entries) (facts_over m (g.met.O.Order.laws c.args.order.now) o (opens_without m o c.requires.over c.requires.no_goals) c.args.book.now.state (rw c.in-Saturated.is at c.requires.searched))

pub out_lines-requires : goal.out_lines-requires
out_lines-requires g c = record {
  shelf = c.requires.shelf;
  large = searched_large (g.O.Order.meaning c.args.order.now) (opening_of c.args.book.now.opening) c.args.book.now.state c.args.verdict c.requires.searched;
  out = limit_status (g.O.Order.meaning c.args.order.now) (opening_of c.args.book.now.opening) c.args.verdict c.args.book.now.state c.requires.searched c.requires.no_goals c.in_default.not-Saturated;
}

pub returns-in_ok-forms-in-Saturated : goal.returns-in_ok-forms-in-Saturated
returns-in_ok-forms-in-Saturated g c = rw c.in-Saturated.is (count_told (g.O.Order.meaning c.args.order.now) c.args.command.now c.args.constants.now c.args.book.now.state c.in_ok-system-in-Saturated.system.facts c.in_ok-forms-in-Saturated.forms c.counted_answer.result (rw c.front.ensures.entries at c.in_ok-system-in-Saturated.ensures) c.in_ok-forms-in-Saturated.ensures.forms c.counted_answer.ensures)

pub returns-in_ok-out_lines-in_default : goal.returns-in_ok-out_lines-in_default
returns-in_ok-out_lines-in_default g c = limit_told (g.O.Order.meaning c.args.order.now) c.args.command.now c.args.constants.now c.args.book.now.state c.args.verdict c.in_ok-out_lines-in_default.field-0 c.in_ok-out_lines-in_default.ensures
