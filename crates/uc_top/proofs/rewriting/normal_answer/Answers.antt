use Rattle.uc_top.proofs.RewrittenAnswers.{normal_for, printable_steps}
use Rattle.uc_top.proofs.rewriting.normal_answer.Goals as goal

pub chain_lines-requires-clause-steps : goal.chain_lines-requires-clause-steps
chain_lines-requires-clause-steps c =
    let normal = normal_for c.args.symbols.now c.args.spec.now c.in_ok-order.order c.in_ok-order.ensures.order c.args.limit c.args.problem.now c.args.term.now c.in_ok-normal.normal (rw (c.new-scan.ensures, c.as_slice-4.ensures, c.in_ok-axioms.ensures, c.as_slice-2.ensures) at c.in_ok-normal.ensures.normal) in
    (printable_steps c.args.symbols.now c.args.spec.now c.args.limit c.args.problem.now c.args.term.now c.in_ok-normal.normal c.requires.agrees c.requires.fits c.requires.of_table normal).1

pub returns : goal.returns
returns c =
    let normal = normal_for c.args.symbols.now c.args.spec.now c.in_ok-order.order c.in_ok-order.ensures.order c.args.limit c.args.problem.now c.args.term.now c.in_ok-normal.normal (rw (c.new-scan.ensures, c.as_slice-4.ensures, c.in_ok-axioms.ensures, c.as_slice-2.ensures) at c.in_ok-normal.ensures.normal) in
    (c.in_ok-normal.normal, normal, c.stop_status.ensures, c.in_ok-chain_lines.ensures)
