use Rattle.uc_clause.proofs.ClauseAgain.{printed_clause_again}
use Rattle.uc_clause.proofs.printer.print_clause.Goals as goal

pub returns-clause-read_again : goal.returns-clause-read_again
returns-clause-read_again c = λ printable fits. printed_clause_again c.args.symbols.now c.args.clause.now c.new-out.result c.write_clause.new.out c.new-out.ensures c.in_ok-write_clause.ensures.text printable c.in_ok-write_clause.ensures.left c.in_ok-write_clause.ensures.right fits
