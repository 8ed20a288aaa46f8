use Rattle.uc_clause.proofs.PrintedClause.{printed_term_again}
use Rattle.uc_clause.proofs.printer.print_term.Goals as goal

pub returns-clause-read_again : goal.returns-clause-read_again
returns-clause-read_again c = λ printable. printed_term_again c.args.symbols.now c.args.term.now c.new-out.result c.write_term.new.out c.new-out.ensures c.in_ok-write_term.ensures.text printable c.in_ok-write_term.ensures.numbered c.in_ok-write_term.ensures.small
