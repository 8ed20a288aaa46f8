use Rattle.uc_system.proofs.PrintedSystem.{printed_read}
use Rattle.uc_system.proofs.printing.print_system.Goals as goal

pub returns-clause-read_back : goal.returns-clause-read_back
returns-clause-read_back c = λ printable. printed_read c.args.symbols.now c.args.spec.now c.args.system.now c.new-out.result c.write_system.new.out c.new-out.ensures (rw c.as_slice-facts.ensures at c.in_ok-write_system.ensures) (rw c.as_slice-facts.ensures at c.see_few.ensures) printable
