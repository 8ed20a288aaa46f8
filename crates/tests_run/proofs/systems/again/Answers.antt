use Rattle.uc_system.proofs.SystemsPrintable.{spec_printable, facts_printable}
use Rattle.tests_run.proofs.systems.again.Goals as goal

pub print_system-requires-clause-spec : goal.print_system-requires-clause-spec
print_system-requires-clause-spec c = spec_printable c.read_system.new.symbols c.in_ok-read.read c.in_ok-read.ensures.system

pub print_system-requires-clause-facts : goal.print_system-requires-clause-facts
print_system-requires-clause-facts c = facts_printable c.read_system.new.symbols c.in_ok-read.read c.in_ok-read.ensures.system
