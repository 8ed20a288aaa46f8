use Rattle.uc_answer.proofs.SaturatedTexts.{spec_of_table, facts_of_table, system_told}
use Rattle.uc_answer.proofs.verdict_lines.system_of.Goals as goal

pub print_system-requires-clause-spec : goal.print_system-requires-clause-spec
print_system-requires-clause-spec g c = spec_of_table c.args.closed.now.symbols.now c.args.closed.now.encoded.now.signature.symbols c.args.closed.now.spec.now c.requires.ended.fits

pub print_system-requires-clause-facts : goal.print_system-requires-clause-facts
print_system-requires-clause-facts g c = facts_of_table c.args.closed.now.symbols.now c.args.closed.now.command.now c.args.closed.now.problem.now c.args.closed.now.encoded.now c.args.closed.now.spec.now c.args.book.now.state c.requires.ended c.in_ok-system.system.facts (rw c.front.ensures.entries at c.in_ok-system.ensures)

pub returns-clause-promise : goal.returns-clause-promise
returns-clause-promise g c = system_told c.args.closed.now.symbols.now c.args.closed.now.command.now c.args.closed.now.problem.now c.args.closed.now.encoded.now c.args.closed.now.spec.now c.args.book.now.state c.requires.ended c.in_ok-system.system.facts c.args.closed.now.name.now c.print_system.result (rw c.front.ensures.entries at c.in_ok-system.ensures) c.print_system.ensures.read_back
