use Rattle.uc_system.specs.Unread.{wants_memory}
use Rattle.uc_system.proofs.FactsRead.{known_later, none_in, none_keeps}
use Rattle.uc_system.proofs.Interned.{checked_keeps}
use Rattle.uc_system.proofs.facts.fact_at.Goals as goal

pub returns-in-Ok-clause-keeps : goal.returns-in-Ok-clause-keeps
returns-in-Ok-clause-keeps c = checked_keeps c.args.symbols.now c.read_equation.new.symbols c.in-Ok.ensures.grows c.args.known.now.keys c.requires.known c.args.text.now c.checked.result (known_later c.args.symbols.now c.read_equation.new.symbols c.in-Ok.ensures.grows c.args.known.now.keys c.requires.known) c.checked.ensures c.in-Ok.ensures.interns

pub returns-in-Err-clause-reads : goal.returns-in-Err-clause-reads
returns-in-Err-clause-reads c = none_in c.read_equation.new.symbols c.args.known.now.keys (known_later c.args.symbols.now c.read_equation.new.symbols c.in-Err.ensures.grows c.args.known.now.keys c.requires.known) c.args.text.now c.in-Err.fault c.in-Err.ensures.refused c.none_for.result c.none_for.ensures

pub returns-in-Err-clause-keeps : goal.returns-in-Err-clause-keeps
returns-in-Err-clause-keeps c = none_keeps c.args.symbols.now c.read_equation.new.symbols (wants_memory c.in-Err.fault) c.none_for.result c.none_for.ensures
