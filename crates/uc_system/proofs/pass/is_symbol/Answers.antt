use Rattle.std.proofs.Common.{sym, ◌∙◌}
use Rattle.uc_system.proofs.Passes.{found_symbol, no_symbol}
use Rattle.uc_system.proofs.pass.is_symbol.Goals as goal

pub returns-in-Some : goal.returns-in-Some
returns-in-Some c = c.is_known.ensures ∙ found_symbol c.args.symbols.now c.len.ensures.distinct c.in-Some.f c.args.name.now c.args.arguments c.in-Some.ensures c.args.known.now.keys c.requires

pub returns-in-None : goal.returns-in-None
returns-in-None c = sym (no_symbol c.args.symbols.now c.args.known.now.keys c.requires c.args.name.now c.args.arguments c.in-None.ensures)
