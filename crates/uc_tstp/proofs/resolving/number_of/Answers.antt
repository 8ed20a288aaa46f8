use Rattle.std.proofs.Common.{sym}
use Rattle.uc_clause.specs.Terminals.{bytes_at}
use Rattle.uc_tstp.proofs.Unknowns.{name_found, name_not_found, unknown_one}
use Rattle.uc_tstp.proofs.resolving.number_of.Goals as goal

pub returns-in-Some-clause-named : goal.returns-in-Some-clause-named
returns-in-Some-clause-named c = name_found (bytes_at c.args.bytes.now c.args.tokens.now c.args.token) c.args.names.now c.in-Some.number (sym (rw c.spelling_at.ensures at c.in-Some.ensures))

pub returns-in-None-clause-lacks : goal.returns-in-None-clause-lacks
returns-in-None-clause-lacks c = unknown_one c.args.bytes.now c.args.tokens.now c.args.names.now c.args.token (name_not_found (bytes_at c.args.bytes.now c.args.tokens.now c.args.token) c.args.names.now (sym (rw c.spelling_at.ensures at c.in-None.ensures)))
