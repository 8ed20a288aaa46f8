use Rattle.std.proofs.lemmas.Option.{slice_get-get_or}
use Rattle.uc_clause.proofs.Spans.{within_text}
use Rattle.uc_clause.proofs.terminal.token_at.Goals as goal

pub returns-clause-in_text : goal.returns-clause-in_text
returns-clause-in_text c = within_text c.args.bytes.now c.args.tokens.now c.args.at _ c.requires.tokens (slice_get-get_or c.args.tokens.now c.args.at _ c.requires.within)
