use Rattle.uc_clause.proofs.Sequences.{exits_err}
use Rattle.uc_clause.proofs.Tables.{grows_not}
use Rattle.uc_tstp.specs.Lines.{rest_of_line, line}
use Rattle.uc_tstp.specs.Parts.{line_end}
use Rattle.uc_tstp.proofs.LineParts.{end_stops, reads_line}
use Rattle.uc_tstp.proofs.lines.line_at.Goals as goal

pub returns-in_err-draft-clause-stops : goal.returns-in_err-draft-clause-stops
returns-in_err-draft-clause-stops c = exits_err (rest_of_line c.args.bytes.now c.args.tokens.now c.in_ok-name.name c.in_ok-name.first) (line c.args.bytes.now c.args.tokens.now c.args.names.now c.args.from) _ _ c.from_residual-in_err-draft.ensures.1 (λ why k s. c.in_ok-name.ensures.leads _ s) c.in_err-draft.ensures.stops

pub returns-in_err-end-clause-stops : goal.returns-in_err-end-clause-stops
returns-in_err-end-clause-stops c = exits_err (line_end c.args.bytes.now c.args.tokens.now c.in_ok-draft.at) (line c.args.bytes.now c.args.tokens.now c.args.names.now c.args.from) _ _ c.from_residual-in_err-end.ensures.1 (end_stops c.args.bytes.now c.args.tokens.now c.args.names.now c.in_ok-name.name c.args.from c.in_ok-name.first c.in_ok-draft.at c.in_ok-name.ensures.leads c.args.symbols.now c.contents_at.new.symbols c.in_ok-draft.draft c.in_ok-draft.ensures.reads) c.in_err-end.ensures.stops

pub returns-clause-reads : goal.returns-clause-reads
returns-clause-reads c = reads_line c.args.bytes.now c.args.tokens.now c.args.names.now c.in_ok-name.name c.args.from c.in_ok-name.first c.in_ok-draft.at c.in_ok-name.ensures.leads c.args.symbols.now c.contents_at.new.symbols c.in_ok-draft.draft c.in_ok-draft.ensures.reads c.in_ok-end.end c.in_ok-end.ensures.ok

pub returns-in_err-name-clause-grows : goal.returns-in_err-name-clause-grows
returns-in_err-name-clause-grows c = grows_not c.args.symbols.now
