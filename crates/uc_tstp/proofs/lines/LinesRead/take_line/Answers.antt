use Rattle.std.proofs.Common.{sym, ◌∙◌}
use Rattle.std.proofs.lemmas.Result.{err_from_is_err_and}
use Rattle.uc_clause.specs.Terminals.{bytes_at}
use Rattle.uc_tstp.proofs.LineLoop.{line_stops, foreign_stops, new_name}
use Rattle.uc_tstp.proofs.lines.LinesRead.take_line.Goals as goal

pub returns-in_err-draft-clause-stops : goal.returns-in_err-draft-clause-stops
returns-in_err-draft-clause-stops c =
    let p = err_from_is_err_and c.from_residual.result c.from_residual.ensures.1 in
    rw (p.1, p.2) (line_stops c.args.bytes.now c.args.tokens.now c.args.which c.args.self.now.names c.args.at c.requires.more c.in_err-draft.field-0.0 c.in_err-draft.ensures.stops)

pub returns-then-not-belongs-clause-stops : goal.returns-then-not-belongs-clause-stops
returns-then-not-belongs-clause-stops c = foreign_stops c.args.bytes.now c.args.tokens.now c.args.which c.args.self.now.names c.args.at c.requires.more c.args.symbols.now c.line_at.new.symbols c.in_ok-draft.draft c.in_ok-draft.end c.in_ok-draft.ensures.reads (sym c.if-not-belongs.ensures)

pub returns-clause-takes : goal.returns-clause-takes
returns-clause-takes c = record {
  draft = c.in_ok-draft.draft;
  reads = c.in_ok-draft.ensures.reads;
  belongs = sym c.if-not-belongs.ensures;
  names_are = rw c.spelling_at.ensures at c.in_ok-insert.ensures.ok ∙ new_name c.args.self.now.names (bytes_at c.args.bytes.now c.args.tokens.now c.in_ok-draft.draft.name) c.in_ok-draft.ensures.new;
  drafts_are = c.in_ok-push.ensures.ok;
}
