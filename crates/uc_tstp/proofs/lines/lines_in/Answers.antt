use Rattle.std.proofs.Common.{length, ap, arith}
use Rattle.std.proofs.lemmas.Result.{err_from_is_err_and}
use Rattle.uc_clause.proofs.Tables.{grows_not, grows_twice}
use Rattle.uc_tstp.proofs.LineLoop.{gathered_none, gathered_all, gathered_more, lines_stop, as_many}
use Rattle.uc_tstp.proofs.lines.lines_in.Goals as goal

pub lines-init : goal.lines-init
lines-init c = record {
  gathered = rw (c.new.ensures, c.new-2.ensures) (gathered_none c.args.bytes.now c.args.tokens.now c.args.which c.args.symbols.now);
  small = omega (arith, ap length c.new.ensures);
  grows = grows_not c.args.symbols.now;
}

pub returns-clause-reads : goal.returns-clause-reads
returns-clause-reads c = gathered_all c.args.bytes.now c.args.tokens.now c.args.which c.args.symbols.now c.lines.symbols c.lines.read.names c.lines.read.drafts c.lines.at c.lines.invariant.gathered c.lines-test.ensures

pub returns-clause-few : goal.returns-clause-few
returns-clause-few c = let g = c.lines.invariant.gathered in omega (arith, as_many g.say, ap length g.names_are, c.lines.invariant.small)

pub returns-in_err-at-clause-stops : goal.returns-in_err-at-clause-stops
returns-in_err-at-clause-stops c =
    let p = err_from_is_err_and c.from_residual.result c.from_residual.ensures.1 in
    rw (p.1, p.2) (lines_stop c.args.bytes.now c.args.tokens.now c.args.which c.args.symbols.now c.lines.symbols c.lines.read.names c.lines.read.drafts c.lines.at c.lines.invariant.gathered c.lines-test.ensures c.in_err-at.field-0.0 c.in_err-at.ensures.stops)

pub lines-preserved : goal.lines-preserved
lines-preserved c = record {
  gathered = gathered_more c.args.bytes.now c.args.tokens.now c.args.which c.args.symbols.now c.lines.symbols c.lines.read.names c.lines.read.drafts c.lines.at c.lines.invariant.gathered c.lines-test.ensures c.take_line.new.symbols c.in_ok-at.at c.take_line.new.self.names c.take_line.new.self.drafts c.in_ok-at.ensures.grows c.in_ok-at.ensures.takes;
  small = c.in_ok-at.ensures.few;
  grows = grows_twice c.args.symbols.now c.lines.symbols c.take_line.new.symbols c.lines.invariant.grows c.in_ok-at.ensures.grows;
}

pub returns-in_err-at-clause-grows : goal.returns-in_err-at-clause-grows
returns-in_err-at-clause-grows c = grows_twice c.args.symbols.now c.lines.symbols c.take_line.new.symbols c.lines.invariant.grows c.in_err-at.ensures.grows
