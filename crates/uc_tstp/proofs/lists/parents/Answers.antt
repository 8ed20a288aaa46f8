use Rattle.std.proofs.Common.{arith}
use Rattle.std.proofs.lemmas.Result.{err_from_is_err_and}
use Rattle.uc_clause.specs.declared.terminal.Terminal.TheVariants.{CloseSquare}
use Rattle.uc_clause.specs.Rules.{read}
use Rattle.uc_clause.proofs.Ends.{some_other}
use Rattle.uc_clause.proofs.Sequences.{if_ok, if_err}
use Rattle.uc_tstp.specs.Lines.{lower}
use Rattle.uc_tstp.proofs.Members.{list_none, list_some, list_stops, list_unopened}
use Rattle.uc_tstp.proofs.lists.parents.Goals as goal

pub returns-in_err-at-clause-stops : goal.returns-in_err-at-clause-stops
returns-in_err-at-clause-stops c =
    let p = err_from_is_err_and c.from_residual.result c.from_residual.ensures.1 in
    rw (p.1, p.2) (list_unopened c.args.bytes.now c.args.tokens.now (lower c.args.bytes.now c.args.tokens.now) c.args.from c.in_err-at.field-0.0 c.in_err-at.ensures.stops)

pub overflow_add-result : goal.overflow_add-result
overflow_add-result c = omega (arith, some_other c.args.bytes.now c.args.tokens.now c.in_ok-at.at CloseSquare c.if-stands_at.ensures (λ e. cc))

pub returns-then-stands_at-clause-reads : goal.returns-then-stands_at-clause-reads
returns-then-stands_at-clause-reads c =
    rw c.new.ensures (list_none c.args.bytes.now c.args.tokens.now (lower c.args.bytes.now c.args.tokens.now) c.args.from c.in_ok-at.at c.in_ok-at.ensures.ok c.if-stands_at.ensures)

pub returns-clause-reads : goal.returns-clause-reads
returns-clause-reads c =
    if_ok c.lowers.result (λ r m. list_some c.args.bytes.now c.args.tokens.now (lower c.args.bytes.now c.args.tokens.now) c.args.from c.in_ok-at.at c.in_ok-at.ensures.ok (read r.0 r.1) c.if-stands_at.ensures m) c.lowers.ensures.reads

pub returns-clause-stops : goal.returns-clause-stops
returns-clause-stops c =
    if_err c.lowers.result (λ e s. list_stops c.args.bytes.now c.args.tokens.now (lower c.args.bytes.now c.args.tokens.now) c.args.from c.in_ok-at.at c.in_ok-at.ensures.ok e c.if-stands_at.ensures s) c.lowers.ensures.stops
