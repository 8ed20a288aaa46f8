use Rattle.std.proofs.Common.{arith, refl, sym, subst, ◌∙◌, codes}
use Rattle.std.proofs.lemmas.Result.{err_from_is_err_and}
use Rattle.uc_clause.specs.declared.terminal.Terminal.TheVariants.{Open, Close, OpenSquare, CloseSquare, Comma, Dot, End}
use Rattle.uc_clause.specs.Rules.{read, goes_on, stops_first}
use Rattle.uc_clause.proofs.Sequences.{exits_err, if_ok, if_err}
use Rattle.uc_clause.proofs.Tables.{grows_not, grows_twice}
use Rattle.uc_clause.proofs.Ends.{some_other}
use Rattle.uc_tstp.specs.Lines as lines
use Rattle.uc_tstp.proofs.Members.{Ahead, ahead_on, ahead_more, ahead_stops, ahead_behind, list_none, list_some, list_stops, list_unopened, next_within, picked_ahead}
use Rattle.uc_certificate.specs.JoinLines as rules
use Rattle.uc_certificate.specs.JoinMeaning.{MeansMove, MeansCase, MeansJoin, none_mean}
use Rattle.uc_certificate.specs.Reads.{AreVariables}
use Rattle.uc_certificate.proofs.JoinLoops.{Kept, kept_none, kept_stops, kept_behind, kept_more, kept_all}
use Rattle.uc_certificate.proofs.JoinEnds.{move_ends, class_ends, case_ends, variable_ends}
use Rattle.std.proofs.Common.{[]}
use Rattle.uc_certificate.proofs.replacements.moves.Goals as goal

pub returns-in_err-at-clause-stops : goal.returns-in_err-at-clause-stops
returns-in_err-at-clause-stops c =
    let p = err_from_is_err_and c.from_residual.result c.from_residual.ensures.1 in
    rw (p.1, p.2) (list_unopened c.args.bytes.now c.args.tokens.now (rules.move c.args.bytes.now c.args.tokens.now) c.args.from c.in_err-at.field-0.0 c.in_err-at.ensures.stops)

pub overflow_add-result : goal.overflow_add-result
overflow_add-result c = omega (arith, some_other c.args.bytes.now c.args.tokens.now c.in_ok-at.at CloseSquare c.if-stands_at.ensures (λ e. cc))

pub returns-then-stands_at-clause-reads : goal.returns-then-stands_at-clause-reads
returns-then-stands_at-clause-reads c = rw c.new.ensures (record { parse = []; reads = list_none c.args.bytes.now c.args.tokens.now (rules.move c.args.bytes.now c.args.tokens.now) c.args.from c.in_ok-at.at c.in_ok-at.ensures.ok c.if-stands_at.ensures; means = λ later g. none_mean; interns = refl })

pub returns-clause-reads : goal.returns-clause-reads
returns-clause-reads c = if_ok c.more_moves.result (λ x m. record { parse = m.parse; reads = list_some c.args.bytes.now c.args.tokens.now (rules.move c.args.bytes.now c.args.tokens.now) c.args.from c.in_ok-at.at c.in_ok-at.ensures.ok (read m.parse x.1) c.if-stands_at.ensures m.reads; means = m.means; interns = m.interns }) c.more_moves.ensures.reads

pub returns-clause-stops : goal.returns-clause-stops
returns-clause-stops c = if_err c.more_moves.result (λ e s. list_stops c.args.bytes.now c.args.tokens.now (rules.move c.args.bytes.now c.args.tokens.now) c.args.from c.in_ok-at.at c.in_ok-at.ensures.ok e c.if-stands_at.ensures s) c.more_moves.ensures.stops
