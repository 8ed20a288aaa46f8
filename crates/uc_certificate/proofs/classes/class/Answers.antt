use Rattle.std.proofs.Common.{arith, refl, sym, subst, ◌∙◌, codes}
use Rattle.std.proofs.lemmas.Result.{err_from_is_err_and}
use Rattle.uc_clause.specs.declared.terminal.Terminal.TheVariants.{Open, Close, OpenSquare, CloseSquare, Comma, Dot, End}
use Rattle.uc_clause.specs.Rules.{read, goes_on, stops_first}
use Rattle.uc_clause.proofs.Sequences.{exits_err, if_ok, if_err, passes}
use Rattle.uc_clause.proofs.Tables.{grows_not, grows_twice}
use Rattle.uc_clause.proofs.Ends.{some_other}
use Rattle.uc_tstp.specs.Lines as lines
use Rattle.uc_tstp.proofs.Members.{Ahead, ahead_on, ahead_more, ahead_stops, ahead_behind, list_none, list_some, list_stops, list_unopened, next_within, picked_ahead}
use Rattle.uc_certificate.specs.JoinLines as rules
use Rattle.uc_certificate.specs.JoinMeaning.{MeansMove, MeansCase, MeansJoin, none_mean}
use Rattle.uc_certificate.specs.Reads.{AreVariables}
use Rattle.uc_certificate.proofs.JoinLoops.{Kept, kept_none, kept_stops, kept_behind, kept_more, kept_all}
use Rattle.uc_certificate.proofs.JoinEnds.{move_ends, class_ends, case_ends, variable_ends}
use Rattle.uc_certificate.proofs.classes.class.Goals as goal

pub returns-in_err-at-clause-stops : goal.returns-in_err-at-clause-stops
returns-in_err-at-clause-stops c = exits_err (lines.token c.args.bytes.now c.args.tokens.now OpenSquare c.args.from) (rules.class c.args.bytes.now c.args.tokens.now c.args.from) _ _ c.from_residual.ensures.1 (λ why k h. (stops_first h)) c.in_err-at.ensures.stops

pub returns-clause-reads : goal.returns-clause-reads
returns-clause-reads c = if_ok c.variables.result (λ x m. goes_on {v = tt} c.in_ok-at.ensures.ok m) c.variables.ensures.reads

pub returns-clause-stops : goal.returns-clause-stops
returns-clause-stops c = if_err c.variables.result (λ e s. passes (lines.members c.args.bytes.now c.args.tokens.now (rules.variable c.args.bytes.now c.args.tokens.now) c.in_ok-at.at) (rules.class c.args.bytes.now c.args.tokens.now c.args.from) e (λ why k h. goes_on {v = tt} c.in_ok-at.ensures.ok h) s) c.variables.ensures.stops
