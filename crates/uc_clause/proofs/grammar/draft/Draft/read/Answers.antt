use Rattle.std.proofs.Common.{arith}
use Rattle.std.proofs.lemmas.Result.{err_from_is_err_and}
use Rattle.uc_clause.specs.Drafts.{state_of}
use Rattle.uc_clause.proofs.Tables.{grows_twice}
use Rattle.uc_clause.proofs.Loop.{keeps, whole, goes_ahead, pending_within, stuck_stops}
use Rattle.uc_clause.proofs.grammar.draft.Draft.read.Goals as goal

pub step-requires-clause-pending : goal.step-requires-clause-pending
step-requires-clause-pending c =
    pending_within c.args.bytes.now c.args.tokens.now c.args.from c.args.variables.now c.args.symbols.now (state_of c.steps.draft c.steps.variables c.steps.symbols) c.steps.draft.behind_term c.steps.invariant.keeps

pub steps-smaller : goal.steps-smaller
steps-smaller c =
    let ahead = goes_ahead c.args.bytes.now c.args.tokens.now (state_of c.steps.draft c.steps.variables c.steps.symbols) (state_of c.step.new.self c.step.new.variables c.step.new.symbols) c.in_ok-step.ensures.moves in
    omega (arith, ahead.0, ahead.1)

pub steps-preserved : goal.steps-preserved
steps-preserved c = record {
  keeps = keeps c.args.bytes.now c.args.tokens.now c.args.from c.args.variables.now c.args.symbols.now (state_of c.steps.draft c.steps.variables c.steps.symbols) (state_of c.step.new.self c.step.new.variables c.step.new.symbols) c.steps.invariant.keeps c.in_ok-step.ensures.moves;
  grows = grows_twice c.args.symbols.now c.steps.symbols c.step.new.symbols c.steps.invariant.grows c.in_ok-step.ensures.grows;
}

pub returns-in_err-step-clause-stops : goal.returns-in_err-step-clause-stops
returns-in_err-step-clause-stops c =
    let p = err_from_is_err_and c.from_residual.result c.from_residual.ensures.1 in
    rw (p.1, p.2) (stuck_stops c.args.bytes.now c.args.tokens.now c.args.from c.args.variables.now c.args.symbols.now (state_of c.steps.draft c.steps.variables c.steps.symbols) c.in_err-step.field-0.0 c.steps.invariant.keeps c.in_err-step.ensures.stops)

pub returns-clause-reads : goal.returns-clause-reads
returns-clause-reads c =
    let done = c.steps-test.ensures in
    whole c.args.bytes.now c.args.tokens.now c.args.from c.args.variables.now c.args.symbols.now (state_of c.steps.draft c.steps.variables c.steps.symbols) c.steps.invariant.keeps done.0 done.1
