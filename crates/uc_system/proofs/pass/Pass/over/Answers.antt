use Rattle.std.proofs.Common.{◌≡◌, sym, ap, subst, arith}
use Rattle.uc_system.specs.Passing.{State, state_of, start, Reaches, not_yet}
use Rattle.uc_system.proofs.Passes.{beyond, steps_on}
use Rattle.uc_system.proofs.pass.Pass.over.Goals as goal

pub steps-init : goal.steps-init
steps-init c =
    let at : c.start-pass.result.at ≡ c.args.from = ap (λ (s : State). s.at) c.start-pass.ensures in
    record {
      reaches = subst (Reaches c.args.symbols.now c.args.known.now.keys c.args.text.now c.args.tokens.now (start c.args.from c.args.seen)) (sym c.start-pass.ensures) not_yet;
      nodes = omega (arith, ap (λ (s : State). s.nodes) c.start-pass.ensures);
      seen = omega (arith, at, ap (λ (s : State). s.seen) c.start-pass.ensures, c.requires.seen);
      near = omega (arith, at, c.requires.within);
    }

pub returns-then-pass-tokens-clause-ends : goal.returns-then-pass-tokens-clause-ends
returns-then-pass-tokens-clause-ends c = record {
  state = state_of c.steps.pass;
  reaches = c.steps.invariant.reaches;
  stops = beyond c.args.symbols.now c.args.known.now.keys c.args.text.now c.args.tokens.now (state_of c.steps.pass) c.if-pass-tokens.true;
  not_whole = c.steps-test.ensures;
}

pub steps-preserved : goal.steps-preserved
steps-preserved c =
    let on = steps_on c.args.symbols.now c.args.known.now.keys c.args.text.now c.args.tokens.now (state_of c.steps.pass) c.step.new.self c.in_ok-step.field-0 c.in_ok-step.ensures c.if-not-branch.false c.steps.invariant.nodes c.steps.invariant.seen (omega (arith, c.if-pass-tokens.false)) c.steps.invariant.reaches in
    record { reaches = on.0; nodes = on.1; seen = on.2; near = on.4 }
