use Rattle.std.proofs.Common.{sym, ◌∙◌}
use Rattle.uc_tstp.proofs.Resolved.{next_step, all_steps}
use Rattle.uc_tstp.proofs.resolving.steps_of.Goals as goal

pub loop-draft-preserved : goal.loop-draft-preserved
loop-draft-preserved c =
    rw c.in_ok-push.ensures.ok (next_step c.args.bytes.now c.args.tokens.now c.args.names.now c.into_iter-draft-iterator.result.rest.items c.loop-draft.steps c.next.new.self.rest.items c.in-Some.draft c.in_ok-step.step (rw c.in-Some.ensures.steps.0 at c.loop-draft.invariant) c.in_ok-step.ensures.resolves)

pub returns-clause-resolve : goal.returns-clause-resolve
returns-clause-resolve c =
    rw (sym c.into_vec-draft-items.ensures, sym c.into_iter-draft-iterator.ensures.into_iter_gives.0) (all_steps c.args.bytes.now c.args.tokens.now c.args.names.now c.into_iter-draft-iterator.result.rest.items c.loop-draft.steps c.loop-draft.draft-iterator.rest.items (sym c.loop-draft.draft-iterator.rest.ok.0 ∙ c.in-None.ensures.steps.0) c.loop-draft.invariant)
