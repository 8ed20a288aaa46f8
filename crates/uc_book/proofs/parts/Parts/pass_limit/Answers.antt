use Rattle.std.proofs.Common.{arith, ◌≡◌, ◌<◌, length, ap, ◌∙◌}
use Rattle.uc_machine.specs.declared.event.Verdict.TheVariants.{PairsOut}
use Rattle.uc_machine.specs.declared.event.Happening.TheVariants.{CommitMeet}
use Rattle.uc_machine.specs.State.{State, Out}
use Rattle.uc_machine.specs.Effects.{closes, is_met, accepts}
use Rattle.uc_book.specs.Parts.{state_of}
use Rattle.uc_book.proofs.Standing.{row_out}
use Rattle.uc_book.proofs.Taking.{settled_state}
use Rattle.uc_book.proofs.parts.Parts.pass_limit.Goals as goal

pub index-requires : goal.index-requires
index-requires c = (let l : c.args.at < length c.args.self.now.tasks.items = c.requires.at.1.inside in omega arith)

pub accept-requires-clause-at : goal.accept-requires-clause-at
accept-requires-clause-at c = c.requires.at

pub accept-requires-clause-can : goal.accept-requires-clause-can
accept-requires-clause-can c = c.requires.can

pub close-requires : goal.close-requires
close-requires c = omega (arith, c.accept.ensures.rest.history, c.accept.ensures.rest.capacity, c.requires.room)

pub returns-clause-state : goal.returns-clause-state
returns-clause-state c = λ t s. (let p = c.args.self.now in
    let row = c.index.result.now in
    let worker : row.worker ≡ t.worker = ap (λ (u : Out). u.worker) (row_out p.tasks.items c.args.at t row s c.index.ensures) in
    let met : State = is_met c.args.fact (accepts t (CommitMeet c.args.fact 0 0) (state_of p)) in
    c.close.ensures.state
    ∙ ap (λ x. closes row.worker (PairsOut c.args.waiting c.args.new) x) (settled_state c.accept.new.self c.settle.new.self c.args.fact c.settle.ensures ∙ ap (is_met c.args.fact) (c.accept.ensures.state t s))
    ∙ ap (λ w. closes w (PairsOut c.args.waiting c.args.new) met) worker)
