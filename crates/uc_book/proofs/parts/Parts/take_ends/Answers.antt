use Rattle.std.proofs.Common.{rules, arith, refl, ◌≡◌, ◌+◌, ◌≤◌, length, inl, inr, sym, ap, subst}
use Rattle.std.specs.Prelude.{nat_lt}
use Rattle.std.proofs.lemmas.Bool.{cases_Bool}
use Rattle.uc_machine.specs.declared.event.Verdict.TheVariants.{Proved}
use Rattle.uc_machine.specs.declared.event.GoalEnd.TheVariants.{Met as EndsMet}
use Rattle.uc_machine.specs.declared.task.Finding.{Finding}
use Rattle.uc_machine.specs.declared.task.Job.{Job}
use Rattle.uc_rows.specs.RowViews.{FactsView, PairsView}
use Rattle.uc_machine.specs.State.{State}
use Rattle.uc_machine.specs.Effects.{takes_ends}
use Rattle.uc_machine.specs.Commits.{Commits, end_word, steps_of}
use Rattle.uc_book.specs.declared.parts.Parts.{Parts}
use Rattle.uc_book.specs.Openings.{opening_of}
use Rattle.uc_book.specs.Committing.{IsGoalJob, commit_word, stage_by}
use Rattle.uc_book.specs.Parts.{state_of, Fit}
use Rattle.uc_book.proofs.Standing.{can_accept, room_for_two, room_after, proved_fit, rested_fit}
use Rattle.uc_book.proofs.Finishing.{ends_taken, has_goal, few_steps, goal_out, no_draw_of_goal}
use Rattle.uc_book.proofs.parts.Parts.take_ends.Goals as goal

pub goal_of-goal-requires : goal.goal_of-goal-requires
goal_of-goal-requires c = has_goal c.args.done.job c.in-Ends.left c.in-Ends.right c.in-Ends.stop (rw c.in-Ends.is at c.requires.found)

pub overflow_cast-steps : goal.overflow_cast-steps
overflow_cast-steps c = (let f : steps_of c.in-Ends.left c.in-Ends.right ≤ 4096 = few_steps c.args.done.job c.in-Ends.left c.in-Ends.right c.in-Ends.stop (rw c.in-Ends.is at c.requires.found) in omega arith)

pub go_on-requires : goal.go_on-requires
go_on-requires c =
    let t = c.requires.at.0 in
    let stands = c.requires.at.1 in
    let job : IsGoalJob t.job c.goal_of-goal.result = subst (λ (j : Job). IsGoalJob j c.goal_of-goal.result) (sym (c.requires.job t stands)) c.goal_of-goal.ensures in
    goal_out c.args.self.now t.worker t.job c.goal_of-goal.result job (c.requires.can.subjects t stands.found)

pub end_goal-requires-clause-can : goal.end_goal-requires-clause-can
end_goal-requires-clause-can c = λ t stands. (let a = can_accept c.args.opening.now.shelf (opening_of c.args.opening.now) c.args.self.now c.args.at t c.requires.can stands in record { units = a.units; counted = a.counted; small = a.small; room = a.room })

pub end_goal-requires-clause-room : goal.end_goal-requires-clause-room
end_goal-requires-clause-room c = room_for_two c.args.self.now c.args.at c.requires.at.0 c.requires.can.room c.requires.at.1 c.requires.open

pub returns-in-Ok-clause-ok : goal.returns-in-Ok-clause-ok
returns-in-Ok-clause-ok c = λ t stands.
    (let p = c.args.self.now in
    let o = opening_of c.args.opening.now in
    let q : Parts = record p { goals = c.go_on.new.self } in
    let before : state_of q ≡ takes_ends c.goal_of-goal.result c.in-Ends.left c.in-Ends.right (state_of p) = ap (λ gs. (let v : State = record (state_of p) { goals = gs } in v)) c.in-Ok.ensures.ok in
    subst (λ (f : Finding). Commits o t f (state_of p) (state_of c.end_goal.new.self)) (sym c.in-Ends.is)
    (ends_taken o t c.args.done.job c.goal_of-goal.result (c.len.result + c.len-2.result) c.in-Ends.left c.in-Ends.right c.in-Ends.stop (state_of p) (state_of q) (state_of c.end_goal.new.self) c.same-met.result
    c.requires.open (c.requires.job t stands) c.goal_of-goal.ensures (search (rules, c.same-met.ensures, c.end_of.ensures, c.end_of-2.ensures)) (let steps : c.len.result + c.len-2.result ≡ steps_of c.in-Ends.left c.in-Ends.right = omega (arith, c.len.ensures, c.len-2.ensures) in steps) before (c.end_goal.ensures.met t stands) (c.end_goal.ensures.apart t stands)))

pub returns-in-Ok-clause-fit : goal.returns-in-Ok-clause-fit
returns-in-Ok-clause-fit c =
    let p = c.args.self.now in
    let q : Parts = record p { goals = c.go_on.new.self } in
    let r = c.end_goal.new.self in
    let t = c.requires.at.0 in
    let stands = c.requires.at.1 in
    let front = ap (λ (f : FactsView). f.front) c.end_goal.ensures.facts in
    elim (cases_Bool c.same-met.result) as (λ _. Fit c.args.opening.now.shelf r) [
      | inl e ↦ proved_fit c.args.opening.now.shelf p r (state_of q) c.args.at t (commit_word c.args.done.job c.goal_of-goal.result (c.len.result + c.len-2.result) EndsMet) (Proved c.goal_of-goal.result) c.requires.can.fit stands refl refl (c.end_goal.ensures.met t stands e) (no_draw_of_goal c.args.done.job c.goal_of-goal.result (c.len.result + c.len-2.result) EndsMet) c.end_goal.ensures.next c.end_goal.ensures.tasks front
      | inr e ↦ rested_fit c.args.opening.now.shelf p r (state_of q) c.args.at t (commit_word c.args.done.job c.goal_of-goal.result (c.len.result + c.len-2.result) (end_word c.in-Ends.stop)) (stage_by c.in-Ends.stop (nat_lt t.front (length p.facts.front.entries))) c.goal_of-goal.result c.requires.can.fit stands refl refl (c.end_goal.ensures.apart t stands e) (no_draw_of_goal c.args.done.job c.goal_of-goal.result (c.len.result + c.len-2.result) (end_word c.in-Ends.stop)) c.end_goal.ensures.next c.end_goal.ensures.tasks front
    ]

pub returns-in-Ok-clause-room : goal.returns-in-Ok-clause-room
returns-in-Ok-clause-room c =
    let e : c.end_goal.new.self.pairs.spare ≡ c.args.self.now.pairs.spare = ap (λ (v : PairsView). v.spare) c.end_goal.ensures.pairs in
    room_after c.args.self.now c.end_goal.new.self c.args.at c.requires.at.0 c.requires.can.room c.requires.at.1 c.end_goal.ensures.tasks c.end_goal.ensures.history (let k = c.end_goal.ensures.capacity in omega (arith, k)) (omega arith)
