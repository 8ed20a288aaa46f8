use Rattle.std.proofs.Common.{rules, ◌≡◌, length, ◌∙◌, ap}
use Rattle.std.specs.Prelude.{nat_lt}
use Rattle.uc_machine.specs.declared.event.GoalEnd.{GoalEnd}
use Rattle.uc_machine.specs.declared.event.Happening.{Happening}
use Rattle.uc_machine.specs.declared.state.Stage.{Stage}
use Rattle.uc_machine.specs.State.{State, Out}
use Rattle.uc_machine.specs.Effects.{stages, accepts}
use Rattle.uc_machine.specs.Commits.{end_word}
use Rattle.uc_rows.specs.TaskRows.{out_of}
use Rattle.uc_book.specs.Committing.{stage_by, commit_word}
use Rattle.uc_book.specs.Parts.{state_of}
use Rattle.uc_book.proofs.Standing.{row_out}
use Rattle.uc_book.proofs.parts.Parts.rest.Goals as goal

pub returns-clause-state : goal.returns-clause-state
returns-clause-state c = λ t stands.
    (let p = c.args.self.now in
    let q = c.accept.new.self in
    let row = c.index.result.now in
    let same : out_of row ≡ t = row_out p.tasks.items c.args.at t row stands c.index.ensures in
    let front : length row.front.entries ≡ t.front = ap (λ (u : Out). u.front) same in
    let stage : c.stage_after.result ≡ stage_by c.args.stop (nat_lt t.front (length p.facts.front.entries)) = search (rules, c.stage_after.ensures, front) in
    let word : c.goal_event.result ≡ commit_word c.args.job.now c.args.goal c.args.steps (end_word c.args.stop) = c.goal_event.ensures ∙ ap (λ (e : GoalEnd). commit_word c.args.job.now c.args.goal c.args.steps e) c.end_word.ensures in
    ap (λ gs. (let v : State = record (state_of q) { goals = gs } in v)) c.turn.ensures ∙ ap (λ (s : State). stages c.stage_after.result c.args.goal s) (c.accept.ensures.state t stands ∙ ap (λ (h : Happening). accepts t h (state_of p)) word)
    ∙ ap (λ (x : Stage). stages x c.args.goal (accepts t (commit_word c.args.job.now c.args.goal c.args.steps (end_word c.args.stop)) (state_of p))) stage)
