use Rattle.std.proofs.Common.{arith, refl, ◌≡◌, ℕ, ◌<◌, ◌≤◌, ◌^◌, length, None, ◌∙◌, ap}
use Rattle.std.specs.Prelude.{Vec}
use Rattle.std.specs.declared.alloc.Global.{Global}
use Rattle.uc_machine.specs.declared.event.Verdict.TheVariants.{PairsOut}
use Rattle.uc_machine.specs.State.{Opening}
use Rattle.uc_machine.specs.Effects.{closes}
use Rattle.uc_machine.specs.Runs.{Starts, axiom_pairs, opened}
use Rattle.uc_book.specs.declared.parts.Parts.{Parts}
use Rattle.uc_rows.specs.declared.tasks.TaskRow.{TaskRow}
use Rattle.uc_rows.specs.RowViews.{FactsView, PairsView}
use Rattle.uc_book.specs.Parts.{state_of, closings}
use Rattle.uc_book.proofs.Standing.{closed_fit, closed_room}
use Rattle.uc_book.proofs.Beginning.{started, started_out}
use Rattle.std.proofs.lemmas.Result.{IfOk-weaker}
use Rattle.uc_book.proofs.parts.Parts.start.Goals as goal

pub returns-then-axioms-limit-clause-starts : goal.returns-then-axioms-limit-clause-starts
returns-then-axioms-limit-clause-starts c = λ budget.
    (let o : Opening = record { axioms = c.args.problem.now.axioms; goals = c.args.problem.now.goals; budget = budget; limit = c.args.limit } in
    let len : length c.as_slice-axioms.result.now ≡ length c.args.problem.now.axioms = ap length c.as_slice-axioms.ensures in
    let l : c.args.limit < length c.args.problem.now.axioms = omega arith in
    started_out o (state_of c.in_ok-parts.parts) (state_of c.close.new.self) c.in_ok-new.field-0.pairs l c.in_ok-new.ensures.pairs (c.in_ok-parts.ensures.state o refl)
    (c.close.ensures.state ∙ ap (λ v. closes 0 v (state_of c.in_ok-parts.parts)) (c.too_many.ensures ∙ ap (PairsOut 0) len)))

pub returns-then-axioms-limit-clause-fit : goal.returns-then-axioms-limit-clause-fit
returns-then-axioms-limit-clause-fit c = λ shelf.
    closed_fit shelf c.in_ok-parts.parts c.close.new.self 0 c.too_many.result (c.in_ok-parts.ensures.fit shelf) c.close.ensures.state (ap (λ (f : FactsView). f.front) c.close.ensures.subjects.facts) c.close.ensures.tasks.1 (ap (λ (ts : Vec TaskRow Global). ts.items) c.close.ensures.tasks.0)

pub returns-then-axioms-limit-clause-room : goal.returns-then-axioms-limit-clause-room
returns-then-axioms-limit-clause-room c =
    closed_room c.in_ok-parts.parts c.close.new.self 0 c.too_many.result c.in_ok-parts.ensures.room c.in_ok-parts.ensures.verdict c.close.ensures.state (ap (λ (ts : Vec TaskRow Global). ts.items) c.close.ensures.tasks.0) c.close.ensures.history c.close.ensures.capacity (ap (λ (v : PairsView). v.spare) c.close.ensures.subjects.pairs)

pub close-requires : goal.close-requires
close-requires c = (let r = c.in_ok-parts.ensures.room in let n = ap closings c.in_ok-parts.ensures.verdict in omega (arith, n, r.events))

pub axiom_pairs-requires : goal.axiom_pairs-requires
axiom_pairs-requires c = (let len : length c.as_slice-axioms.result.now ≡ length c.args.problem.now.axioms = ap length c.as_slice-axioms.ensures in omega (arith, c.in_ok-check_counts.ensures.axioms))

pub returns-clause-axioms : goal.returns-clause-axioms
returns-clause-axioms c = IfOk-weaker c.opened-2.result (λ (p : Parts). p.verdict ≡ None) (λ (p : Parts). length c.args.problem.now.axioms < 2 ^ 31) (λ p h. c.in_ok-check_counts.ensures.axioms) c.opened-2.ensures.verdict

pub returns-clause-goals : goal.returns-clause-goals
returns-clause-goals c = IfOk-weaker c.opened-2.result (λ (p : Parts). p.verdict ≡ None) (λ (p : Parts). length c.args.problem.now.goals < 2 ^ 31) (λ p h. c.in_ok-check_counts.ensures.goals) c.opened-2.ensures.verdict

pub returns-clause-starts : goal.returns-clause-starts
returns-clause-starts c = IfOk-weaker c.opened-2.result
    (λ (p : Parts). (o : Opening) → o.goals ≡ c.args.problem.now.goals → state_of p ≡ opened o c.in_ok-axiom_pairs.field-0.pairs)
    (λ (p : Parts). (budget : ℕ) → Starts (record { axioms = c.args.problem.now.axioms; goals = c.args.problem.now.goals; budget = budget; limit = c.args.limit }) (state_of p))
    (λ p h budget.
    (let o : Opening = record { axioms = c.args.problem.now.axioms; goals = c.args.problem.now.goals; budget = budget; limit = c.args.limit } in
    let len : length c.as_slice-axioms.result.now ≡ length c.args.problem.now.axioms = ap length c.as_slice-axioms.ensures in
    let l : length c.args.problem.now.axioms ≤ c.args.limit = omega arith in
    started o (state_of p) c.in_ok-axiom_pairs.field-0.pairs l (c.in_ok-axiom_pairs.ensures.pairs ∙ ap (axiom_pairs 0) c.as_slice-axioms.ensures) (h o refl)))
    c.opened-2.ensures.state
