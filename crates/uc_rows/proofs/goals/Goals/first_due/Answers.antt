use Rattle.std.proofs.Common.{arith, ◌≡◌, ◌<◌, length, sym, subst, List, Some, None}
use Rattle.uc_machine.specs.Lists.{At, first, map_option}
use Rattle.uc_machine.specs.State.{Target, is_due}
use Rattle.uc_rows.specs.GoalRows.{NoneBelow}
use Rattle.uc_rows.proofs.GoalRows.{goal_found, no_goal, none_further}
use Rattle.uc_rows.proofs.goals.Goals.first_due.Goals as goal

pub returns-then-number-len-clause-found : goal.returns-then-number-len-clause-found
returns-then-number-len-clause-found c =
    let items = c.self.inside.rows.items in
    let none = rw c.as_slice.ensures.value at c.due_from-number.ensures.none in
    let below : NoneBelow is_due c.due_from-number.result items = none_further is_due items c.self.inside.due_from c.due_from-number.result c.self.invariant.due none in
    subst (λ (gs : List Target). None ≡ map_option (λ (f : At Target). f.number) (first (λ (g : Target). is_due g.stage) gs)) c.self.view_is (sym (no_goal is_due items c.due_from-number.result (omega arith) below))

pub returns-clause-found : goal.returns-clause-found
returns-clause-found c =
    let items = c.self.inside.rows.items in
    let none = rw c.as_slice.ensures.value at c.due_from-number.ensures.none in
    let some = rw c.as_slice.ensures.value at c.due_from-number.ensures.some in
    let below : NoneBelow is_due c.due_from-number.result items = none_further is_due items c.self.inside.due_from c.due_from-number.result c.self.invariant.due none in
    let l : c.due_from-number.result < length items = omega arith in
    subst (λ (gs : List Target). Some c.due_from-number.result ≡ map_option (λ (f : At Target). f.number) (first (λ (g : Target). is_due g.stage) gs)) c.self.view_is (sym (goal_found is_due items c.due_from-number.result l (λ d. some d l) below))
