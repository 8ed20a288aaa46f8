use Rattle.std.proofs.Common.{arith, ◌≡◌, ◌<◌, length, sym, subst, List, Some, None}
use Rattle.uc_machine.specs.Lists.{At, first, map_option}
use Rattle.uc_machine.specs.State.{Target, is_continued}
use Rattle.uc_rows.specs.GoalRows.{NoneBelow}
use Rattle.uc_rows.proofs.GoalRows.{goal_found, no_goal, none_further}
use Rattle.uc_rows.proofs.goals.Goals.first_continued.Goals as goal

pub returns-then-number-len-clause-found : goal.returns-then-number-len-clause-found
returns-then-number-len-clause-found c =
    let items = c.self.inside.rows.items in
    let none = rw c.as_slice.ensures.value at c.continued_from-number.ensures.none in
    let below : NoneBelow is_continued c.continued_from-number.result items = none_further is_continued items c.self.inside.continued_from c.continued_from-number.result c.self.invariant.continued none in
    subst (λ (gs : List Target). None ≡ map_option (λ (f : At Target). f.number) (first (λ (g : Target). is_continued g.stage) gs)) c.self.view_is (sym (no_goal is_continued items c.continued_from-number.result (omega arith) below))

pub returns-clause-found : goal.returns-clause-found
returns-clause-found c =
    let items = c.self.inside.rows.items in
    let none = rw c.as_slice.ensures.value at c.continued_from-number.ensures.none in
    let some = rw c.as_slice.ensures.value at c.continued_from-number.ensures.some in
    let below : NoneBelow is_continued c.continued_from-number.result items = none_further is_continued items c.self.inside.continued_from c.continued_from-number.result c.self.invariant.continued none in
    let l : c.continued_from-number.result < length items = omega arith in
    subst (λ (gs : List Target). Some c.continued_from-number.result ≡ map_option (λ (f : At Target). f.number) (first (λ (g : Target). is_continued g.stage) gs)) c.self.view_is (sym (goal_found is_continued items c.continued_from-number.result l (λ d. some d l) below))
