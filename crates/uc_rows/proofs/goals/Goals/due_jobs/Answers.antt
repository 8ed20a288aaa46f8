use Rattle.std.proofs.Common.{◌≡◌, ◌<◌, length, Some, sym, ap, ◌∙◌, subst, List, slice_get}
use Rattle.uc_machine.specs.declared.task.Job.TheVariants.{Goal}
use Rattle.uc_machine.specs.Lists.{map_option}
use Rattle.uc_fact.specs.Chains.{end_of}
use Rattle.uc_machine.specs.State.{Target, is_due}
use Rattle.uc_rows.proofs.Jobs.{found_below, jobs_are}
use Rattle.uc_rows.proofs.goals.Goals.due_jobs.Goals as goal

pub ends-requires : goal.ends-requires
ends-requires c = subst (λ (gs : List Target). c.in-Some.goal < length gs) (sym c.first_due.ensures.same) (found_below (λ (g : Target). is_due g.stage) c.args.self.now c.in-Some.goal (sym c.first_due.ensures.found ∙ c.in-Some.is))

pub returns-clause-jobs : goal.returns-clause-jobs
returns-clause-jobs c =
    let left : map_option (λ (g : Target). end_of g.left) (slice_get c.args.self.now c.in-Some.goal) ≡ Some c.in_ok-copy.field-0 = ap (λ gs. map_option (λ (g : Target). end_of g.left) (slice_get gs c.in-Some.goal)) (sym c.first_due.ensures.same) ∙ c.ends.ensures.left ∙ ap (λ t. Some t) (sym c.in_ok-copy.ensures) in
    let right : map_option (λ (g : Target). end_of g.right) (slice_get c.args.self.now c.in-Some.goal) ≡ Some c.in_ok-copy-2.field-0 = ap (λ gs. map_option (λ (g : Target). end_of g.right) (slice_get gs c.in-Some.goal)) (sym c.first_due.ensures.same) ∙ c.ends.ensures.right ∙ ap (λ t. Some t) (sym c.in_ok-copy-2.ensures) in
    jobs_are (λ (g : Target). is_due g.stage) c.args.self.now c.in-Some.goal (sym c.first_due.ensures.found ∙ c.in-Some.is) Goal c.in_ok-copy.field-0 c.in_ok-copy-2.field-0 c.in_ok-other.other left right c.in_ok-other.ensures
