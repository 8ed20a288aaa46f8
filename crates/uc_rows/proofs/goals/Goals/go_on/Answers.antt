use Rattle.std.proofs.Common.{arith, ◌≡◌, ◌<◌, length, ap, ◌∙◌}
use Rattle.std.proofs.lemmas.List.{length-map, get_or_read}
use Rattle.uc_rows.specs.declared.goals.GoalRow.{GoalRow}
use Rattle.uc_machine.specs.Effects.{goes_on}
use Rattle.uc_rows.specs.GoalRows.{target_of, targets_of}
use Rattle.uc_rows.proofs.Items.{change-set, on_ok}
use Rattle.uc_rows.proofs.goals.Goals.go_on.Goals as goal

pub returns-clause-ok : goal.returns-clause-ok
returns-clause-ok c =
    let items = c.self.inside.rows.items in
    let x = c.index_mut-row.result.now in
    let a : length (targets_of items) ≡ length c.args.self.now = ap length c.self.view_is in
    let b : length (targets_of items) ≡ length items = length-map items target_of in
    let l : c.args.goal < length items = omega arith in
    on_ok c.go_on.result (λ e. rw (← c.self.view_is) (change-set target_of (goes_on c.args.left c.args.right) items c.args.goal c.go_on.new.row l (λ d. e ∙ ap (λ (r : GoalRow). goes_on c.args.left c.args.right (target_of r)) (get_or_read items c.args.goal x l c.index_mut-row.ensures.value d)))) c.go_on.ensures.ok
