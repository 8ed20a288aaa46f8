use Rattle.std.proofs.Common.{rules, arith, ◌≡◌, ◌<◌, List, length, get_or, slice_get, sym, ap, ◌∙◌}
use Rattle.std.proofs.lemmas.List.{length-map}
use Rattle.uc_machine.specs.Lists.{map_option}
use Rattle.uc_machine.specs.State.{Target}
use Rattle.uc_rows.specs.GoalRows.{target_of, targets_of}
use Rattle.uc_rows.proofs.Items.{get-at, get-map, get-past}
use Rattle.uc_rows.proofs.goals.Goals.stage.Goals as goal

pub returns-then-number-len : goal.returns-then-number-len
returns-then-number-len c =
    let items = c.self.inside.rows.items in
    let x = c.index.result.now in
    let l : c.args.goal < length items = omega arith in
    let at : x ≡ get_or items c.args.goal x = search (rules, c.index.ensures) in
    sym (ap (λ (gs : List Target). map_option (λ (g : Target). g.stage) (slice_get gs c.args.goal)) (sym c.self.view_is) ∙ ap (map_option (λ (g : Target). g.stage)) (get-map target_of items c.args.goal x (get-at items c.args.goal x l at)))

pub returns-else-number-len : goal.returns-else-number-len
returns-else-number-len c =
    let items = c.self.inside.rows.items in
    let many : length (targets_of items) ≡ length items = length-map items target_of in
    sym (ap (λ (gs : List Target). map_option (λ (g : Target). g.stage) (slice_get gs c.args.goal)) (sym c.self.view_is) ∙ ap (map_option (λ (g : Target). g.stage)) (get-past (targets_of items) c.args.goal (omega (arith, many))))
