use Rattle.std.proofs.Common.{rules, arith, ◌≡◌, ◌<◌, length, get_or, sym, ap}
use Rattle.std.proofs.lemmas.List.{length-map, get_or_read}
use Rattle.uc_rows.specs.declared.goals.GoalRow.{GoalRow}
use Rattle.uc_machine.specs.State.{Target}
use Rattle.uc_rows.specs.GoalRows.{target_of, targets_of}
use Rattle.uc_rows.proofs.Items.{change-set, change-past}
use Rattle.uc_rows.proofs.goals.Goals.turn.Goals as goal

pub returns-then-number-len : goal.returns-then-number-len
returns-then-number-len c =
    let a : length (targets_of c.self.inside.rows.items) ≡ length c.args.self.now = ap length c.self.view_is in
    let b : length (targets_of c.self.inside.rows.items) ≡ length c.self.inside.rows.items = length-map c.self.inside.rows.items target_of in
    sym (change-past (λ (x : Target). record x { stage = c.args.stage }) c.args.self.now c.args.goal (omega arith))

pub returns : goal.returns
returns c =
    let x = c.index_mut.result.now in
    let items = c.self.inside.rows.items in
    let l : c.args.goal < length items = omega arith in
    let at : x ≡ get_or items c.args.goal x = search (rules, c.index_mut.ensures.value) in
    rw (← c.self.view_is) (change-set target_of (λ (t : Target). record t { stage = c.args.stage }) items c.args.goal (record x { stage = c.args.stage }) l
    (λ d. ap (λ (r : GoalRow). (let t : Target = record { left = r.left; right = r.right; stage = c.args.stage } in t)) (get_or_read items c.args.goal x l at d)))
