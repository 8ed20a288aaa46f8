use Rattle.std.proofs.Common.{arith, ◌≡◌, length, ap}
use Rattle.std.proofs.lemmas.List.{length-map}
use Rattle.uc_rows.specs.GoalRows.{target_of, targets_of}
use Rattle.uc_rows.proofs.goals.Goals.count.Goals as goal

pub returns : goal.returns
returns c =
    let items = c.self.inside.rows.items in
    let a : length (targets_of items) ≡ length c.args.self.now = ap length c.self.view_is in
    let b : length (targets_of items) ≡ length items = length-map items target_of in
    omega (arith, a, b, c.self.inside.rows.ok.0)
