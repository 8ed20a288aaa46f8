use Rattle.std.proofs.Common.{◌<◌, ◌++◌, ◌∷◌, [], subst, arith}
use Rattle.uc_table.specs.Tables.{AreValues}
use Rattle.uc_table.proofs.SearchOrder.{below_behind}
use Rattle.uc_table.proofs.SearchGoing.{stepped_back}
use Rattle.uc_table.proofs.search_size.step_back.Goals as goal

pub returns-clause-back : goal.returns-clause-back
returns-clause-back c = stepped_back c.args.rules.now c.args.state.now.prefix.items c.take_back.new.state.prefix.items c.take_back.result c.take_back.ensures.prefix c.requires.open.sound.short

pub returns-clause-small : goal.returns-clause-small
returns-clause-small c =
    let new = c.take_back.new.state.prefix.items in
    let v = c.take_back.result in
    let a : AreValues c.args.rules.now.size (new ++ v ∷ []) = subst (AreValues c.args.rules.now.size) c.take_back.ensures.prefix c.requires.open.sound.values in
    let b : AreValues c.args.rules.now.size (v ∷ []) = below_behind c.args.rules.now.size new (v ∷ []) a in
    let l : v < c.args.rules.now.size = b.0 in
    omega arith
