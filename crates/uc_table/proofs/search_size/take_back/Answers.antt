use Rattle.std.proofs.Common.{◌≡◌, ◌-◌, length, take, get_or, rules, arith}
use Rattle.std.proofs.lemmas.Grind.{get_or_default_zero}
use Rattle.uc_table.specs.declared.search_size.State.{State}
use Rattle.uc_table.proofs.SearchLevels.{back_open}
use Rattle.uc_table.proofs.search_size.take_back.Goals as goal

pub returns-clause-open : goal.returns-clause-open
returns-clause-open c =
    let s = c.args.state.now in
    let t : State = record { prefix = c.truncate.new.self; marks = c.truncate-2.new.self; waiting = c.take_back.new.self } in
    let last = c.len-last.result - 1 in
    let l : last ≡ length s.prefix.items - 1 = search rules in
    let m : c.index.result.now ≡ get_or s.marks.items last 0 = grind (arith, get_or_default_zero) in
    let p : t.prefix.items ≡ take last s.prefix.items = search rules in
    let q : t.marks.items ≡ take last s.marks.items = search rules in
    back_open c.args.rules.now s t last c.index.result.now c.requires.set l m p q c.take_back.ensures.taken c.take_back.ensures.well
