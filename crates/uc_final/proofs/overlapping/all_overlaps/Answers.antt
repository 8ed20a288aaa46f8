use Rattle.std.proofs.Common.{◌≡◌, ◌∷◌, length, map, sym, ap, subst, ◌∙◌, arith}
use Rattle.uc_task.specs.Living.{live_of}
use Rattle.uc_final.proofs.Gathered.{no_items, refilled, rows_are, Lacks, rows_begin, row_on, rows_end}
use Rattle.uc_final.proofs.overlapping.all_overlaps.Goals as goal

pub loop-row-init : goal.loop-row-init
loop-row-init g c =
    let m = g.O.Order.meaning c.args.order.now in
    let facts = c.args.facts.now in
    let inners = map live_of facts in
    let news = c.fill_rows.new.rows in
    let rest : c.into_iter-row-iterator.result.rest.items ≡ news = c.into_iter-row-iterator.ensures.into_iter_gives.0 ∙ refilled c.in_ok-rows.rows.len news _ (c.fill_rows.ensures.len ∙ c.as_mut_slice.ensures.len) in
    let long : length news ≡ length facts = (let a = c.fill_rows.ensures.len in let b = c.as_mut_slice.ensures.len in let d = c.in_ok-rows.ensures in omega arith) in
    (tt, tt, subst (λ rs. Lacks m inners facts rs c.new-list.result) (sym rest) (rows_begin m inners facts news c.new-list.result c.new-list.ensures (rows_are m inners facts news long c.fill_rows.ensures.each)))

pub loop-row-preserved : goal.loop-row-preserved
loop-row-preserved g c =
    let m = g.O.Order.meaning c.args.order.now in
    let facts = c.args.facts.now in
    let rest = c.next.new.self.rest.items in
    let x = c.in_ok-row.field-0 in
    (tt, tt, row_on m (map live_of facts) facts c.loop-row.row-iterator.rest.items rest c.loop-row.list x c.append.new.self (c.in-Some.ensures.steps.0 ∙ ap (λ r. r ∷ rest) c.in_ok-row.was) c.in_ok-append.ensures.ok c.loop-row.invariant.2)

pub returns : goal.returns
returns g c =
    let left = c.loop-row.row-iterator.rest.items in
    let none = no_items left (sym c.loop-row.row-iterator.rest.ok.0 ∙ c.in-None.ensures.steps.0) in
    rows_end (g.O.Order.meaning c.args.order.now) (map live_of c.args.facts.now) c.args.facts.now left c.loop-row.list none c.loop-row.invariant.2
