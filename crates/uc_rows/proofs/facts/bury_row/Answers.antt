use Rattle.std.proofs.Common.{rules, arith, ◌≡◌, ◌<◌, length, get_or, true, sym, ap, ◌∙◌}
use Rattle.std.proofs.lemmas.List.{get_or_read}
use Rattle.uc_machine.specs.declared.state.Meeting.{Meeting}
use Rattle.uc_rows.specs.declared.facts.FactRow.{FactRow}
use Rattle.uc_rows.specs.Deaths.{dead_row}
use Rattle.uc_rows.proofs.Items.{change-set_plain, change-past}
use Rattle.uc_rows.proofs.facts.bury_row.Goals as goal

abbrev dead_with : FactRow → Meeting → FactRow
dead_with r m = record { meeting = m; is_dead = true; weight = r.weight }

pub returns-then-number-len-clause-items : goal.returns-then-number-len-clause-items
returns-then-number-len-clause-items c =
    let x = c.index-row.result.now in
    let items = c.args.rows.now.items in
    let l : c.args.fact < length items = omega arith in
    let at : x ≡ get_or items c.args.fact x = search (rules, c.index-row.ensures) in
    change-set_plain dead_row items c.args.fact (dead_with x c.without_visit.result) l (λ d. ap (dead_with x) c.without_visit.ensures ∙ ap dead_row (get_or_read items c.args.fact x l at d))

pub returns-else-number-len-clause-items : goal.returns-else-number-len-clause-items
returns-else-number-len-clause-items c = sym (change-past dead_row c.args.rows.now.items c.args.fact (omega arith))
