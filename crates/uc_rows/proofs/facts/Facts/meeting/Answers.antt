use Rattle.std.proofs.Common.{rules, arith, ◌≡◌, ◌<◌, length, get_or, slice_get, sym, ap, ◌∙◌}
use Rattle.std.proofs.lemmas.List.{length-map}
use Rattle.uc_rows.specs.declared.facts.FactRow.{FactRow}
use Rattle.uc_rows.specs.RowViews.{FactsView}
use Rattle.uc_rows.specs.FactRows.{meetings_of}
use Rattle.uc_rows.proofs.Items.{get-at, get-map, get-past}
use Rattle.uc_rows.proofs.facts.Facts.meeting.Goals as goal

pub returns-then-number-len : goal.returns-then-number-len
returns-then-number-len c =
    let items = c.self.inside.rows.items in
    let x = c.index.result.now in
    let l : c.args.fact < length items = omega arith in
    let at : x ≡ get_or items c.args.fact x = search (rules, c.index.ensures) in
    sym (ap (λ (v : FactsView). slice_get v.meetings c.args.fact) (sym c.self.view_is) ∙ get-map (λ (r : FactRow). r.meeting) items c.args.fact x (get-at items c.args.fact x l at))

pub returns-else-number-len : goal.returns-else-number-len
returns-else-number-len c =
    let items = c.self.inside.rows.items in
    let many : length (meetings_of items) ≡ length items = length-map items (λ (r : FactRow). r.meeting) in
    sym (ap (λ (v : FactsView). slice_get v.meetings c.args.fact) (sym c.self.view_is) ∙ get-past (meetings_of items) c.args.fact (omega (arith, many)))
