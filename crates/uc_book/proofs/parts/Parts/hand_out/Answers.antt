use Rattle.std.proofs.Common.{◌≡◌, ◌+◌, ◌++◌, ◌∷◌, [], length, map, ap, ◌∙◌}
use Rattle.uc_shelf.specs.Sights.{Sight}
use Rattle.uc_machine.specs.Lists.{change}
use Rattle.uc_machine.specs.Effects.{draw_event, one_drawn, unit_of}
use Rattle.uc_rows.specs.TaskRows.{out_of}
use Rattle.uc_book.specs.Parts.{state_of}
use Rattle.uc_book.proofs.Handing.{handed, out_more}
use Rattle.uc_book.proofs.parts.Parts.hand_out.Goals as goal

pub returns-clause-state : goal.returns-clause-state
returns-clause-state c =
    let p = c.args.self.now in
    let q = c.take.new.self in
    let row = c.args.row in
    let tasks : c.push_reserved.new.self.items ≡ p.tasks.items ++ row ∷ [] = c.push_reserved.ensures.items ∙ ap (λ ts. ts.items ++ row ∷ []) c.take.ensures.rest.tasks in
    let reserved : q.reserved + c.units.result ≡ p.reserved + unit_of row.job = ap (λ n. n + c.units.result) c.take.ensures.rest.reserved ∙ ap (λ n. p.reserved + n) c.units.ensures in
    let numbers : c.count_draw.new.numbers.items ≡ change one_drawn p.numbers.items row.worker = c.count_draw.ensures ∙ ap (λ ns. change one_drawn ns.items row.worker) c.take.ensures.rest.numbers in
    let what : c.draw_event-what.result ≡ draw_event row.job (length p.facts.front.entries) = c.draw_event-what.ensures ∙ ap (draw_event row.job) (c.len.ensures.value ∙ ap (λ (f : Sight). length f.entries) c.requires.front) in
    let history : c.push_reserved-2.new.self.items ≡ p.history.items ++ record { worker = row.worker; what = draw_event row.job (length p.facts.front.entries) } ∷ []
    = c.push_reserved-2.ensures.items ∙ ap (λ h. h.items ++ record { worker = row.worker; what = c.draw_event-what.result } ∷ []) c.take.ensures.rest.history ∙ ap (λ e. p.history.items ++ record { worker = row.worker; what = e } ∷ []) what in
    handed (state_of p) (state_of q) row.worker p.next row.job (map out_of c.push_reserved.new.self.items) (q.reserved + c.units.result) c.count_draw.new.numbers.items c.push_reserved-2.new.self.items
    c.take.ensures.state c.requires.next (out_more p.tasks.items c.push_reserved.new.self.items row p.next p.facts.front tasks c.requires.ticket c.requires.front) reserved numbers history
