use Rattle.std.proofs.Common.{rules, arith, refl, ◌≡◌, ◌-◌, ◌<◌, ◌≤◌, length, get_or, ◌^◌, sym, ap, ◌∙◌}
use Rattle.std.specs.Prelude.{vec_len, vec_capacity}
use Rattle.std.proofs.lemmas.List.{length-map, length-set, get_or_read}
use Rattle.uc_rows.specs.declared.facts.FactRow.{FactRow}
use Rattle.uc_rows.specs.RowViews.{FactsView}
use Rattle.uc_rows.specs.FactRows.{meetings_of}
use Rattle.uc_rows.proofs.Items.{change-set, change-past, back-le, back-at}
use Rattle.uc_rows.proofs.FactRows.{rows-set, met-set}
use Rattle.uc_rows.proofs.facts.Facts.settle.Goals as goal

pub returns-then-number-len : goal.returns-then-number-len
returns-then-number-len c =
    let a : length (meetings_of c.self.inside.rows.items) ≡ length c.args.self.now.meetings = ap (λ (v : FactsView). length v.meetings) c.self.view_is in
    let b : length (meetings_of c.self.inside.rows.items) ≡ length c.self.inside.rows.items = length-map c.self.inside.rows.items (λ (r : FactRow). r.meeting) in
    let l : length c.args.self.now.meetings ≤ c.args.fact = omega arith in
    ap (λ ms. (let v : FactsView = record { front = c.args.self.now.front; meetings = ms; room = c.args.self.now.room } in v)) (sym (change-past (λ x. c.args.meeting) c.args.self.now.meetings c.args.fact l))

pub invariant_of-self : goal.invariant_of-self
invariant_of-self c =
    let x = c.index_mut.result.now in
    let items = c.self.inside.rows.items in
    let y : FactRow = record x { meeting = c.args.meeting } in
    let l : c.args.fact < length items = omega arith in
    let at : x ≡ get_or items c.args.fact x = search (rules, c.index_mut.ensures.value) in
    let to : c.back_to-self-inside.result ≤ c.self.inside.unmet_from = back-le c.is_unmet.result c.self.inside.unmet_from c.args.fact c.back_to-self-inside.result c.back_to-self-inside.ensures in
    let old : c.self.inside.unmet_from ≤ length items = c.self.invariant.within in
    let few : length items ≤ 2 ^ 31 = c.self.invariant.few in
    record {
      rows = rows-set c.self.inside.front.entries items c.args.fact y (λ d. ap (λ (r : FactRow). r.is_dead) (get_or_read items c.args.fact x l at d)) (λ d. ap (λ (r : FactRow). r.weight) (get_or_read items c.args.fact x l at d)) c.self.invariant.rows;
      met = met-set items c.args.fact c.self.inside.unmet_from c.back_to-self-inside.result y l to (λ e. back-at c.is_unmet.result c.self.inside.unmet_from c.args.fact c.back_to-self-inside.result c.back_to-self-inside.ensures (c.is_unmet.ensures ∙ e)) c.self.invariant.met;
      within = omega (arith, length-set items c.args.fact y);
      few = omega (arith, length-set items c.args.fact y);
    }

pub returns : goal.returns
returns c =
    rw (← c.self.view_is) (ap (λ ms. (let v : FactsView = record { front = c.self.inside.front; meetings = ms; room = vec_capacity c.self.inside.rows - vec_len c.self.inside.rows } in v))
    (change-set (λ (r : FactRow). r.meeting) (λ x. c.args.meeting) c.self.inside.rows.items c.args.fact (record c.index_mut.result.now { meeting = c.args.meeting }) (omega arith) (λ d. refl)))
