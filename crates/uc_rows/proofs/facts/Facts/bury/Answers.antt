use Rattle.std.proofs.Common.{arith, ◌≡◌, ◌<◌, ◌++◌, length, get_or, take, sym, ap, ◌∙◌, subst}
use Rattle.std.proofs.lemmas.List.{take_more, take_all}
use Rattle.uc_machine.specs.Lists.{change}
use Rattle.uc_rows.specs.RowViews.{FactsView}
use Rattle.uc_rows.specs.FactRows.{meetings_of, AreRows, NoneUnmetBelow}
use Rattle.uc_rows.specs.Deaths.{deaths_by, met_by, dead_row, rows_by}
use Rattle.uc_rows.proofs.BuriedRows.{meetings_by, length-rows_by, rows_more, rows_die, none_unmet}
use Rattle.uc_rows.proofs.facts.Facts.bury.Goals as goal

pub loop-k-preserved : goal.loop-k-preserved
loop-k-preserved c =
    let js = c.args.falls.now in
    let k = c.loop-k.k in
    let old = c.self.inside.rows.items in
    let i = c.loop-k.invariant in
    let l : k < length js = omega arith in
    record {
      rows = c.bury_row.ensures.items ∙ ap (λ z. change dead_row z (get_or js k 0)) i.rows ∙ sym (rows_more (take k js) (get_or js k 0) old) ∙ ap (λ z. rows_by z old) (sym (take_more js k 0 l));
      capacity = c.bury_row.ensures.capacity ∙ i.capacity;
      front = i.front;
      unmet_from = i.unmet_from;
    }

pub invariant_of-self : goal.invariant_of-self
invariant_of-self c =
    let js = c.args.falls.now in
    let old = c.self.inside.rows.items in
    let new = c.loop-k.self-inside.rows.items in
    let es = c.self.inside.front.entries in
    let i = c.loop-k.invariant in
    let e : new ≡ rows_by js old = i.rows ∙ ap (λ z. rows_by z old) (take_all c.loop-k.k js (omega arith)) in
    let g = rw (← c.self.view_is) at c.requires.grew in
    let b = rw (← c.self.view_is) at c.requires.born in
    let from : c.loop-k.self-inside.unmet_from ≡ c.self.inside.unmet_from = i.unmet_from in
    let rows : AreRows (es ++ deaths_by g.killer js) new = subst (AreRows (es ++ deaths_by g.killer js)) (sym e) (rows_die g.killer js es old b c.self.invariant.rows) in
    let met : NoneUnmetBelow c.self.inside.unmet_from new = subst (NoneUnmetBelow c.self.inside.unmet_from) (sym e) (none_unmet js c.self.inside.unmet_from old c.self.invariant.met) in
    let many : length new ≡ length old = ap length e ∙ length-rows_by js old in
    record {
      rows = subst (λ z. AreRows z new) (sym g.is) rows;
      met = subst (λ n. NoneUnmetBelow n new) (sym from) met;
      within = omega (arith, many, from, c.self.invariant.within);
      few = omega (arith, many, c.self.invariant.few);
    }

pub returns-clause-meetings : goal.returns-clause-meetings
returns-clause-meetings c =
    let js = c.args.falls.now in
    let old = c.self.inside.rows.items in
    let e : c.loop-k.self-inside.rows.items ≡ rows_by js old = c.loop-k.invariant.rows ∙ ap (λ z. rows_by z old) (take_all c.loop-k.k js (omega arith)) in
    ap meetings_of e ∙ meetings_by js old ∙ ap (λ (v : FactsView). met_by js v.meetings) c.self.view_is

pub returns-clause-room : goal.returns-clause-room
returns-clause-room c =
    let js = c.args.falls.now in
    let old = c.self.inside.rows in
    let new = c.loop-k.self-inside.rows in
    let e : new.items ≡ rows_by js old.items = c.loop-k.invariant.rows ∙ ap (λ z. rows_by z old.items) (take_all c.loop-k.k js (omega arith)) in
    let many : length new.items ≡ length old.items = ap length e ∙ length-rows_by js old.items in
    omega (arith, many, ap (λ (v : FactsView). v.room) c.self.view_is, c.loop-k.invariant.capacity, new.ok.0, old.ok.0)
