use Rattle.std.proofs.Common.{arith, ◌≡◌, ◌<◌, length, sym, subst, Some, None}
use Rattle.uc_machine.specs.declared.state.Meeting.{Meeting}
use Rattle.uc_machine.specs.Lists.{At, first, map_option}
use Rattle.uc_machine.specs.State.{is_unmet}
use Rattle.uc_rows.specs.RowViews.{FactsView}
use Rattle.uc_rows.specs.FactRows.{NoneUnmetBelow}
use Rattle.uc_rows.proofs.FactRows.{fact_found, no_fact, none_further}
use Rattle.uc_rows.proofs.facts.Facts.first_unmet.Goals as goal

pub returns-then-number-len-clause-found : goal.returns-then-number-len-clause-found
returns-then-number-len-clause-found c =
    let items = c.self.inside.rows.items in
    let none = rw c.as_slice.ensures.value at c.unmet_from-number.ensures.none in
    let below : NoneUnmetBelow c.unmet_from-number.result items = none_further items c.self.inside.unmet_from c.unmet_from-number.result c.self.invariant.met none in
    subst (λ (v : FactsView). None ≡ map_option (λ (f : At Meeting). f.number) (first is_unmet v.meetings)) c.self.view_is (sym (no_fact items c.unmet_from-number.result (omega arith) below))

pub returns-clause-found : goal.returns-clause-found
returns-clause-found c =
    let items = c.self.inside.rows.items in
    let none = rw c.as_slice.ensures.value at c.unmet_from-number.ensures.none in
    let some = rw c.as_slice.ensures.value at c.unmet_from-number.ensures.some in
    let below : NoneUnmetBelow c.unmet_from-number.result items = none_further items c.self.inside.unmet_from c.unmet_from-number.result c.self.invariant.met none in
    let l : c.unmet_from-number.result < length items = omega arith in
    subst (λ (v : FactsView). Some c.unmet_from-number.result ≡ map_option (λ (f : At Meeting). f.number) (first is_unmet v.meetings)) c.self.view_is (sym (fact_found items c.unmet_from-number.result l (λ d. some d l) below))
