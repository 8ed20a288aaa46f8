use Rattle.std.proofs.Common.{arith, refl, ◌≡◌, ◌≤◌, ◌++◌, ◌∷◌, [], length, sym, ◌∙◌, ap, subst}
use Rattle.std.specs.Prelude.{vec_len, vec_capacity, Vec}
use Rattle.std.specs.declared.alloc.Global.{Global}
use Rattle.boxcar.specs.Table.{Shelves}
use Rattle.uc_shelf.specs.Sights.{Sight}
use Rattle.uc_shelf.specs.Fronts.{IsOf}
use Rattle.uc_shelf.specs.Entries.{born}
use Rattle.uc_shelf.specs.declared.entry.Entry.TheVariants.{Born}
use Rattle.uc_machine.specs.declared.event.Event.{Event}
use Rattle.uc_machine.specs.Effects.{publishes}
use Rattle.uc_book.specs.declared.parts.Parts.{Parts}
use Rattle.uc_machine.specs.declared.event.Verdict.TheVariants.{BudgetOut}
use Rattle.uc_rows.specs.declared.tasks.TaskRow.{TaskRow}
use Rattle.uc_rows.specs.RowViews.{FactsView, PairsView}
use Rattle.uc_book.specs.Openings.{opening_of}
use Rattle.uc_book.specs.Parts.{state_of, closings, IsSteady}
use Rattle.uc_book.proofs.Steady.{on_err, steady_fit, steady_room, steady_len, steady_events, steady_after, closings_few}
use Rattle.uc_book.proofs.Fitting.{joins}
use Rattle.uc_book.proofs.Publishing.{audit_kept, audited_fit, keeps_state, spent_audit}
use Rattle.uc_book.proofs.Standing.{closed_fit, closed_room}
use Rattle.uc_book.proofs.parts.Parts.audit_open.Goals as goal

pub returns-in_err-reserve-clause-err : goal.returns-in_err-reserve-clause-err
returns-in_err-reserve-clause-err g c =
    let p = c.args.self.now in
    let q : Parts = record p { history = c.reserve.new.self } in
    on_err c.from_residual.result ((steady_events p c.reserve.new.self c.reserve.ensures.items c.reserve.ensures.capacity).state, refl)

pub returns-in_err-reserve-clause-fit : goal.returns-in_err-reserve-clause-fit
returns-in_err-reserve-clause-fit g c = steady_fit c.args.opening.now.shelf c.args.self.now (record c.args.self.now { history = c.reserve.new.self }) (steady_events c.args.self.now c.reserve.new.self c.reserve.ensures.items c.reserve.ensures.capacity) c.requires.can.fit

pub returns-in_err-reserve-clause-room : goal.returns-in_err-reserve-clause-room
returns-in_err-reserve-clause-room g c = steady_room c.args.self.now (record c.args.self.now { history = c.reserve.new.self }) (steady_events c.args.self.now c.reserve.new.self c.reserve.ensures.items c.reserve.ensures.capacity) c.requires.can.room

pub with_birth-requires : goal.with_birth-requires
with_birth-requires g c = subst (λ (s : Shelves). IsOf s c.args.self.now.facts.front) (sym c.requires.shelf) c.requires.can.fit.front

pub returns-in_err-front-clause-err : goal.returns-in_err-front-clause-err
returns-in_err-front-clause-err g c =
    let p = c.args.self.now in
    let q = c.with_birth.new.self in
    let s : IsSteady p q = steady_after p (record p { history = c.reserve.new.self }) q (steady_events p c.reserve.new.self c.reserve.ensures.items c.reserve.ensures.capacity) c.with_birth.ensures.steady in
    on_err c.from_residual-in_err-front.result (s.state, s.front)

pub returns-in_err-front-clause-fit : goal.returns-in_err-front-clause-fit
returns-in_err-front-clause-fit g c = steady_fit c.args.opening.now.shelf c.args.self.now c.with_birth.new.self (steady_after c.args.self.now (record c.args.self.now { history = c.reserve.new.self }) c.with_birth.new.self (steady_events c.args.self.now c.reserve.new.self c.reserve.ensures.items c.reserve.ensures.capacity) c.with_birth.ensures.steady) c.requires.can.fit

pub returns-in_err-front-clause-room : goal.returns-in_err-front-clause-room
returns-in_err-front-clause-room g c = steady_room c.args.self.now c.with_birth.new.self (steady_after c.args.self.now (record c.args.self.now { history = c.reserve.new.self }) c.with_birth.new.self (steady_events c.args.self.now c.reserve.new.self c.reserve.ensures.items c.reserve.ensures.capacity) c.with_birth.ensures.steady) c.requires.can.room

pub publish-requires-clause-grew : goal.publish-requires-clause-grew
publish-requires-clause-grew g c = record {
  fact = c.args.fact;
  is = c.in_ok-front.ensures.entries ∙ ap (λ (x : Sight). x.entries ++ Born c.args.fact ∷ []) (sym c.with_birth.ensures.steady.front);
  weight_is = omega (arith, c.nodes.ensures.value, c.nodes-2.ensures.value);
}

pub publish-requires-clause-room : goal.publish-requires-clause-room
publish-requires-clause-room g c = c.in_ok-front.ensures.room

pub spend-requires : goal.spend-requires
spend-requires g c = (let n = ap closings c.requires.open in omega (arith, n, c.requires.can.room.events))

pub returns-then-self-budget-clause-audited : goal.returns-then-self-budget-clause-audited
returns-then-self-budget-clause-audited g c =
    let p = c.args.self.now in
    spent_audit (opening_of c.args.opening.now) c.args.fact (state_of p) (state_of c.spend.new.self) c.spend.result c.requires.open (c.if-self-budget.true ∙ c.budget.ensures) c.spend.ensures.verdict c.spend.ensures.state

pub returns-then-self-budget-clause-fit : goal.returns-then-self-budget-clause-fit
returns-then-self-budget-clause-fit g c =
    closed_fit c.args.opening.now.shelf c.args.self.now c.spend.new.self 0 (BudgetOut c.args.self.now.counted) c.requires.can.fit c.spend.ensures.state (ap (λ (f : FactsView). f.front) c.spend.ensures.subjects.facts) c.spend.ensures.tasks.1 (ap (λ (ts : Vec TaskRow Global). ts.items) c.spend.ensures.tasks.0)

pub returns-then-self-budget-clause-room : goal.returns-then-self-budget-clause-room
returns-then-self-budget-clause-room g c =
    closed_room c.args.self.now c.spend.new.self 0 (BudgetOut c.args.self.now.counted) c.requires.can.room c.requires.open c.spend.ensures.state (ap (λ (ts : Vec TaskRow Global). ts.items) c.spend.ensures.tasks.0) c.spend.ensures.history c.spend.ensures.capacity (ap (λ (v : PairsView). v.spare) c.spend.ensures.subjects.pairs)

pub returns-clause-audited : goal.returns-clause-audited
returns-clause-audited g c =
    let p = c.args.self.now in
    let s : IsSteady p c.with_birth.new.self = steady_after p (record p { history = c.reserve.new.self }) c.with_birth.new.self (steady_events p c.reserve.new.self c.reserve.ensures.items c.reserve.ensures.capacity) c.with_birth.ensures.steady in
    let entries = c.in_ok-front.ensures.entries ∙ ap (λ (x : Sight). x.entries ++ Born c.args.fact ∷ []) (sym c.with_birth.ensures.steady.front) in
    let number : c.count-number.result ≡ length (born p.facts.front.entries) = c.count-number.ensures.value ∙ ap (λ (x : Sight). length (born x.entries)) s.front in
    audit_kept (opening_of c.args.opening.now) c.args.fact (state_of p) _ c.count-number.result c.requires.open (λ e. c.if-self-budget.false (e ∙ sym c.budget.ensures)) number
    (keeps_state (state_of p) c.publish.new.self c.args.fact c.count-number.result c.push_reserved.new.self (c.publish.ensures.state c.args.fact entries ∙ ap (publishes c.args.fact) s.state) c.push_reserved.ensures.items)

pub returns-clause-fit : goal.returns-clause-fit
returns-clause-fit g c =
    let p = c.args.self.now in
    let s : IsSteady p c.with_birth.new.self = steady_after p (record p { history = c.reserve.new.self }) c.with_birth.new.self (steady_events p c.reserve.new.self c.reserve.ensures.items c.reserve.ensures.capacity) c.with_birth.ensures.steady in
    let entries = c.in_ok-front.ensures.entries ∙ ap (λ (x : Sight). x.entries ++ Born c.args.fact ∷ []) (sym c.with_birth.ensures.steady.front) in
    audited_fit c.args.opening.now.shelf p _ c.args.fact c.count-number.result c.requires.can.fit
    (keeps_state (state_of p) c.publish.new.self c.args.fact c.count-number.result c.push_reserved.new.self (c.publish.ensures.state c.args.fact entries ∙ ap (publishes c.args.fact) s.state) c.push_reserved.ensures.items)
    (subst (λ (x : Sight). IsOf c.args.opening.now.shelf x) (sym c.publish.ensures.front) (subst (λ (h : Shelves). IsOf h c.in_ok-front.front) c.requires.shelf c.in_ok-front.ensures.of))
    (c.publish.ensures.rest.next ∙ s.next) (ap (λ (ts : Vec TaskRow Global). ts.items) c.publish.ensures.rest.tasks ∙ s.tasks)

pub push_reserved-requires : goal.push_reserved-requires
push_reserved-requires g c =
    let p = c.args.self.now in
    let q : Parts = record p { history = c.reserve.new.self } in
    let l : vec_len c.publish.new.self.history ≡ vec_len c.with_birth.new.self.history = ap (λ (es : Vec Event Global). vec_len es) c.publish.ensures.rest.history in
    let k : vec_capacity c.publish.new.self.history ≡ vec_capacity c.with_birth.new.self.history = ap (λ (es : Vec Event Global). vec_capacity es) c.publish.ensures.rest.history in
    let m : vec_len c.with_birth.new.self.history ≡ vec_len c.reserve.new.self = steady_len q c.with_birth.new.self c.with_birth.ensures.steady in
    let n : vec_capacity c.reserve.new.self ≤ vec_capacity c.with_birth.new.self.history = c.with_birth.ensures.steady.capacity in
    let ok = c.in_ok-reserve.ensures.ok in
    omega (arith, ok)

pub returns-clause-room : goal.returns-clause-room
returns-clause-room g c =
    let p = c.args.self.now in
    let q : Parts = record p { history = c.reserve.new.self } in
    let s : IsSteady p c.with_birth.new.self = steady_after p q c.with_birth.new.self (steady_events p c.reserve.new.self c.reserve.ensures.items c.reserve.ensures.capacity) c.with_birth.ensures.steady in
    let l : vec_len c.publish.new.self.history ≡ vec_len c.with_birth.new.self.history = ap (λ (es : Vec Event Global). vec_len es) c.publish.ensures.rest.history in
    let k : vec_capacity c.publish.new.self.history ≡ vec_capacity c.with_birth.new.self.history = ap (λ (es : Vec Event Global). vec_capacity es) c.publish.ensures.rest.history in
    let m : vec_len c.with_birth.new.self.history ≡ vec_len c.reserve.new.self = steady_len q c.with_birth.new.self c.with_birth.ensures.steady in
    let n : vec_capacity c.reserve.new.self ≤ vec_capacity c.with_birth.new.self.history = c.with_birth.ensures.steady.capacity in
    let ts : length c.publish.new.self.tasks.items ≡ length p.tasks.items = ap length (ap (λ (ts : Vec TaskRow Global). ts.items) c.publish.ensures.rest.tasks ∙ s.tasks) in
    let js : joins c.publish.new.self.tasks.items ≡ joins p.tasks.items = ap joins (ap (λ (ts : Vec TaskRow Global). ts.items) c.publish.ensures.rest.tasks ∙ s.tasks) in
    let i : joins p.tasks.items ≤ p.pairs.spare = c.requires.can.room.waiting in
    let w : c.publish.new.self.pairs.spare ≡ c.with_birth.new.self.pairs.spare = ap (λ (x : PairsView). x.spare) c.publish.ensures.rest.pairs in
    let b : p.pairs.spare ≤ c.with_birth.new.self.pairs.spare = s.spare in
    let v : closings c.publish.new.self.verdict ≤ 1 = closings_few c.publish.new.self.verdict in
    let e : vec_len p.tasks ≡ length p.tasks.items = p.tasks.ok.0 in
    let ok = c.in_ok-reserve.ensures.ok in
    record { events = omega (arith, ok, c.push_reserved.ensures.len, c.push_reserved.ensures.capacity); waiting = omega arith }
