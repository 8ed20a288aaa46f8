-- A fact that is published.
use Rattle.std.proofs.Common.{◌≡◌, ℕ, ◌+◌, ◌++◌, ◌∷◌, [], List, length, map, refl, ap, sym, ◌∙◌, arith, subst, None}
use Rattle.std.specs.Prelude.{◌≢◌, Vec}
use Rattle.std.specs.declared.alloc.Global.{Global}
use Rattle.uc_machine.specs.declared.event.Verdict.{Verdict}
use Rattle.uc_machine.specs.declared.event.Verdict.TheVariants.{BudgetOut}
use Rattle.boxcar.specs.Table.{Shelves}
use Rattle.uc_fact.specs.declared.fact.Fact.{Fact}
use Rattle.uc_shelf.specs.Fronts.{IsOf}
use Rattle.uc_shelf.specs.Entries.{born}
use Rattle.uc_shelf.specs.declared.entry.Entry.TheVariants.{Born}
use Rattle.uc_machine.specs.declared.event.Event.{Event}
use Rattle.uc_machine.specs.declared.event.Happening.TheVariants.{AuditKept}
use Rattle.uc_machine.specs.declared.state.Meeting.TheVariants.{Unmet}
use Rattle.uc_machine.specs.Lists.{Each}
use Rattle.uc_machine.specs.State.{State, Opening, Target}
use Rattle.uc_machine.specs.Effects.{wakes, publishes, keeps, closes, next_ticket}
use Rattle.uc_machine.specs.Runs.{Audits, KeptAs, ClosedBy, is_kept, is_spent}
use Rattle.uc_book.specs.declared.parts.Parts.{Parts}
use Rattle.uc_rows.specs.RowViews.{FactsView}
use Rattle.uc_rows.specs.TaskRows.{HasFront}
use Rattle.uc_book.specs.Parts.{state_of, Fit}
use Rattle.uc_book.proofs.Histories.{draws-none}
use Rattle.uc_book.proofs.Fitting.{longer_fronts}

pub published : (p : Parts) (fs : FactsView) (gs : List Target) (f : Fact) → fs.front.entries ≡ p.facts.front.entries ++ Born f ∷ [] → fs.meetings ≡ p.facts.meetings ++ Unmet ∷ [] → gs ≡ map wakes p.goals → (let q : Parts = record p { facts = fs; goals = gs } in state_of q ≡ publishes f (state_of p))
published p fs gs f a b c = cc

-- the answer of an audit that keeps a fact
pub audit_kept : (o : Opening) (f : Fact) (s u : State) (n : ℕ) → s.verdict ≡ None → s.counted ≢ o.budget → n ≡ length (born s.entries) → u ≡ keeps f (AuditKept n) s → Audits o f s (KeptAs n) u
audit_kept o f s u n open_ some e is = subst (λ k. Audits o f s (KeptAs k) u) (sym e) (subst (Audits o f s (KeptAs (length (born s.entries)))) (sym (is ∙ ap (λ k. keeps f (AuditKept k) s) e)) (is_kept open_ some))

-- the parts fit together when a fact was kept by an audit
pub audited_fit : (shelf : Shelves) (p q : Parts) (f : Fact) (n : ℕ) → Fit shelf p → state_of q ≡ keeps f (AuditKept n) (state_of p) → IsOf shelf q.facts.front → q.next ≡ p.next → q.tasks.items ≡ p.tasks.items → Fit shelf q
audited_fit shelf p q f n fit e of next tasks =
    let entries : q.facts.front.entries ≡ p.facts.front.entries ++ Born f ∷ [] = ap (λ (x : State). x.entries) e in
    let l : length q.tasks.items ≡ length p.tasks.items = ap length tasks in
    record {
      front = of;
      next = next ∙ fit.next ∙ sym (ap (λ (x : State). next_ticket x) e ∙ ap length (draws-none p.history.items (record { worker = 0; what = AuditKept n }) refl));
      fronts = subst (λ es. Each (HasFront shelf es) q.tasks.items) (sym entries) (subst (Each (HasFront shelf (p.facts.front.entries ++ Born f ∷ []))) (sym tasks) (longer_fronts shelf p.facts.front.entries (Born f ∷ []) p.tasks.items fit.fronts));
      few = omega (arith, fit.few);
      workers = ap (λ (x : State). length x.numbers) e ∙ fit.workers;
    }

-- one event more, and one unit counted
pub keeps_state : (s : State) (r : Parts) (f : Fact) (n : ℕ) (es : Vec Event Global) → state_of r ≡ publishes f s → es.items ≡ r.history.items ++ record { worker = 0; what = AuditKept n } ∷ [] → (let q : Parts = record r { counted = r.counted + 1; history = es } in state_of q ≡ keeps f (AuditKept n) s)
keeps_state s r f n es a b =
    ap (λ h. (let v : State = record (state_of r) { counted = r.counted + 1; history = h } in v)) b
    ∙ ap (λ (x : State). (let v : State = record x { counted = x.counted + 1; history = x.history ++ record { worker = 0; what = AuditKept n } ∷ [] } in v)) a

-- the answer of an audit where the budget is spent
pub spent_audit : (o : Opening) (f : Fact) (s u : State) (v : Verdict) → s.verdict ≡ None → s.counted ≡ o.budget → v ≡ BudgetOut s.counted → u ≡ closes 0 (BudgetOut s.counted) s → Audits o f s (ClosedBy v) u
spent_audit o f s u v open_ spent e is = subst (λ x. Audits o f s (ClosedBy x) u) (sym e) (subst (Audits o f s (ClosedBy (BudgetOut s.counted))) (sym is) (is_spent open_ spent))
