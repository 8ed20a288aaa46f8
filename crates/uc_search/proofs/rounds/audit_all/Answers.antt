use Rattle.std.proofs.Common.{◌≡◌, List, [], ◌∷◌, length, refl, sym, ap, ◌∙◌, subst}
use Rattle.uc_machine.specs.declared.task.Missing.{Missing}
use Rattle.uc_machine.specs.State.{State}
use Rattle.uc_machine.specs.Events.{commits_by}
use Rattle.uc_book.specs.declared.answer.Audited.TheVariants.{Kept, Closed}
use Rattle.uc_book.specs.Openings.{opening_of}
use Rattle.uc_search.specs.Searching.{AuditsSome}
use Rattle.uc_search.proofs.AllAudits.{Auditing, auditing_starts, next_may, auditing_on, auditing_closes, auditing_ends}
use Rattle.uc_search.proofs.RoundEnds.{on_err}
use Rattle.uc_search.proofs.Moved.{book_state, same_book_on, moved_may, audits_as}
use Rattle.uc_search.proofs.rounds.audit_all.Goals as goal

empty : (xs : List Missing) → length xs ≡ 0 → xs ≡ []
empty [] e = refl
empty (x ∷ xs) e = absurd cc

pub loop-missing-init : goal.loop-missing-init
loop-missing-init g c =
    let b = c.args.book.now in
    let e : c.into_iter-missing-iterator.result.rest.items ≡ c.args.all = c.into_iter-missing-iterator.ensures.into_iter_gives.0 ∙ c.into_vec-missing-items.ensures in
    (tt, tt, subst (λ l. Auditing (g.O.Order.meaning b.order) (opening_of b.opening) b.state c.args.all l b.state) (sym e) (auditing_starts (g.O.Order.meaning b.order) (opening_of b.opening) b.state c.args.all c.is_reached.ensures c.requires.drained c.requires.missing), record { opening = refl; order = refl; enrolled = refl })

pub audit-requires : goal.audit-requires
audit-requires g c =
    let a = c.args.book.now in
    let b = c.loop-missing.book in
    let x = c.in-Some.missing in
    let rest = c.next.new.self.rest.items in
    let now = subst (λ l. Auditing (g.O.Order.meaning a.order) (opening_of a.opening) a.state c.args.all l b.state) c.in-Some.ensures.steps.0 c.loop-missing.invariant.2 in
    moved_may g.O.Order.meaning a b c.loop-missing.invariant.3 b.state x (next_may (g.O.Order.meaning a.order) (opening_of a.opening) a.state c.args.all x rest b.state now)

pub returns-in_err-verdict-clause-commits : goal.returns-in_err-verdict-clause-commits
returns-in_err-verdict-clause-commits g c w = ap (λ (s : State). commits_by w s.history) (book_state c.loop-missing.book c.audit.new.self c.in_err-verdict.ensures.err) ∙ c.loop-missing.invariant.2.commits w

pub returns-in-Closed-clause-audited : goal.returns-in-Closed-clause-audited
returns-in-Closed-clause-audited g c =
    let a = c.args.book.now in
    let b = c.loop-missing.book in
    let x = c.in-Some.missing in
    let rest = c.next.new.self.rest.items in
    let now = subst (λ l. Auditing (g.O.Order.meaning a.order) (opening_of a.opening) a.state c.args.all l b.state) c.in-Some.ensures.steps.0 c.loop-missing.invariant.2 in
    let by = audits_as b.opening a.opening x b.state c.in_ok-verdict.field-0 (Closed c.in-Closed.verdict) c.audit.new.self.state c.loop-missing.invariant.3.opening c.in-Closed.is c.in_ok-verdict.ensures.audited in
    (auditing_closes (g.O.Order.meaning a.order) (opening_of a.opening) a.state c.args.all x rest b.state c.audit.new.self.state c.in-Closed.verdict now by).audits

pub returns-in-Closed-clause-verdict : goal.returns-in-Closed-clause-verdict
returns-in-Closed-clause-verdict g c =
    let a = c.args.book.now in
    let b = c.loop-missing.book in
    let x = c.in-Some.missing in
    let rest = c.next.new.self.rest.items in
    let now = subst (λ l. Auditing (g.O.Order.meaning a.order) (opening_of a.opening) a.state c.args.all l b.state) c.in-Some.ensures.steps.0 c.loop-missing.invariant.2 in
    let by = audits_as b.opening a.opening x b.state c.in_ok-verdict.field-0 (Closed c.in-Closed.verdict) c.audit.new.self.state c.loop-missing.invariant.3.opening c.in-Closed.is c.in_ok-verdict.ensures.audited in
    (auditing_closes (g.O.Order.meaning a.order) (opening_of a.opening) a.state c.args.all x rest b.state c.audit.new.self.state c.in-Closed.verdict now by).verdict

pub returns-in-Closed-clause-commits : goal.returns-in-Closed-clause-commits
returns-in-Closed-clause-commits g c =
    let a = c.args.book.now in
    let b = c.loop-missing.book in
    let x = c.in-Some.missing in
    let rest = c.next.new.self.rest.items in
    let now = subst (λ l. Auditing (g.O.Order.meaning a.order) (opening_of a.opening) a.state c.args.all l b.state) c.in-Some.ensures.steps.0 c.loop-missing.invariant.2 in
    let by = audits_as b.opening a.opening x b.state c.in_ok-verdict.field-0 (Closed c.in-Closed.verdict) c.audit.new.self.state c.loop-missing.invariant.3.opening c.in-Closed.is c.in_ok-verdict.ensures.audited in
    (auditing_closes (g.O.Order.meaning a.order) (opening_of a.opening) a.state c.args.all x rest b.state c.audit.new.self.state c.in-Closed.verdict now by).commits

pub loop-missing-preserved : goal.loop-missing-preserved
loop-missing-preserved g c =
    let a = c.args.book.now in
    let b = c.loop-missing.book in
    let x = c.in-Some.missing in
    let rest = c.next.new.self.rest.items in
    let now = subst (λ l. Auditing (g.O.Order.meaning a.order) (opening_of a.opening) a.state c.args.all l b.state) c.in-Some.ensures.steps.0 c.loop-missing.invariant.2 in
    let by = audits_as b.opening a.opening x b.state c.in_ok-verdict.field-0 (Kept c.in_default.field-0) c.audit.new.self.state c.loop-missing.invariant.3.opening c.in_default.is c.in_ok-verdict.ensures.audited in
    (tt, tt, auditing_on (g.O.Order.meaning a.order) (opening_of a.opening) a.state c.args.all x rest b.state c.audit.new.self.state c.in_default.field-0 now by, same_book_on a b c.audit.new.self c.loop-missing.invariant.3 c.in_ok-verdict.ensures.book)

pub returns-clause-audited : goal.returns-clause-audited
returns-clause-audited g c =
    let a = c.args.book.now in
    let b = c.loop-missing.book in
    let rest = c.loop-missing.missing-iterator.rest.items in
    let none = empty rest (sym c.loop-missing.missing-iterator.rest.ok.0 ∙ c.in-None.ensures.steps.0) in
    (auditing_ends (g.O.Order.meaning a.order) (opening_of a.opening) a.state c.args.all rest b.state none c.loop-missing.invariant.2).audits

pub returns-in_err-verdict-clause-err : goal.returns-in_err-verdict-clause-err
returns-in_err-verdict-clause-err g c =
    let a = c.args.book.now in
    on_err c.from_residual.result (subst (AuditsSome (opening_of a.opening) c.args.all a.state) (sym (book_state c.loop-missing.book c.audit.new.self c.in_err-verdict.ensures.err)) (record { left = c.loop-missing.missing-iterator.rest.items; audited = c.loop-missing.invariant.2.missing.audited }))
