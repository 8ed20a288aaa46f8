use Rattle.std.proofs.Common.{◌≡◌, refl, sym, ◌∙◌, subst}
use Rattle.uc_book.specs.Openings.{opening_of}
use Rattle.uc_search.proofs.Rests.{WereMissing, may_audit, missing_on, missing_first}
use Rattle.uc_search.proofs.Moved.{same_book_on, moved_may, audits_as}
use Rattle.trial_book.proofs.rest.audit_all.Goals as goal

pub loop-missing-init : goal.loop-missing-init
loop-missing-init g c =
    let b = c.args.book.now in
    let e : c.into_iter-missing-iterator.result.rest.items ≡ c.args.all = c.into_iter-missing-iterator.ensures.into_iter_gives.0 ∙ c.into_vec-missing-items.ensures in
    (tt, tt, subst (λ l. WereMissing (g.O.Order.meaning b.order) (opening_of b.opening) b.state c.args.all l b.state) (sym e) (missing_first (g.O.Order.meaning b.order) (opening_of b.opening) b.state c.args.all c.is_reached.ensures c.requires.drained c.requires.missing), record { opening = refl; order = refl; enrolled = refl })

pub audit-requires-in-loop-missing : goal.audit-requires-in-loop-missing
audit-requires-in-loop-missing g c =
    let a = c.args.book.now in
    let b = c.loop-missing.book in
    let x = c.in-Some.missing in
    let rest = c.next.new.self.rest.items in
    let now = subst (λ l. WereMissing (g.O.Order.meaning a.order) (opening_of a.opening) a.state c.args.all l b.state) c.in-Some.ensures.steps.0 c.loop-missing.invariant.2 in
    moved_may g.O.Order.meaning a b c.loop-missing.invariant.3 b.state x (may_audit (g.O.Order.meaning a.order) (opening_of a.opening) a.state c.args.all rest x b.state now)

pub loop-missing-preserved : goal.loop-missing-preserved
loop-missing-preserved g c =
    let a = c.args.book.now in
    let b = c.loop-missing.book in
    let x = c.in-Some.missing in
    let rest = c.next.new.self.rest.items in
    let now = subst (λ l. WereMissing (g.O.Order.meaning a.order) (opening_of a.opening) a.state c.args.all l b.state) c.in-Some.ensures.steps.0 c.loop-missing.invariant.2 in
    let by = audits_as b.opening a.opening x b.state c.in_ok-audited.audited c.in_ok-audited.audited _ c.loop-missing.invariant.3.opening refl c.in_ok-audited.ensures.audited in
    (tt, tt, missing_on (g.O.Order.meaning a.order) (opening_of a.opening) a.state c.args.all rest x b.state _ _ now by, same_book_on a b _ c.loop-missing.invariant.3 c.in_ok-audited.ensures.book)
