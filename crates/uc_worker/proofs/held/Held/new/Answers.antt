use Rattle.std.proofs.Common.{◌≡◌, ◌++◌, ◌∷◌, [], Some, length, sym, subst, ap, ap₂, ◌∙◌, arith}
use Rattle.uc_book.specs.Openings.{HasNot, BookView}
use Rattle.uc_worker.specs.Commits.{commits_of}
use Rattle.uc_worker.proofs.Totals.{none_of_any}
use Rattle.uc_worker.proofs.Enrolling.{has_not_more, enrolled_more, hand_more}
use Rattle.uc_worker.proofs.held.Held.new.Goals as goal

pub loop-worker-preserved : goal.loop-worker-preserved
loop-worker-preserved g c =
    let w = c.loop-worker.worker in
    let i = c.loop-worker.invariant in
    let left = c.split_off-share.ensures.parts_left in
    let none_left = c.split_off-share.ensures.amount_left in
    let parts = i.parts in
    let amount = i.amount in
    let book = c.in_ok-enroll.ensures.book in
    let long : length c.loop-worker.hands.items ≡ w = (let ok = c.loop-worker.hands.ok in let before = i.count in omega arith) in
    record {
      parts = omega arith;
      amount = omega arith;
      total = i.total;
      book = enrolled_more c.args.book c.loop-worker.book c.enroll.new.self (c.loop-worker.book.enrolled ++ w ∷ []) i.book book;
      none = λ n l. subst (HasNot n) (sym (ap (λ (b : BookView _). b.enrolled) book)) (has_not_more n w c.loop-worker.book.enrolled (λ e. absurd (omega arith)) (i.none n (omega arith)));
      count = (let one = c.in_ok-push.ensures.len in let before = i.count in omega arith);
      each = hand_more c.loop-worker.hands.items c.push.new.self.items (record { worker = c.in_ok-enroll.field-0.worker; commits = c.in_ok-enroll.field-0.commits }) w long c.in_ok-push.ensures.items (ap₂ (λ m n. record { worker = m; commits = n }) c.in_ok-enroll.ensures.worker c.in_ok-enroll.ensures.commits) i.each;
    }

pub invariant_of-result : goal.invariant_of-result
invariant_of-result g c =
    let a = c.args.book in
    let b = c.loop-worker.book in
    let same : b ≡ record a { enrolled = b.enrolled } = c.loop-worker.invariant.book in
    let none : commits_of b.state.history ≡ 0 = ap (λ (v : BookView _). commits_of v.state.history) same ∙ c.requires.history in (
      ap (λ (v : BookView _). v.opening) same ∙ c.requires.opening,
      ap (λ (v : BookView _). Some v.order) same ∙ c.requires.order,
      c.open-total.ensures.total ∙ sym none,
      none_of_any g.K.Ledger.parts b.state.history none,
      (let no_round = c.open-rounds.ensures.total in omega arith),
    )
