use Rattle.std.proofs.Common.{◌≡◌, length, arith, sym, subst, ap, ◌∙◌}
use Rattle.uc_queue.specs.declared.entry.Entry.{Entry}
use Rattle.uc_queue.specs.Queue.{Queue, IsNew, with_entry, by_number}
use Rattle.uc_queue.proofs.Members.{IsDistinct, new_any_order, pushed_distinct}
use Rattle.std.specs.Vec.{with_items}
use Rattle.std.proofs.lemmas.List.{with_items_is}
use Rattle.uc_queue.proofs.Queues.{pushed, right_again}
use Rattle.uc_queue.proofs.passive.Passive.back.Goals as goal

pub invariant_of-self : goal.invariant_of-self
invariant_of-self c =
    let e : Entry = record { weight = c.args.weight; number = c.args.number } in
    let new : IsNew c.args.number (by_number c.self.inside.entries.items) = subst (λ (q : Queue). IsNew c.args.number q.waiting) (sym c.self.view_is) c.requires.new in
    let same : length c.mend_both.new.earliest ≡ length c.mend_both.new.lightest = c.mend_both.ensures.right.same in
    let before : length c.self.inside.earliest.items ≡ length c.self.inside.lightest.items = c.self.invariant.right.same in
    let l : (with_items c.self.inside.lightest c.mend_both.new.lightest).items ≡ c.mend_both.new.lightest = with_items_is c.self.inside.lightest c.mend_both.new.lightest (omega arith) in
    let m : (with_items c.self.inside.earliest c.mend_both.new.earliest).items ≡ c.mend_both.new.earliest = with_items_is c.self.inside.earliest c.mend_both.new.earliest (omega arith) in
    record {
      right = right_again c.deref.result.now c.push_within.new.entries.items c.mend_both.new.lightest (with_items c.self.inside.lightest c.mend_both.new.lightest).items c.mend_both.new.earliest (with_items c.self.inside.earliest c.mend_both.new.earliest).items c.mend_both.ensures.right (sym c.deref.ensures.value) l m;
      room = rw l (omega arith);
      distinct = subst IsDistinct (sym c.push_within.ensures.items) (pushed_distinct c.self.inside.entries.items e c.self.invariant.distinct (new_any_order c.args.number c.self.inside.entries.items new));
      few_draws = c.self.invariant.few_draws;
    }

pub returns-clause-added : goal.returns-clause-added
returns-clause-added c =
    let e : Entry = record { weight = c.args.weight; number = c.args.number } in
    let w : by_number c.self.inside.entries.items ≡ c.args.self.now.waiting = ap (λ (q : Queue). q.waiting) c.self.view_is in
    let new : IsNew c.args.number (by_number c.self.inside.entries.items) = subst (λ (q : Queue). IsNew c.args.number q.waiting) (sym c.self.view_is) c.requires.new in
    ap by_number c.push_within.ensures.items ∙ (pushed c.self.inside.entries.items e c.self.invariant.distinct new ∙ ap (with_entry e) w)
