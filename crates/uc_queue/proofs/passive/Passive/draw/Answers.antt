use Rattle.std.proofs.Common.{◌≡◌, ◌-◌, ◌<◌, ◌≤◌, length, Some, refl, sym, subst, ap, arith}
use Rattle.std.specs.Prelude.{option_map}
use Rattle.std.specs.List.{slice_get}
use Rattle.std.specs.Vec.{with_items}
use Rattle.std.proofs.lemmas.List.{with_items_is}
use Rattle.uc_queue.specs.declared.entry.Entry.{Entry}
use Rattle.uc_queue.specs.Trees.{before, key_of}
use Rattle.uc_queue.specs.View.{queue_of}
use Rattle.uc_queue.specs.Queue.{Queue, next, least, without, by_number}
use Rattle.uc_queue.proofs.Members.{IsDistinct, taken_out, taken_away, rest_distinct}
use Rattle.uc_queue.proofs.Queues.{named, lent_at, right_again}
use Rattle.uc_queue.proofs.passive.Passive.draw.Goals as goal

pub next_slot-requires-clause-distinct : goal.next_slot-requires-clause-distinct
next_slot-requires-clause-distinct c = subst IsDistinct (sym c.deref.ensures.value) c.self.invariant.distinct

pub invariant_of-self : goal.invariant_of-self
invariant_of-self c =
    let found : (c.in_ok-slot.slot < length c.deref.result.now) × (slice_get c.deref.result.now c.in_ok-slot.slot ≡ least (before (key_of c.self.inside.draws)) (by_number c.deref.result.now)) = c.in_ok-slot.ensures in
    let got : slice_get c.self.inside.entries.items c.in_ok-slot.slot ≡ Some c.index.result.now = lent_at c.self.inside.entries.items c.deref.result.now c.in_ok-slot.slot c.index.result.now c.deref.ensures.value found.0 c.index.ensures in
    let same : length c.remove.new.earliest ≡ length c.remove.new.lightest = c.remove.ensures.right.same in
    let before : length c.self.inside.earliest.items ≡ length c.self.inside.lightest.items = c.self.invariant.right.same in
    let l : (with_items c.self.inside.lightest c.remove.new.lightest).items ≡ c.remove.new.lightest = with_items_is c.self.inside.lightest c.remove.new.lightest (omega arith) in
    let m : (with_items c.self.inside.earliest c.remove.new.earliest).items ≡ c.remove.new.earliest = with_items_is c.self.inside.earliest c.remove.new.earliest (omega arith) in
    record {
      right = right_again c.remove.new.entries.items c.remove.new.entries.items c.remove.new.lightest (with_items c.self.inside.lightest c.remove.new.lightest).items c.remove.new.earliest (with_items c.self.inside.earliest c.remove.new.earliest).items c.remove.ensures.right refl l m;
      room = rw l (omega arith);
      distinct = rest_distinct c.index.result.now c.self.inside.entries.items c.remove.new.entries.items (c.remove.ensures.taken c.index.result.now got) c.self.invariant.distinct;
      few_draws = omega arith;
    }

pub returns-clause-next : goal.returns-clause-next
returns-clause-next c =
    let found : (c.in_ok-slot.slot < length c.deref.result.now) × (slice_get c.deref.result.now c.in_ok-slot.slot ≡ least (before (key_of c.self.inside.draws)) (by_number c.deref.result.now)) = c.in_ok-slot.ensures in
    let got : slice_get c.self.inside.entries.items c.in_ok-slot.slot ≡ Some c.index.result.now = lent_at c.self.inside.entries.items c.deref.result.now c.in_ok-slot.slot c.index.result.now c.deref.ensures.value found.0 c.index.ensures in
    subst (λ (q : Queue). Some c.index.result.now.number ≡ option_map (λ (e : Entry). e.number) (next q)) c.self.view_is (named (queue_of c.self.inside) c.self.inside.entries.items c.deref.result.now c.in_ok-slot.slot c.index.result.now refl c.deref.ensures.value found.1 got)

pub returns-clause-taken : goal.returns-clause-taken
returns-clause-taken c =
    let found : (c.in_ok-slot.slot < length c.deref.result.now) × (slice_get c.deref.result.now c.in_ok-slot.slot ≡ least (before (key_of c.self.inside.draws)) (by_number c.deref.result.now)) = c.in_ok-slot.ensures in
    let got : slice_get c.self.inside.entries.items c.in_ok-slot.slot ≡ Some c.index.result.now = lent_at c.self.inside.entries.items c.deref.result.now c.in_ok-slot.slot c.index.result.now c.deref.ensures.value found.0 c.index.ensures in
    subst (λ (q : Queue). by_number c.remove.new.entries.items ≡ without c.index.result.now.number q.waiting) c.self.view_is
    (taken_out c.index.result.now c.self.inside.entries.items c.remove.new.entries.items (c.remove.ensures.taken c.index.result.now got) c.self.invariant.distinct)

pub returns-clause-gone : goal.returns-clause-gone
returns-clause-gone c =
    let found : (c.in_ok-slot.slot < length c.deref.result.now) × (slice_get c.deref.result.now c.in_ok-slot.slot ≡ least (before (key_of c.self.inside.draws)) (by_number c.deref.result.now)) = c.in_ok-slot.ensures in
    let got : slice_get c.self.inside.entries.items c.in_ok-slot.slot ≡ Some c.index.result.now = lent_at c.self.inside.entries.items c.deref.result.now c.in_ok-slot.slot c.index.result.now c.deref.ensures.value found.0 c.index.ensures in
    taken_away c.index.result.now c.self.inside.entries.items c.remove.new.entries.items (c.remove.ensures.taken c.index.result.now got) c.self.invariant.distinct

pub returns-clause-room : goal.returns-clause-room
returns-clause-room c =
    let v : length c.self.inside.lightest.items - length c.self.inside.entries.items ≡ c.args.self.now.spare = ap (λ (q : Queue). q.spare) c.self.view_is in
    let l : (with_items c.self.inside.lightest c.remove.new.lightest).items ≡ c.remove.new.lightest = with_items_is c.self.inside.lightest c.remove.new.lightest (omega arith) in
    let w : length c.self.inside.entries.items ≤ length c.self.inside.lightest.items = c.self.invariant.right.within in
    rw l (omega arith)
