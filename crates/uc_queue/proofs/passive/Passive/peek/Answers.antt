use Rattle.std.proofs.Common.{◌≡◌, ◌<◌, length, Some, refl, sym, subst}
use Rattle.std.specs.Prelude.{option_map}
use Rattle.std.specs.List.{slice_get}
use Rattle.uc_queue.specs.declared.entry.Entry.{Entry}
use Rattle.uc_queue.specs.Trees.{before, key_of}
use Rattle.uc_queue.specs.View.{queue_of}
use Rattle.uc_queue.specs.Queue.{Queue, next, least, RisesFrom, by_number}
use Rattle.uc_queue.proofs.Members.{IsDistinct, apart, rises_by_number}
use Rattle.uc_queue.proofs.Queues.{named, lent_at}
use Rattle.uc_queue.proofs.passive.Passive.peek.Goals as goal

pub next_slot-requires-clause-distinct : goal.next_slot-requires-clause-distinct
next_slot-requires-clause-distinct c = subst IsDistinct (sym c.deref.ensures.value) c.self.invariant.distinct

pub returns-in-Some-clause-next : goal.returns-in-Some-clause-next
returns-in-Some-clause-next c =
    let found : (c.in-Some.slot < length c.deref.result.now) × (slice_get c.deref.result.now c.in-Some.slot ≡ least (before (key_of c.self.inside.draws)) (by_number c.deref.result.now)) = c.in-Some.ensures in
    let got : slice_get c.self.inside.entries.items c.in-Some.slot ≡ Some c.index.result.now = lent_at c.self.inside.entries.items c.deref.result.now c.in-Some.slot c.index.result.now c.deref.ensures.value found.0 c.index.ensures in
    subst (λ (q : Queue). Some c.index.result.now.number ≡ option_map (λ (e : Entry). e.number) (next q)) c.self.view_is (named (queue_of c.self.inside) c.self.inside.entries.items c.deref.result.now c.in-Some.slot c.index.result.now refl c.deref.ensures.value found.1 got)

pub returns-in-Some-clause-rising : goal.returns-in-Some-clause-rising
returns-in-Some-clause-rising c = subst (λ (q : Queue). RisesFrom 0 q.waiting) c.self.view_is (rises_by_number c.self.inside.entries.items (apart c.self.inside.entries.items c.self.invariant.distinct))
