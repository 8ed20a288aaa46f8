use Rattle.std.proofs.Common.{◌≡◌, ◌+◌, ◌≤◌, ◌<◌, length, refl, sym, ap, ◌∙◌, arith, subst}
use Rattle.std.specs.Prelude.{vec_len, vec_capacity}
use Rattle.uc_machine.specs.State.{queue}
use Rattle.uc_book.specs.Dropping.{WasDropped, none_dropped, one_more_dropped}
use Rattle.uc_book.specs.Parts.{state_of}
use Rattle.uc_book.proofs.Dropping.{dropped_fewer, dropped_met, dropped_ticket, dropped_leads, head_dropped}
use Rattle.uc_book.proofs.Steady.{others_self, others_after}
use Rattle.uc_book.proofs.parts.Parts.drop_orphans.Goals as goal

pub loop-number-init : goal.loop-number-init
loop-number-init c = record {
  leads = λ o r u d. d;
  met = c.requires.met;
  dropped = none_dropped;
  others = others_self c.args.self.now;
  room = c.requires.room;
  spare = refl;
  least = omega arith;
  ticket = refl;
  history = omega arith;
  capacity = omega arith;
}

pub loop-number-preserved : goal.loop-number-preserved
loop-number-preserved c =
    let p = c.loop-number.self in
    let q = c.drop_one.new.self in
    let s = state_of p in
    let u = state_of q in
    let n = c.in-Some.number in
    let i = c.loop-number.invariant in
    let e = c.in_default-drop_one.ensures in
    let head = c.in-Some.ensures.some in
    let d : WasDropped c.args.worker n s u = head_dropped c.args.worker n p.pairs s u refl refl refl head.0 e.modulo e.state in
    let fewer : length (queue u) + 1 ≡ length (queue s) = dropped_fewer c.args.worker n s u head.0 e.state in
    record {
      leads = λ o r v x. i.leads o r v (dropped_leads c.args.worker n s u head.0 e.state i.met head.1 o r v x);
      met = dropped_met c.args.worker n s u head.0 e.state i.met;
      dropped = one_more_dropped n i.dropped d;
      others = others_after c.args.self.now p q i.others e.others;
      room = e.room;
      spare = omega (arith, e.spare, e.history, i.spare);
      least = omega (arith, e.history, i.least);
      ticket = dropped_ticket c.args.worker n s u head.0 e.state ∙ i.ticket;
      history = omega (arith, fewer, e.history, i.history);
      capacity = omega (arith, e.capacity, i.capacity);
    }

pub loop-number-smaller : goal.loop-number-smaller
loop-number-smaller c = omega (arith, dropped_fewer c.args.worker c.in-Some.number (state_of c.loop-number.self) (state_of c.drop_one.new.self) c.in-Some.ensures.some.0 c.in_default-drop_one.ensures.state)
