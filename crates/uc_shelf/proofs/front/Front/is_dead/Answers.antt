use Rattle.std.proofs.Common.{◌≡◌, ◌+◌, true, false, take, sym, ap, ◌∙◌, subst}
use Rattle.uc_shelf.specs.Entries.{is_dead}
use Rattle.uc_shelf.specs.Segments.{Stretch, AreBased, entries_of}
use Rattle.uc_shelf.specs.Sights.{Sight}
use Rattle.uc_shelf.proofs.Runs.{dead_in_run}
use Rattle.uc_shelf.proofs.Segmented.{run_here, alive_ahead}
use Rattle.uc_shelf.proofs.front.Front.is_dead.Goals as goal

pub returns-then-is_dead : goal.returns-then-is_dead
returns-then-is_dead c =
    let ps = c.deref-segment-items.result.now in
    let p = c.segment-item.result in
    let b : AreBased 0 ps = subst (AreBased 0) (sym c.deref-segment-items.ensures.value) c.self.invariant.2 in
    let all = ap (λ (v : Sight). v.entries) (sym c.self.view_is) ∙ ap entries_of (sym c.deref-segment-items.ensures.value) in
    let dead : is_dead p.value.entries c.args.number ≡ true = ap (λ (s : Stretch). is_dead s.entries c.args.number) (sym c.deref.ensures) ∙ sym c.is_dead.ensures ∙ c.if-is_dead.true in
    sym (ap (λ z. is_dead z c.args.number) all ∙ dead_in_run (entries_of ps) p.value c.args.number (run_here ps c.loop-segment.segment-index p b c.loop-segment-test.true c.segment-item.is) dead)

pub loop-segment-preserved : goal.loop-segment-preserved
loop-segment-preserved c =
    let ps = c.deref-segment-items.result.now in
    let p = c.segment-item.result in
    let alive : is_dead p.value.entries c.args.number ≡ false = ap (λ (s : Stretch). is_dead s.entries c.args.number) (sym c.deref.ensures) ∙ sym c.is_dead.ensures ∙ c.if-is_dead.false in
    let r : is_dead (entries_of (take (c.loop-segment.segment-index + 1) ps)) c.args.number ≡ false = alive_ahead ps c.loop-segment.segment-index p c.args.number c.loop-segment-test.true c.segment-item.is c.loop-segment.invariant alive in r
