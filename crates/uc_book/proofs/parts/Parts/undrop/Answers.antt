use Rattle.std.proofs.Common.{◌≡◌, ◌+◌, ◌≤◌, ◌<◌, ℕ, length, refl, sym, ap, ◌∙◌, arith, subst}
use Rattle.std.specs.Prelude.{vec_len}
use Rattle.uc_machine.specs.State.{State}
use Rattle.uc_book.specs.Dropping.{Dropped, SameOthers}
use Rattle.uc_book.specs.Parts.{state_of}
use Rattle.uc_book.proofs.Dropping.{LastDrop, last_drop, no_shorter, none_left}
use Rattle.uc_book.proofs.Steady.{others_self, others_after}
use Rattle.uc_book.proofs.parts.Parts.undrop.Goals as goal

pub loop-self-init : goal.loop-self-init
loop-self-init c =
    let d = c.requires.dropped in
    record {
      some = d;
      back = λ w s x e. x;
      others = others_self c.args.self.now;
      spare = refl;
      within = c.requires.spare;
      least = omega (arith, d.3, no_shorter d.0 d.1 (state_of c.args.self.now) d.2, c.args.self.now.history.ok.0);
      capacity = refl;
    }

pub undrop_last-requires-clause-dropped : goal.undrop_last-requires-clause-dropped
undrop_last-requires-clause-dropped c =
    let i = c.loop-self.invariant in
    let p = c.loop-self.self in
    let l : LastDrop i.some.0 i.some.1 (state_of p) = last_drop i.some.0 i.some.1 (state_of p) i.some.2 (omega (arith, i.some.3, c.loop-self-test.true, c.len.ensures, p.history.ok.0)) in
    (i.some.0, l.pair, l.before, l.dropped)

pub loop-self-preserved : goal.loop-self-preserved
loop-self-preserved c =
    let i = c.loop-self.invariant in
    let p = c.loop-self.self in
    let q = c.undrop_last.new.self in
    let e = c.undrop_last.ensures in
    let on : (w : ℕ) (s : State) → Dropped w s (state_of p) → length s.history ≡ c.args.kept → Dropped w s (state_of q)
    = λ w s x n. (let l : LastDrop w s (state_of p) = last_drop w s (state_of p) x (omega (arith, n, c.loop-self-test.true, c.len.ensures, p.history.ok.0)) in subst (Dropped w s) (sym (e.state w l.pair l.before l.dropped)) l.earlier) in
    record {
      some = (i.some.0, i.some.1, on i.some.0 i.some.1 i.some.2 i.some.3, i.some.3);
      back = λ w s x n. on w s (i.back w s x n) n;
      others = others_after c.args.self.now p q i.others e.others;
      spare = omega (arith, i.spare, e.spare, e.history);
      within = omega (arith, i.within, e.spare, e.history);
      least = omega (arith, c.loop-self-test.true, c.len.ensures, e.history);
      capacity = e.capacity ∙ i.capacity;
    }

pub returns-clause-state : goal.returns-clause-state
returns-clause-state c w s x n =
    let i = c.loop-self.invariant in
    let p = c.loop-self.self in
    none_left w s (state_of p) (i.back w s x n) (omega (arith, n, c.loop-self-test.false, c.len.ensures, p.history.ok.0))
