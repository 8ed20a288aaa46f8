use Rattle.std.proofs.Common.{◌≡◌, ◌-◌, refl, sym, ap, ◌∙◌, take}
use Rattle.uc_machine.specs.Lists.{change}
use Rattle.uc_machine.specs.State.{Pair}
use Rattle.uc_ledger.specs.declared.ledger.State.TheVariants.{Waiting}
use Rattle.uc_book.specs.Parts.{state_of}
use Rattle.uc_book.specs.declared.parts.Parts.{Parts}
use Rattle.uc_book.proofs.Dropping.{undropped, drop_event, drop_orphan}
use Rattle.uc_book.proofs.parts.Parts.undrop_last.Goals as goal

pub undrop-requires-clause-orphan : goal.undrop-requires-clause-orphan
undrop-requires-clause-orphan c =
    let d = c.requires.dropped in
    let s = state_of c.args.self.now in
    drop_orphan d.0 d.1 c.dropped_pair.result d.2 s d.3 (drop_event d.0 d.1 c.dropped_pair.result d.2 s c.pop.new.self.items c.in-Some.event d.3 c.in-Some.ensures.items c.dropped_pair.ensures)

pub returns-clause-state : goal.returns-clause-state
returns-clause-state c w p s d =
    let u = state_of c.args.self.now in
    let q : Parts = record c.args.self.now { pairs = c.undrop.new.self; history = c.pop.new.self } in
    let n : p ≡ c.dropped_pair.result = drop_event w p c.dropped_pair.result s u c.pop.new.self.items c.in-Some.event d c.in-Some.ensures.items c.dropped_pair.ensures in
    undropped w p s u (state_of q) d refl refl (c.undrop.ensures.pairs ∙ ap (λ k. change (λ (x : Pair). record x { condition = Waiting }) u.pairs k) (sym n)) c.undrop.ensures.draws c.undrop.ensures.modulo refl refl refl refl refl refl
    (c.in-Some.ensures.rest ∙ ap (λ k. take (k - 1) u.history) c.args.self.now.history.ok.0)
