use Rattle.std.proofs.Common.{arith, ◌≡◌, ◌++◌, length, sym, ap, ◌∙◌, subst}
use Rattle.uc_shelf.specs.Entries.{born}
use Rattle.uc_shelf.specs.Sights.{Sight}
use Rattle.uc_machine.specs.Effects.{is_met}
use Rattle.uc_rows.specs.RowViews.{FactsView, PairsView}
use Rattle.uc_rows.specs.Rising.{AreBelow}
use Rattle.uc_rows.specs.Deaths.{deaths_by, visited}
use Rattle.uc_book.proofs.Taking.{taken_state}
use Rattle.uc_book.proofs.parts.Parts.take_visit.Goals as goal

pub accept-requires-clause-at : goal.accept-requires-clause-at
accept-requires-clause-at c = c.requires.at

pub accept-requires-clause-can : goal.accept-requires-clause-can
accept-requires-clause-can c = c.requires.can

pub revive-requires-clause-room : goal.revive-requires-clause-room
revive-requires-clause-room c = omega (arith, ap (λ (v : PairsView). v.room) c.accept.ensures.subjects.pairs, c.requires.room)

pub revive-requires-clause-spare : goal.revive-requires-clause-spare
revive-requires-clause-spare c = omega (arith, ap (λ (v : PairsView). v.spare) c.accept.ensures.subjects.pairs, c.requires.spare)

pub form-requires-clause-rising : goal.form-requires-clause-rising
form-requires-clause-rising c = c.requires.rising

pub form-requires-clause-room : goal.form-requires-clause-room
form-requires-clause-room c = omega (arith, ap (λ (v : PairsView). v.room) c.accept.ensures.subjects.pairs, c.revive.ensures.room, c.requires.room)

pub form-requires-clause-spare : goal.form-requires-clause-spare
form-requires-clause-spare c = omega (arith, ap (λ (v : PairsView). v.spare) c.accept.ensures.subjects.pairs, c.revive.ensures.spare, c.requires.spare)

pub bury-requires-clause-grew : goal.bury-requires-clause-grew
bury-requires-clause-grew c =
    let same : c.settle.new.self.front.entries ≡ c.args.self.now.facts.front.entries = ap (λ (v : FactsView). v.front.entries) c.settle.ensures ∙ ap (λ (v : FactsView). v.front.entries) c.accept.ensures.subjects.facts in
    record { killer = c.args.visit.now.killer; is = c.requires.front ∙ ap (λ z. z ++ deaths_by c.args.visit.now.killer c.args.visit.now.falls.now) (sym same) }

pub bury-requires-clause-born : goal.bury-requires-clause-born
bury-requires-clause-born c =
    let same : c.settle.new.self.front.entries ≡ c.args.self.now.facts.front.entries = ap (λ (v : FactsView). v.front.entries) c.settle.ensures ∙ ap (λ (v : FactsView). v.front.entries) c.accept.ensures.subjects.facts in
    subst (λ z. AreBelow (length (born z)) c.args.visit.now.falls.now) (sym same) c.requires.born

pub returns-clause-state : goal.returns-clause-state
returns-clause-state c = λ t s. (let p = c.accept.new.self in
    let v = c.args.visit.now in
    let front : c.bury.new.self.front.entries ≡ p.facts.front.entries ++ deaths_by v.killer v.falls.now
    = ap (λ (z : Sight). z.entries) c.bury.ensures.front ∙ c.requires.front ∙ ap (λ (z : FactsView). z.front.entries ++ deaths_by v.killer v.falls.now) (sym c.accept.ensures.subjects.facts) in
    taken_state p c.settle.new.self c.bury.new.self c.revive.new.pairs c.form.new.pairs c.wake.new.goals v.fact v.killer v.falls.now v.overlaps.now c.settle.ensures c.revive.ensures.pairs c.revive.ensures.draws (c.form.ensures.pairs v.killer) c.form.ensures.draws front c.bury.ensures.meetings c.wake.ensures
    ∙ ap (λ x. visited v.killer v.falls.now v.overlaps.now (is_met v.fact x)) (c.accept.ensures.state t s))

pub returns-clause-rest : goal.returns-clause-rest
returns-clause-rest c = let r = c.accept.ensures.rest in record { tasks = r.tasks; next = r.next; verdict = r.verdict; history = r.history; capacity = r.capacity }

pub returns-clause-front : goal.returns-clause-front
returns-clause-front c = c.bury.ensures.front

pub returns-clause-spare : goal.returns-clause-spare
returns-clause-spare c = omega (arith, ap (λ (v : PairsView). v.spare) c.accept.ensures.subjects.pairs, c.revive.ensures.spare, c.form.ensures.spare)
