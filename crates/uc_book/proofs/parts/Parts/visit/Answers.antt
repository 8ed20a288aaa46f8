use Rattle.std.proofs.Common.{arith, refl, ◌≡◌, ◌+◌, ◌++◌, length, sym, ap, ◌∙◌, subst}
use Rattle.uc_shelf.specs.Fronts.{IsOf}
use Rattle.uc_shelf.specs.Sights.{Sight}
use Rattle.uc_machine.specs.declared.event.Verdict.TheVariants.{PairsOut}
use Rattle.uc_machine.specs.declared.event.Happening.TheVariants.{CommitMeet}
use Rattle.uc_machine.specs.State.{State}
use Rattle.uc_machine.specs.Effects.{is_met, accepts}
use Rattle.uc_machine.specs.Commits.{newly_waiting}
use Rattle.uc_book.specs.declared.parts.Parts.{Parts}
use Rattle.uc_book.specs.Parts.{state_of}
use Rattle.uc_book.specs.Ending.{HasEnded}
use Rattle.uc_rows.specs.Deaths.{deaths_by, all_dead, visited}
use Rattle.uc_book.proofs.Standing.{can_accept, room_for_two}
use Rattle.uc_book.proofs.Steady.{on_err, steady_fit, steady_room}
use Rattle.uc_book.proofs.Taking.{reserved_state}
use Rattle.uc_book.proofs.VisitEnds.{reserved_steady, keeps_visit, passes_limit, kept_fit, kept_room, passed_fit, passed_room}
use Rattle.uc_book.proofs.parts.Parts.visit.Goals as goal

pub returns-in_err-waiting-clause-fit : goal.returns-in_err-waiting-clause-fit
returns-in_err-waiting-clause-fit g c = c.requires.can.1.fit

pub returns-in_err-waiting-clause-room : goal.returns-in_err-waiting-clause-room
returns-in_err-waiting-clause-room g c = c.requires.can.1.room

pub newly_waiting-pairs-requires : goal.newly_waiting-pairs-requires
newly_waiting-pairs-requires g c = c.requires.rising

pub pass_limit-requires-clause-at : goal.pass_limit-requires-clause-at
pass_limit-requires-clause-at g c = c.requires.at

pub pass_limit-requires-clause-can : goal.pass_limit-requires-clause-can
pass_limit-requires-clause-can g c = λ t s. can_accept c.args.shelf.now c.requires.can.0 c.args.self.now c.args.at t c.requires.can.1 s

pub pass_limit-requires-clause-room : goal.pass_limit-requires-clause-room
pass_limit-requires-clause-room g c = let at = c.requires.at in room_for_two c.args.self.now c.args.at at.0 c.requires.can.1.room at.1 c.requires.open

pub returns-then-waiting-new-clause-ok : goal.returns-then-waiting-new-clause-ok
returns-then-waiting-new-clause-ok g c = λ o t l s. (let p = c.args.self.now in
    let v = c.args.visit.now in
    let pairs = c.newly_waiting-pairs.result in
    let new : length v.falls.now + pairs ≡ length v.falls.now + newly_waiting v.overlaps.now (all_dead v.killer v.falls.now (state_of p)) = ap (λ m. length v.falls.now + m) (c.newly_waiting-pairs.ensures.value v.killer) in
    let waits = c.in_ok-waiting.ensures.value ∙ c.waiting.ensures in
    passes_limit o t v.fact v.killer v.falls.now v.overlaps.now (state_of p) (state_of c.pass_limit.new.self) (length v.falls.now + pairs) _ new waits (omega (arith, l)) (c.pass_limit.ensures.state t s))

pub returns-then-waiting-new-clause-fit : goal.returns-then-waiting-new-clause-fit
returns-then-waiting-new-clause-fit g c =
    let p = c.args.self.now in
    let at = c.requires.at in
    let e = c.pass_limit.ensures in
    passed_fit c.args.shelf.now p c.pass_limit.new.self c.args.at at.0 c.args.visit.now.fact (PairsOut _ _) c.requires.can.1.fit at.1 e.front e.tasks e.next (e.state at.0 at.1)

pub returns-then-waiting-new-clause-room : goal.returns-then-waiting-new-clause-room
returns-then-waiting-new-clause-room g c =
    let p = c.args.self.now in
    let at = c.requires.at in
    let e = c.pass_limit.ensures in
    passed_room p c.pass_limit.new.self c.args.at at.0 (PairsOut _ _) c.requires.can.1.room at.1 c.requires.open e.tasks (ap (λ (x : State). x.verdict) (e.state at.0 at.1)) e.spare e.history e.capacity

pub returns-in_err-count_of-clause-fit : goal.returns-in_err-count_of-clause-fit
returns-in_err-count_of-clause-fit g c = c.requires.can.1.fit

pub returns-in_err-count_of-clause-room : goal.returns-in_err-count_of-clause-room
returns-in_err-count_of-clause-room g c = c.requires.can.1.room

pub returns-in_err-reserve-clause-err : goal.returns-in_err-reserve-clause-err
returns-in_err-reserve-clause-err g c = on_err c.from_residual-in_err-reserve.result (reserved_state c.args.self.now c.reserve.new.self c.reserve.ensures.pairs c.reserve.ensures.draws, refl)

pub returns-in_err-reserve-clause-fit : goal.returns-in_err-reserve-clause-fit
returns-in_err-reserve-clause-fit g c =
    let p = c.args.self.now in
    let q : Parts = record p { pairs = c.reserve.new.self } in
    steady_fit c.args.shelf.now p q (reserved_steady p c.reserve.new.self c.reserve.ensures.pairs c.reserve.ensures.draws c.reserve.ensures.kept) c.requires.can.1.fit

pub returns-in_err-reserve-clause-room : goal.returns-in_err-reserve-clause-room
returns-in_err-reserve-clause-room g c =
    let p = c.args.self.now in
    let q : Parts = record p { pairs = c.reserve.new.self } in
    steady_room p q (reserved_steady p c.reserve.new.self c.reserve.ensures.pairs c.reserve.ensures.draws c.reserve.ensures.kept) c.requires.can.1.room

pub with_deaths-requires : goal.with_deaths-requires
with_deaths-requires g c = subst (IsOf c.args.shelf.now) (sym c.front-front.ensures) c.requires.can.1.fit.front

pub returns-in_err-front-clause-err : goal.returns-in_err-front-clause-err
returns-in_err-front-clause-err g c = on_err c.from_residual-in_err-front.result (reserved_state c.args.self.now c.reserve.new.self c.reserve.ensures.pairs c.reserve.ensures.draws, refl)

pub returns-in_err-front-clause-fit : goal.returns-in_err-front-clause-fit
returns-in_err-front-clause-fit g c =
    let p = c.args.self.now in
    let q : Parts = record p { pairs = c.reserve.new.self } in
    steady_fit c.args.shelf.now p q (reserved_steady p c.reserve.new.self c.reserve.ensures.pairs c.reserve.ensures.draws c.reserve.ensures.kept) c.requires.can.1.fit

pub returns-in_err-front-clause-room : goal.returns-in_err-front-clause-room
returns-in_err-front-clause-room g c =
    let p = c.args.self.now in
    let q : Parts = record p { pairs = c.reserve.new.self } in
    steady_room p q (reserved_steady p c.reserve.new.self c.reserve.ensures.pairs c.reserve.ensures.draws c.reserve.ensures.kept) c.requires.can.1.room

pub take_visit-requires-clause-at : goal.take_visit-requires-clause-at
take_visit-requires-clause-at g c = c.requires.at

pub take_visit-requires-clause-can : goal.take_visit-requires-clause-can
take_visit-requires-clause-can g c = λ t s. (let a = can_accept c.args.shelf.now c.requires.can.0 c.args.self.now c.args.at t c.requires.can.1 s in record { units = a.units; counted = a.counted; small = a.small; room = a.room })

pub take_visit-requires-clause-front : goal.take_visit-requires-clause-front
take_visit-requires-clause-front g c = let v = c.args.visit.now in c.in_ok-front.ensures.entries ∙ ap (λ (z : Sight). z.entries ++ deaths_by v.killer v.falls.now) c.front-front.ensures

pub take_visit-requires-clause-rising : goal.take_visit-requires-clause-rising
take_visit-requires-clause-rising g c = c.requires.rising

pub take_visit-requires-clause-born : goal.take_visit-requires-clause-born
take_visit-requires-clause-born g c = c.requires.born

pub take_visit-requires-clause-few : goal.take_visit-requires-clause-few
take_visit-requires-clause-few g c = omega (arith, c.in_ok-count_of.ensures)

pub take_visit-requires-clause-room : goal.take_visit-requires-clause-room
take_visit-requires-clause-room g c = omega (arith, c.in_ok-count_of.ensures, c.in_ok-reserve.ensures.room)

pub take_visit-requires-clause-spare : goal.take_visit-requires-clause-spare
take_visit-requires-clause-spare g c = omega (arith, c.in_ok-count_of.ensures, c.in_ok-reserve.ensures.spare)

pub returns-clause-ok : goal.returns-clause-ok
returns-clause-ok g c = λ o t l s. (let p = c.args.self.now in
    let v = c.args.visit.now in
    let pairs = c.newly_waiting-pairs.result in
    let waits = c.in_ok-waiting.ensures.value ∙ c.waiting.ensures in
    let same = reserved_state p c.reserve.new.self c.reserve.ensures.pairs c.reserve.ensures.draws in
    keeps_visit o t v.fact v.killer v.falls.now v.overlaps.now (state_of p) (state_of c.take_visit.new.self) pairs _ (c.newly_waiting-pairs.ensures.value v.killer) waits (omega (arith, l))
    (c.take_visit.ensures.state t s ∙ ap (λ x. visited v.killer v.falls.now v.overlaps.now (is_met v.fact (accepts t (CommitMeet v.fact pairs (length v.falls.now)) x))) same))

pub returns-clause-fit : goal.returns-clause-fit
returns-clause-fit g c =
    let p = c.args.self.now in
    let q = c.take_visit.new.self in
    let v = c.args.visit.now in
    let at = c.requires.at in
    let pairs = c.newly_waiting-pairs.result in
    let r = c.take_visit.ensures.rest in
    let ended : HasEnded p c.args.at q = record { tasks = r.tasks; next = r.next; verdict = r.verdict; history = r.history; capacity = r.capacity } in
    let same = reserved_state p c.reserve.new.self c.reserve.ensures.pairs c.reserve.ensures.draws in
    let front : q.facts.front.entries ≡ p.facts.front.entries ++ deaths_by v.killer v.falls.now = ap (λ (z : Sight). z.entries) c.take_visit.ensures.front ∙ c.in_ok-front.ensures.entries ∙ ap (λ (z : Sight). z.entries ++ deaths_by v.killer v.falls.now) c.front-front.ensures in
    kept_fit c.args.shelf.now p q c.args.at at.0 v.fact pairs v.killer v.falls.now v.overlaps.now c.requires.can.1.fit at.1 (subst (IsOf c.args.shelf.now) (sym c.take_visit.ensures.front) c.in_ok-front.ensures.of) front ended
    (c.take_visit.ensures.state at.0 at.1 ∙ ap (λ x. visited v.killer v.falls.now v.overlaps.now (is_met v.fact (accepts at.0 (CommitMeet v.fact pairs (length v.falls.now)) x))) same)

pub returns-clause-room : goal.returns-clause-room
returns-clause-room g c =
    let p = c.args.self.now in
    let q = c.take_visit.new.self in
    let at = c.requires.at in
    let r = c.take_visit.ensures.rest in
    let ended : HasEnded p c.args.at q = record { tasks = r.tasks; next = r.next; verdict = r.verdict; history = r.history; capacity = r.capacity } in
    kept_room p q c.args.at at.0 c.requires.can.1.room at.1 ended (omega (arith, c.take_visit.ensures.spare, c.in_ok-count_of.ensures, c.in_ok-reserve.ensures.spare))
