use Rattle.std.proofs.Common.{rules, arith, refl, ◌≡◌, None, ◌∙◌, ap}
use Rattle.uc_machine.specs.Runs.{opened}
use Rattle.uc_rows.specs.RowViews.{PairsView}
use Rattle.uc_rows.specs.PairRows.{pairs_view}
use Rattle.uc_book.specs.declared.parts.Parts.{Parts}
use Rattle.uc_book.proofs.Beginning.{opened_state, opened_fit, opened_room}
use Rattle.uc_book.proofs.starting.opened.Goals as goal

pub returns-clause-state : goal.returns-clause-state
returns-clause-state c = λ o e.
    (let pairs : PairsView = pairs_view c.pairs.inside in
    let same : pairs ≡ c.args.pairs = c.pairs.view_is in
    opened_state o c.new.result pairs c.in_ok-new.field-0 c.new-3.result.items c.in_ok-no_numbers.field-0.items c.reserve.new.self.items
    c.new.ensures.entries c.new.ensures.meetings (ap (λ (x : PairsView). x.draws) same ∙ c.requires.draws) (search (rules, c.in_ok-new.ensures, e)) c.new-3.ensures.items c.in_ok-no_numbers.ensures (c.reserve.ensures.items ∙ c.new-history.ensures.items)
    ∙ ap (λ (x : PairsView). opened o x.pairs) same)

pub returns-clause-fit : goal.returns-clause-fit
returns-clause-fit c = λ shelf.
    (let p : Parts = record { facts = c.new.result; pairs = pairs_view c.pairs.inside; goals = c.in_ok-new.field-0; tasks = c.new-3.result; next = 0; counted = 0; reserved = 0; verdict = None; numbers = c.in_ok-no_numbers.field-0; history = c.reserve.new.self } in
    opened_fit shelf p c.new.ensures.homes refl c.new-3.ensures.items c.in_ok-no_numbers.ensures (c.reserve.ensures.items ∙ c.new-history.ensures.items))

pub returns-clause-room : goal.returns-clause-room
returns-clause-room c =
    let p : Parts = record { facts = c.new.result; pairs = pairs_view c.pairs.inside; goals = c.in_ok-new.field-0; tasks = c.new-3.result; next = 0; counted = 0; reserved = 0; verdict = None; numbers = c.in_ok-no_numbers.field-0; history = c.reserve.new.self } in
    opened_room p c.new-3.ensures.items refl (omega (arith, c.in_ok-reserve.ensures.ok))
