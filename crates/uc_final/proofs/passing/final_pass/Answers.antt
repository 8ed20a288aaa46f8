use Rattle.std.proofs.Common.{◌≡◌, ◌++◌, map, sym, ap, ◌∙◌, subst}
use Rattle.std.proofs.lemmas.Result.{IfOk-weaker}
use Rattle.uc_fact.specs.Live.{AreRising}
use Rattle.uc_shelf.specs.Entries.{live}
use Rattle.uc_shelf.specs.Rising.{live_rise}
use Rattle.uc_machine.specs.Lists.{Each}
use Rattle.uc_machine.specs.Origins.{IsKnownOrigin}
use Rattle.uc_machine.specs.State.{State}
use Rattle.uc_machine.specs.Finals.{AllOverlaps, Tests, IsFinal, axioms_from, small_ones}
use Rattle.uc_task.specs.Living.{live_of}
use Rattle.uc_final.specs.Phases.{ByCases}
use Rattle.uc_final.specs.Stages.{stages_of}
use Rattle.uc_final.proofs.Overlapped.{all_known}
use Rattle.uc_final.proofs.Concluded.{concluded}
use Rattle.uc_final.proofs.passing.final_pass.Goals as goal

pub all_overlaps-requires-clause-rising : goal.all_overlaps-requires-clause-rising
all_overlaps-requires-clause-rising g c =
    let is : map live_of c.as_slice.result.now ≡ live c.args.front.now.entries = ap (map live_of) c.as_slice.ensures.value ∙ c.in_ok-facts.ensures in
    λ κs within. subst AreRising (sym is) (live_rise c.args.front.now.entries)

pub missing_among-requires-clause-known : goal.missing_among-requires-clause-known
missing_among-requires-clause-known g c =
    let m = g.O.Order.meaning c.args.order.now in
    let axioms = c.args.axioms.now in
    let es = c.args.front.now.entries in
    let fs = c.in_ok-overlaps.overlaps in
    let is : map live_of c.as_slice.result.now ≡ live es = ap (map live_of) c.as_slice.ensures.value ∙ c.in_ok-facts.ensures in
    let from : c.as_slice-3.result.now ≡ axioms_from 0 axioms ++ small_ones fs = c.as_slice-3.ensures.value ∙ c.in_ok-origins.ensures ∙ ap (λ l. axioms_from 0 axioms ++ small_ones l) c.as_slice-2.ensures in
    λ κs within. subst (Each (IsKnownOrigin m axioms es)) (sym from) (all_known m es axioms fs (subst (λ js. AllOverlaps m js js fs) is c.in_ok-overlaps.ensures))

pub returns-clause-outcome : goal.returns-clause-outcome
returns-clause-outcome g c =
    let m = g.O.Order.meaning c.args.order.now in
    let axioms = c.args.axioms.now in
    let es = c.args.front.now.entries in
    let fs = c.in_ok-overlaps.overlaps in
    let ms = c.in_ok-missing.missing in
    let stages = c.args.stages.now in
    let facts = map live_of c.in_ok-facts.facts.items in
    let from : c.as_slice-3.result.now ≡ axioms_from 0 axioms ++ small_ones fs = c.as_slice-3.ensures.value ∙ c.in_ok-origins.ensures ∙ ap (λ l. axioms_from 0 axioms ++ small_ones l) c.as_slice-2.ensures in
    let all : AllOverlaps m facts facts fs = subst (λ js. AllOverlaps m js js fs) (ap (map live_of) c.as_slice.ensures.value) c.in_ok-overlaps.ensures in
    let tests : Tests m axioms es (axioms_from 0 axioms ++ small_ones fs) ms = subst (λ os. Tests m axioms es os ms) from c.in_ok-missing.ensures in
    IfOk-weaker c.answer.result (ByCases ms c.as_slice-4.result.now stages facts)
    (λ outcome. (s : State) → s.entries ≡ es → stages_of s.goals ≡ stages → IsFinal m axioms s outcome)
    (λ outcome h s e k. concluded m axioms s fs ms stages es facts outcome e c.in_ok-facts.ensures all tests k (subst (λ l. ByCases ms l stages facts outcome) c.as_slice-4.ensures h))
    c.answer.ensures
