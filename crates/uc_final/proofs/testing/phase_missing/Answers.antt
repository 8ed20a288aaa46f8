use Rattle.std.proofs.Common.{◌≡◌, IfOk, length, sym, ap, ◌∙◌, subst, arith}
use Rattle.uc_machine.specs.Lists.{Each}
use Rattle.uc_machine.specs.Origins.{IsKnownOrigin}
use Rattle.uc_final.specs.Made.{IsMade}
use Rattle.uc_final.specs.Phases.{IsTested}
use Rattle.uc_final.proofs.Gathered.{no_items, refilled, origins_of, test_known, same_origins, Continues, phases_begin, phases_end, test_on, all_made}
use Rattle.uc_final.proofs.testing.phase_missing.Goals as goal

pub test_all-requires-clause-known : goal.test_all-requires-clause-known
test_all-requires-clause-known g c =
    let P = IsKnownOrigin (g.O.Order.meaning c.args.order.now) c.args.axioms.now c.args.front.now.entries in
    let is : origins_of c.as_mut_slice.result.now ≡ c.args.origins.now = ap origins_of c.as_mut_slice.ensures.value ∙ c.in_ok-tests.ensures in
    λ κs within k d l. test_known P c.as_mut_slice.result.now (subst (Each P) (sym is) c.requires.known) k d l

pub loop-test-init : goal.loop-test-init
loop-test-init g c =
    let m = g.O.Order.meaning c.args.order.now in
    let axioms = c.args.axioms.now in
    let es = c.args.front.now.entries in
    let olds = c.as_mut_slice.result.now in
    let news = c.test_all.new.tests in
    let long : length news ≡ length olds = c.test_all.ensures.len in
    let rest : c.into_iter-test-iterator.result.rest.items ≡ news = c.into_iter-test-iterator.ensures.into_iter_gives.0 ∙ refilled c.in_ok-tests.tests.len news _ (long ∙ c.as_mut_slice.ensures.len) in
    let is : origins_of news ≡ c.args.origins.now = same_origins olds news long c.test_all.ensures.origins ∙ ap origins_of c.as_mut_slice.ensures.value ∙ c.in_ok-tests.ensures in
    let made : Each (IsMade m axioms es) news = all_made m axioms es news (λ k d l. c.test_all.ensures.made k d (omega (arith, long))) in
    (tt, tt, subst (Each (IsMade m axioms es)) (sym rest) made, subst (λ os. Continues m axioms es c.args.origins.now os c.new-list.result) (sym (ap origins_of rest ∙ is)) (phases_begin m axioms es c.args.origins.now c.new-list.result c.new-list.ensures))

pub loop-test-preserved : goal.loop-test-preserved
loop-test-preserved g c =
    let m = g.O.Order.meaning c.args.order.now in
    let axioms = c.args.axioms.now in
    let es = c.args.front.now.entries in
    let t = c.in-Some.test in
    let rest = c.next.new.self.rest.items in
    let x = c.in_ok-test.field-0 in
    let made = subst (Each (IsMade m axioms es)) c.in-Some.ensures.steps.0 c.loop-test.invariant.2 in
    let so_far = subst (λ ts. Continues m axioms es c.args.origins.now (origins_of ts) c.loop-test.list) c.in-Some.ensures.steps.0 c.loop-test.invariant.3 in
    let here : IsTested m axioms es t.origin x = subst (λ r. IfOk r (IsTested m axioms es t.origin)) c.in_ok-test.was made.0 in
    (tt, tt, made.1, test_on m axioms es c.args.origins.now t rest x c.loop-test.list c.add.new.list here c.in_ok-add.ensures so_far)

pub returns : goal.returns
returns g c =
    let left = c.loop-test.test-iterator.rest.items in
    let none = no_items left (sym c.loop-test.test-iterator.rest.ok.0 ∙ c.in-None.ensures.steps.0) in
    phases_end (g.O.Order.meaning c.args.order.now) c.args.axioms.now c.args.front.now.entries c.args.origins.now (origins_of left) c.loop-test.list (ap origins_of none) c.loop-test.invariant.3
