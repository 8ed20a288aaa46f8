use Rattle.std.proofs.Common.{◌≡◌, ◌∷◌, ◌+◌, ◌-◌, length, sym, ap, subst, ◌∙◌, arith}
use Rattle.std.specs.Prelude.{Ok}
use Rattle.std.specs.Vec.Iter.{into_iter_items}
use Rattle.uc_fact.specs.Live.{numbered}
use Rattle.uc_decide.proofs.Shares.{no_items, remain_fewer, hands_are, hands_begin, hands_on, hands_end, some_hand, AreHands}
use Rattle.uc_decide.proofs.asking_all.ask_together.Goals as goal

pub loop-hand-init : goal.loop-hand-init
loop-hand-init g c =
    let m = g.O.Order.meaning c.args.order.now in
    let facts = numbered c.args.system.now.facts in
    let qs = c.args.questions.now in
    let items = c.in_ok-hands.hands.items in
    let long : length items ≡ c.args.workers - 1 + 1 = (let a = c.in_ok-hands.hands.ok in let b = c.in_ok-hands.ensures.len in let s = c.requires.some_workers in omega (arith, a, b, s)) in
    let are = hands_are into_iter_items m facts c.args.steps (c.args.workers - 1) qs items long (λ j d l. c.in_ok-hands.ensures.each j d (let s = c.requires.some_workers in omega (arith, l, long, s))) in
    hands_begin into_iter_items m facts c.args.steps (c.args.workers - 1) qs c.from-hands.result.items c.new-replies.result c.new-replies.ensures
    (subst (AreHands into_iter_items m facts c.args.steps (c.args.workers - 1) qs 0) (sym c.from-hands.ensures.0) are)

pub returns-in_default-next : goal.returns-in_default-next
returns-in_default-next g c =
    let h = c.in_ok-hand.hand in
    let others = c.pop_front.new.self.items in
    let was : c.loop-hand.hands.items ≡ Ok h ∷ others = c.in-Some.ensures.items ∙ ap (λ x. x ∷ others) c.in_ok-hand.was in
    hands_end into_iter_items (g.O.Order.meaning c.args.order.now) (numbered c.args.system.now.facts) c.args.steps (c.args.workers - 1) c.args.questions.now c.loop-hand.hands.items others h c.loop-hand.replies was
    (no_items (into_iter_items h) (sym h.rest.ok.0 ∙ c.in_default-next.ensures.cases.0))
    c.loop-hand.invariant

pub loop-hand-smaller : goal.loop-hand-smaller
loop-hand-smaller g c =
    let h = c.in_ok-hand.hand in
    let others = c.pop_front.new.self.items in
    let was : c.loop-hand.hands.items ≡ Ok h ∷ others = c.in-Some.ensures.items ∙ ap (λ x. x ∷ others) c.in_ok-hand.was in
    remain_fewer into_iter_items c.loop-hand.hands.items others c.push_back.new.self.items h c.next.new.self c.in-Some-next.reply was c.in-Some-next.ensures.items c.in_ok-push_back.ensures.items

pub loop-hand-preserved : goal.loop-hand-preserved
loop-hand-preserved g c =
    let h = c.in_ok-hand.hand in
    let others = c.pop_front.new.self.items in
    let was : c.loop-hand.hands.items ≡ Ok h ∷ others = c.in-Some.ensures.items ∙ ap (λ x. x ∷ others) c.in_ok-hand.was in
    hands_on into_iter_items (g.O.Order.meaning c.args.order.now) (numbered c.args.system.now.facts) c.args.steps (c.args.workers - 1) c.args.questions.now c.loop-hand.hands.items others c.push_back.new.self.items h c.next.new.self c.in-Some-next.reply c.loop-hand.replies c.push.new.self was c.in-Some-next.ensures.items c.in_ok-push_back.ensures.items c.in_ok-push.ensures.ok c.loop-hand.invariant

pub returns : goal.returns
returns g c = absurd (some_hand into_iter_items (g.O.Order.meaning c.args.order.now) (numbered c.args.system.now.facts) c.args.steps (c.args.workers - 1) c.args.questions.now c.loop-hand.hands.items c.loop-hand.replies (no_items c.loop-hand.hands.items (sym c.loop-hand.hands.ok.0 ∙ c.in_default.ensures.cases.0)) c.loop-hand.invariant)
