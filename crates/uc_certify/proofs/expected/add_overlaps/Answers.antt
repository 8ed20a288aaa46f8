use Rattle.std.proofs.Common.{◌≡◌, Some, length, slice_get, refl, arith, ap, ◌∙◌, ◌++◌}
use Rattle.std.proofs.lemmas.Option.{slice_get_read}
use Rattle.uc_certify.specs.Expecting.{members_of}
use Rattle.uc_certify.proofs.Gathered.{first_none, first_next, first_end, known_next}
use Rattle.uc_certify.proofs.expected.add_overlaps.Goals as goal

pub loop-i-init : goal.loop-i-init
loop-i-init g c = (first_none (g.O.Order.meaning c.args.order.now).greater c.args.k c.index-facts-k.result c.args.facts.now c.args.members.now.items, λ axioms h. h)

pub loop-i-preserved : goal.loop-i-preserved
loop-i-preserved g c =
    let facts = c.args.facts.now in
    let Greater = (g.O.Order.meaning c.args.order.now).greater in
    let old = c.loop-i.members.items in
    let new = c.add_members.new.members.items in
    let list = c.in_ok-list.list in
    let at_k : slice_get facts c.args.k ≡ Some c.index-facts-k.result = slice_get_read facts (length facts) c.args.k c.index-facts-k.result refl c.requires.inside c.index-facts-k.is in
    let at_i : slice_get facts c.loop-i.i ≡ Some c.index-facts-i.result = slice_get_read facts (length facts) c.loop-i.i c.index-facts-i.result refl c.loop-i-test.true c.index-facts-i.is in
    let added : new ≡ old ++ members_of list = c.in_ok-add_members.ensures ∙ ap (λ l. old ++ members_of l) c.as_slice.ensures in (
      first_next Greater c.args.k c.index-facts-k.result facts c.loop-i.i c.index-facts-i.result c.args.members.now.items old new list c.loop-i-test.true c.index-facts-i.is c.in_ok-list.ensures.list added c.loop-i.invariant.0,
      λ axioms h. known_next facts axioms c.args.k c.loop-i.i c.index-facts-k.result c.index-facts-i.result at_k at_i Greater list old new c.in_ok-list.ensures.list c.in_ok-list.ensures.formed added (c.loop-i.invariant.1 axioms h),
    )

pub returns-clause-added : goal.returns-clause-added
returns-clause-added g c =
    let facts = c.args.facts.now in
    let at_k : slice_get facts c.args.k ≡ Some c.index-facts-k.result = slice_get_read facts (length facts) c.args.k c.index-facts-k.result refl c.requires.inside c.index-facts-k.is in
    first_end (g.O.Order.meaning c.args.order.now).greater c.args.k c.index-facts-k.result facts c.loop-i.i c.args.members.now.items c.loop-i.members.items at_k (omega (arith, c.loop-i-test.false)) c.loop-i.invariant.0
