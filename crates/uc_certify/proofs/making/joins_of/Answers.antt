use Rattle.std.proofs.Common.{List, sym, subst}
use Rattle.std.proofs.lemmas.List.{drop_more}
use Rattle.std.proofs.Math.ListN.{drop_of_length-le}
use Rattle.uc_order.specs.Members.{Each}
use Rattle.uc_certify.specs.declared.expected.Member.{Member}
use Rattle.uc_certify.specs.Gathering.{IsKnownMember}
use Rattle.uc_certify.specs.Making.{IsFoundJoined, AreMadeFor}
use Rattle.uc_certify.proofs.MadeJoins.{joining_begins, known_here, found_here, joining_on, joining_ends}
use Rattle.uc_certify.proofs.making.joins_of.Goals as goal

pub loop-member-init : goal.loop-member-init
loop-member-init g c =
    joining_begins (g.O.Order.meaning c.args.order.now) c.args.facts.now c.args.axioms.now c.as_slice-list.result.now c.new-joins.result.items
    (subst (Each (IsKnownMember c.args.facts.now c.args.axioms.now)) (sym c.as_slice-list.ensures.value) c.in_ok-members.ensures.known)
    (subst (Each (IsFoundJoined (g.O.Order.meaning c.args.order.now) c.args.facts.now c.args.axioms.now)) (sym c.as_slice-list.ensures.value) (c.requires.joined c.in_ok-members.members.items c.in_ok-members.ensures.expected))
    c.new-joins.ensures.items

pub join_for-requires-clause-known : goal.join_for-requires-clause-known
join_for-requires-clause-known g c = known_here (g.O.Order.meaning c.args.order.now) c.args.facts.now c.args.axioms.now c.as_slice-list.result.now c.loop-member.member-index _ c.loop-member.joins.items c.loop-member.invariant (drop_more c.as_slice-list.result.now c.loop-member.member-index _ c.loop-member-test.true)

pub join_for-requires-clause-joined : goal.join_for-requires-clause-joined
join_for-requires-clause-joined g c = found_here (g.O.Order.meaning c.args.order.now) c.args.facts.now c.args.axioms.now c.as_slice-list.result.now c.loop-member.member-index _ c.loop-member.joins.items c.loop-member.invariant (drop_more c.as_slice-list.result.now c.loop-member.member-index _ c.loop-member-test.true)

pub loop-member-preserved : goal.loop-member-preserved
loop-member-preserved g c =
    joining_on (g.O.Order.meaning c.args.order.now) c.args.facts.now c.args.axioms.now c.as_slice-list.result.now c.loop-member.member-index _ c.loop-member.joins.items c.loop-member.invariant (drop_more c.as_slice-list.result.now c.loop-member.member-index _ c.loop-member-test.true)
    c.in_ok-join_for.field-0 c.push.new.self.items c.in_ok-join_for.ensures c.in_ok-push.ensures.items

pub returns : goal.returns
returns g c =
    let m = g.O.Order.meaning c.args.order.now in
    let made = joining_ends m c.args.facts.now c.args.axioms.now c.as_slice-list.result.now c.loop-member.member-index c.loop-member.joins.items c.loop-member.invariant (drop_of_length-le c.as_slice-list.result.now c.loop-member-test.false) in
    record {
      members = c.in_ok-members.members.items;
      are_expected = c.in_ok-members.ensures.expected;
      known = c.in_ok-members.ensures.known;
      made = subst (AreMadeFor m c.args.facts.now c.args.axioms.now c.in_ok-members.members.items) (sym c.from_vec.ensures) (subst (λ (xs : List Member). AreMadeFor m c.args.facts.now c.args.axioms.now xs c.loop-member.joins.items) c.as_slice-list.ensures.value made);
    }
