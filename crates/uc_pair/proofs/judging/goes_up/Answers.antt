use Rattle.std.proofs.Common.{IsTrue, false, subst, sym}
use Rattle.uc_term.specs.Tree.{apply}
use Rattle.uc_term.specs.Flat.{tree_of}
use Rattle.uc_term.specs.Subst.{image}
use Rattle.uc_pair.specs.Listing.{AtMost}
use Rattle.uc_pair.specs.Reading.{rule_read}
use Rattle.uc_pair.proofs.Judged.{never_stays}
use Rattle.uc_pair.proofs.Filled.{held}
use Rattle.uc_pair.proofs.judging.goes_up.Goals as goal

not_true : IsTrue false → ⊥
not_true h = cc

pub returns-then-rule : goal.returns-then-rule
returns-then-rule g c = (
  λ h. absurd (not_true h),
  λ s. absurd (never_stays (g.O.Order.meaning c.args.order.now) (g.met.O.Order.laws c.args.order.now) (rule_read c.args.rule.now) (image c.args.subst.now) c.args.from.now c.args.to.now (c.requires.told.always c.if-rule.true) c.requires.renamed s),
)

pub is_at_most-requires-clause-s_whole : goal.is_at_most-requires-clause-s_whole
is_at_most-requires-clause-s_whole g c = (held (apply (image c.args.subst.now) c.args.from.now) c.fill_instance.new.list.items c.as_slice.result.now c.in_ok-fill_instance.field-0 c.if-not-branch.false c.as_slice.ensures.value c.in_ok-fill_instance.ensures).whole

pub is_at_most-requires-clause-t_whole : goal.is_at_most-requires-clause-t_whole
is_at_most-requires-clause-t_whole g c = (held (apply (image c.args.subst.now) c.args.to.now) c.fill_instance-2.new.list.items c.as_slice-2.result.now c.in_ok-fill_instance-2.field-0 c.if-not-branch-2.false c.as_slice-2.ensures.value c.in_ok-fill_instance-2.ensures).whole

pub is_at_most-requires-clause-s_small : goal.is_at_most-requires-clause-s_small
is_at_most-requires-clause-s_small g c = (held (apply (image c.args.subst.now) c.args.from.now) c.fill_instance.new.list.items c.as_slice.result.now c.in_ok-fill_instance.field-0 c.if-not-branch.false c.as_slice.ensures.value c.in_ok-fill_instance.ensures).short

pub is_at_most-requires-clause-t_small : goal.is_at_most-requires-clause-t_small
is_at_most-requires-clause-t_small g c = (held (apply (image c.args.subst.now) c.args.to.now) c.fill_instance-2.new.list.items c.as_slice-2.result.now c.in_ok-fill_instance-2.field-0 c.if-not-branch-2.false c.as_slice-2.ensures.value c.in_ok-fill_instance-2.ensures).short

pub returns : goal.returns
returns g c =
    let G = (g.O.Order.meaning c.args.order.now).greater in
    let s = held (apply (image c.args.subst.now) c.args.from.now) c.fill_instance.new.list.items c.as_slice.result.now c.in_ok-fill_instance.field-0 c.if-not-branch.false c.as_slice.ensures.value c.in_ok-fill_instance.ensures in
    let t = held (apply (image c.args.subst.now) c.args.to.now) c.fill_instance-2.new.list.items c.as_slice-2.result.now c.in_ok-fill_instance-2.field-0 c.if-not-branch-2.false c.as_slice-2.ensures.value c.in_ok-fill_instance-2.ensures in (
      λ h. (s.small, t.small, subst (λ v. AtMost G (apply (image c.args.subst.now) c.args.from.now) v) t.tree (subst (λ u. AtMost G u (tree_of c.as_slice-2.result.now)) s.tree (c.is_at_most.ensures.0 h))),
      λ stays. c.is_at_most.ensures.1 (subst (λ v. AtMost G (tree_of c.as_slice.result.now) v) (sym t.tree) (subst (λ u. AtMost G u (apply (image c.args.subst.now) c.args.to.now)) (sym s.tree) stays.2)),
    )
