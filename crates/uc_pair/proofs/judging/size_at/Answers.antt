use Rattle.std.proofs.Common.{◌≡◌, Bool, true, false, IsTrue, Result, Ok, Err, IfOk}
use Rattle.uc_term.specs.Tree.{subterm}
use Rattle.uc_term.specs.Flat.{tree_of}
use Rattle.uc_term.specs.Subst.{image}
use Rattle.uc_unify.specs.declared.unification.UnifiedIn.TheVariants.{Unifier, Apart, TooLarge}
use Rattle.uc_pair.specs.Reading.{rule_read}
use Rattle.uc_pair.specs.Judging.{IsJudged, IsJudgedBy}
use Rattle.uc_pair.proofs.Parts.{lent_is}
use Rattle.uc_pair.proofs.Judged.{judged_by, judged_large, judged_apart, judged_repeated, part_renamed}
use Rattle.uc_pair.proofs.Uniqueness.{leads_up_alike}
use Rattle.uc_pair.proofs.judging.size_at.Goals as goal

clashed : (b : Bool) → b ≡ false → IsTrue b → ⊥
clashed true e h = cc
clashed false e h = cc

if_ok : {A E : Type 0} (P Q : A → Type 0) → ((a : A) → P a → Q a) → (r : Result A E) → IfOk r P → IfOk r Q
if_ok P Q f (Ok a) p = f a p
if_ok P Q f (Err e) p = tt

pub returns-then-is_repeated : goal.returns-then-is_repeated
returns-then-is_repeated g c = judged_repeated (g.O.Order.meaning c.args.order.now) (rule_read c.args.outer.now) (rule_read c.args.inner.now) c.args.there.place c.requires.fit.is_part.inside (c.is_repeated.ensures.0 c.if-is_repeated.true)

pub part-requires : goal.part-requires
part-requires g c = part_renamed (rule_read c.args.outer.now) (rule_read c.args.inner.now) c.args.there c.args.terms.now c.requires.apart c.requires.fit.is_part

pub judged-requires : goal.judged-requires
judged-requires g c = record { apart = c.requires.apart; outer_told = c.requires.outer_told; inner_told = c.requires.inner_told; part = part_renamed (rule_read c.args.outer.now) (rule_read c.args.inner.now) c.args.there c.args.terms.now c.requires.apart c.requires.fit.is_part }

pub returns-in-Apart : goal.returns-in-Apart
returns-in-Apart g c =
    judged_apart (rule_read c.args.outer.now) (rule_read c.args.inner.now) c.args.there.place c.args.terms.now c.requires.apart c.requires.fit.is_part.inside (g.O.Order.meaning c.args.order.now)
    (lent_is (tree_of c.part.result.now) (tree_of c.as_nodes.result.now) (subterm c.args.terms.now.outer_from c.args.there.place) c.args.terms.now.inner_from c.unify_in.new.subst c.in_ok-unify_in.field-0 Apart c.part.ensures.tree c.as_nodes.ensures.tree c.in-Apart.is c.in_ok-unify_in.ensures)

pub returns-in-TooLarge : goal.returns-in-TooLarge
returns-in-TooLarge g c =
    judged_large (rule_read c.args.outer.now) (rule_read c.args.inner.now) c.args.there.place c.args.terms.now c.requires.apart c.requires.fit.is_part.inside
    c.requires.fit.symbol
    (g.O.Order.meaning c.args.order.now) c.requires.outer_down c.requires.inner_down (λ r. clashed c.is_repeated.result c.if-is_repeated.false (c.is_repeated.ensures.1 r))
    (lent_is (tree_of c.part.result.now) (tree_of c.as_nodes.result.now) (subterm c.args.terms.now.outer_from c.args.there.place) c.args.terms.now.inner_from c.unify_in.new.subst c.in_ok-unify_in.field-0 TooLarge c.part.ensures.tree c.as_nodes.ensures.tree c.in-TooLarge.is c.in_ok-unify_in.ensures)

pub returns-in-Unifier : goal.returns-in-Unifier
returns-in-Unifier g c =
    let unifier = lent_is (tree_of c.part.result.now) (tree_of c.as_nodes.result.now) (subterm c.args.terms.now.outer_from c.args.there.place) c.args.terms.now.inner_from c.unify_in.new.subst c.in_ok-unify_in.field-0 Unifier c.part.ensures.tree c.as_nodes.ensures.tree c.in-Unifier.is c.in_ok-unify_in.ensures in
    if_ok (IsJudgedBy (g.O.Order.meaning c.args.order.now).greater c.args.terms.now c.args.there.place (image c.unify_in.new.subst)) (IsJudged (g.O.Order.meaning c.args.order.now).greater (rule_read c.args.outer.now) (rule_read c.args.inner.now) c.args.there.place)
    (λ size by. judged_by (rule_read c.args.outer.now) (rule_read c.args.inner.now) c.args.there.place c.args.terms.now c.requires.apart c.requires.fit.is_part.inside
    c.requires.fit.symbol
    (g.O.Order.meaning c.args.order.now) (g.met.O.Order.laws c.args.order.now) c.requires.outer_down c.requires.inner_down (λ r. clashed c.is_repeated.result c.if-is_repeated.false (c.is_repeated.ensures.1 r)) (leads_up_alike (g.O.Order.meaning c.args.order.now) (g.met.O.Order.laws c.args.order.now) (rule_read c.args.outer.now) (rule_read c.args.inner.now) c.args.there.place)
    (image c.unify_in.new.subst) unifier.most_general size by)
    c.judged.result c.judged.ensures
