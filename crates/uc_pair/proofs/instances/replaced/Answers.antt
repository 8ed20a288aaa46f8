use Rattle.std.proofs.Common.{Result, Ok, Err, IfOk, sym, ap, ◌∙◌, subst}
use Rattle.uc_term.specs.Path.{at_position}
use Rattle.uc_term.specs.Positions.{IsPlaceOf}
use Rattle.uc_pair.proofs.Replacing.{part_is_large, is_replaced, no_such_position, instance_there, instance_gone, instance_small}
use Rattle.uc_pair.proofs.instances.replaced.Goals as goal

if_ok : {A E : Type 0} (P Q : A → Type 0) → ((a : A) → P a → Q a) → (r : Result A E) → IfOk r P → IfOk r Q
if_ok P Q f (Ok a) p = f a p
if_ok P Q f (Err e) p = tt

pub returns-in_default-part : goal.returns-in_default-part
returns-in_default-part c = λ σ v whole part. part_is_large σ c.args.term.now v c.args.place c.requires (instance_gone σ v c.args.part.now (λ u e. c.in_default-part.not-Some u e) part)

pub returns-in_default-pos_of : goal.returns-in_default-pos_of
returns-in_default-pos_of c = λ σ v whole part. absurd (no_such_position σ c.args.term.now c.in-Some.whole c.in_ok-path.path c.args.place c.in_ok-path.ensures (instance_there σ c.args.term.now c.args.instance.now c.in-Some.whole c.in-Some.is whole) (ap (at_position c.in-Some.whole) (sym c.as_slice.ensures) ∙ c.in_default-pos_of.ensures))

pub returns : goal.returns
returns c = if_ok _ _ (λ placed is σ v whole part. is_replaced σ c.args.term.now v c.in-Some.whole c.in-Some-part.part c.in_ok-path.path c.args.place c.in-Some-pos_of.there.0 c.in_ok-path.ensures (subst (λ p. IsPlaceOf c.in-Some.whole p c.in-Some-pos_of.there.0) c.as_slice.ensures c.in-Some-pos_of.ensures) (instance_there σ c.args.term.now c.args.instance.now c.in-Some.whole c.in-Some.is whole) (instance_small σ c.args.term.now c.args.instance.now c.in-Some.whole c.in-Some.is whole) (instance_there σ v c.args.part.now c.in-Some-part.part c.in-Some-part.is part) placed is) c.put_part.result c.put_part.ensures
