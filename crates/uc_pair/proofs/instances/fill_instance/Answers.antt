use Rattle.std.proofs.Common.{Result, Ok, Err, IfOk}
use Rattle.std.specs.List.{flat_map}
use Rattle.uc_term.specs.Tree.{apply}
use Rattle.uc_term.specs.Subst.{image}
use Rattle.uc_term.proofs.Instances.{node_image}
use Rattle.uc_pair.proofs.Added.{filled_by, images_of}
use Rattle.uc_pair.proofs.instances.fill_instance.Goals as goal

if_ok : {A E : Type 0} (P Q : A → Type 0) → ((a : A) → P a → Q a) → (r : Result A E) → IfOk r P → IfOk r Q
if_ok P Q f (Ok a) p = f a p
if_ok P Q f (Err e) p = tt

pub returns : goal.returns
returns c =
    let σ = image c.args.subst.now in
    if_ok _ _
    (λ b a. filled_by (apply σ c.args.term.now) (flat_map (node_image σ) c.as_nodes.result.now) c.clear.new.self.items c.add_instance.new.list.items b c.clear.ensures.items (images_of σ c.as_nodes.result.now c.args.term.now c.as_nodes.ensures.whole c.as_nodes.ensures.tree) a)
    c.add_instance.result c.add_instance.ensures
